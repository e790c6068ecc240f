use Rattle.std.proofs.Common.{length}
use Rattle.plain_form.proofs.value.«+numbers».Given as goal

-- one pair less at each call
abbrev pub decreases-numbers : goal.decreases-numbers
decreases-numbers l = length l.pairs.now

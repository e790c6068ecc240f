use Rattle.std.proofs.Common.{length}
use Rattle.plain_form.proofs.lines.«+named_by_roots».Given as goal

-- one array less at each call
abbrev pub decreases-named_by_roots : goal.decreases-named_by_roots
decreases-named_by_roots l = length l.arrays.now

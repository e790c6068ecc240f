use Rattle.std.proofs.Common.{length}
use Rattle.plain_form.proofs.lines.«+visit_each».Given as goal

-- one array less at each call
abbrev pub decreases-visit_each : goal.decreases-visit_each
decreases-visit_each l = length l.arrays.now

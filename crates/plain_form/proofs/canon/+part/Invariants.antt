use Rattle.std.proofs.Common.{◌+◌, ◌*◌}
use Rattle.plain_form.proofs.canon.«+part».Given as goal

-- the levels, and within one the parts that are left
abbrev pub decreases-part : goal.decreases-part
decreases-part l = 10 * l.level

abbrev pub decreases-parts : goal.decreases-parts
decreases-parts l = 10 * l.level + 1 + l.count

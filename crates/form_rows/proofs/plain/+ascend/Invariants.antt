use Rattle.std.proofs.Common.{length}
use Rattle.form_rows.proofs.plain.+ascend.Given as goal

abbrev pub decreases-ascend : goal.decreases-ascend
decreases-ascend l = length l.changes.now

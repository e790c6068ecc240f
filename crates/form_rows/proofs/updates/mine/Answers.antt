use Rattle.std.proofs.Common.{refl}
use Rattle.seg_changes.proofs.Examples.{one_root}
use Rattle.form_rows.proofs.updates.mine.Goals as goal

pub returns : goal.returns
returns c = λ m. one_root m _ refl

use Rattle.std.proofs.Common.{refl}
use Rattle.seg_read.proofs.Examples.{packed_root}
use Rattle.form_rows.proofs.reads.packed.Goals as goal

pub returns : goal.returns
returns c = λ m. packed_root m _ refl

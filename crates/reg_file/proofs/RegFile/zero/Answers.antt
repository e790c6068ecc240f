use Rattle.std.proofs.Common.{refl}
use Rattle.reg_file.proofs.Others.{none_at_first}
use Rattle.reg_file.proofs.RegFile.zero.Goals as goal

pub invariant_of-result : goal.invariant_of-result
invariant_of-result c = (refl, none_at_first 8 c.num.result c.num.ensures.value)

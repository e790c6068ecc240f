use Rattle.hic_task.proofs.OnNumbers.{one_bit}
use Rattle.hic_task.proofs.numbers.bit.Goals as goal

pub returns : goal.returns
returns c = one_bit c.args.r c.get.result c.get.ensures.number c.get.ensures.bound

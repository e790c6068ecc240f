use Rattle.hic_task.proofs.OnNumbers.{bits_set}
use Rattle.hic_task.proofs.numbers.bits.Goals as goal

pub returns : goal.returns
returns c = bits_set c.bit.result c.bit-2.result c.bit-3.result c.args.a c.args.b c.args.c c.bit.ensures c.bit-2.ensures c.bit-3.ensures

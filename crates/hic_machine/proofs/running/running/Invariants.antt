use Rattle.std.proofs.Common.{take}
use Rattle.hic_machine.proofs.RunningBits.{AreBits}
use Rattle.hic_machine.proofs.running.running.Given as goal

abbrev pub invariant-loop-number : goal.invariant-loop-number
invariant-loop-number l = AreBits l.bits (take l.number l.tasks)

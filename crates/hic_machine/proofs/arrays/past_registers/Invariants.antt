use Rattle.hic_machine.proofs.Seeking.{Going, alone}
use Rattle.hic_machine.proofs.arrays.past_registers.Given as goal

abbrev pub invariant-loop-r : goal.invariant-loop-r
invariant-loop-r l = Going alone l.regs l.k l.r l.left

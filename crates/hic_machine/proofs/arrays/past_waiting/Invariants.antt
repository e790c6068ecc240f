use Rattle.hic_machine.proofs.Seeking.{Going, waiting_of}
use Rattle.hic_machine.proofs.arrays.past_waiting.Given as goal

abbrev pub invariant-loop-iter : goal.invariant-loop-iter
invariant-loop-iter l = Going waiting_of l.iters l.k l.iter-index l.left

use Rattle.hic_machine.proofs.Seeking.{Going, snapshot_of}
use Rattle.hic_machine.proofs.arrays.past_snapshots.Given as goal

abbrev pub invariant-loop-iter : goal.invariant-loop-iter
invariant-loop-iter l = Going snapshot_of l.iters l.k l.iter-index l.left

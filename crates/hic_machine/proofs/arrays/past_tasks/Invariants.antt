use Rattle.hic_machine.specs.Held.{ordered_words}
use Rattle.hic_machine.proofs.Seeking.{Going}
use Rattle.hic_machine.proofs.arrays.past_tasks.Given as goal

abbrev pub invariant-loop-task : goal.invariant-loop-task
invariant-loop-task l = Going ordered_words l.tasks l.k l.task-index l.left

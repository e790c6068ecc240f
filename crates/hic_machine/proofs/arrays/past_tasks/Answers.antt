use Rattle.std.proofs.Common.{◌∙◌}
use Rattle.hic_machine.specs.Held.{ordered_words}
use Rattle.hic_machine.proofs.Seeking.{goes_on, stops}
use Rattle.hic_machine.proofs.arrays.past_tasks.Goals as goal

pub returns-in_err-left : goal.returns-in_err-left
returns-in_err-left c = c.from_residual.ensures ∙ stops ordered_words c.args.tasks.now c.args.k c.loop-task.task-index c.loop-task.left c.task-item.result c.loop-task-test.true c.task-item.is c.loop-task.invariant c.past_task.result _ c.past_task.ensures c.in_err-left.was

pub loop-task-preserved : goal.loop-task-preserved
loop-task-preserved c = goes_on ordered_words c.args.tasks.now c.args.k c.loop-task.task-index c.loop-task.left c.task-item.result c.loop-task-test.true c.task-item.is c.loop-task.invariant c.past_task.result c.in_ok-left.left c.past_task.ensures c.in_ok-left.was

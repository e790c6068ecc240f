use Rattle.hic_machine.specs.Opens.{kept_at}
use Rattle.hic_machine.proofs.Starting.{one_more_is}
use Rattle.hic_machine.proofs.opening.tasks_of.Goals as goal

pub loop-task-preserved : goal.loop-task-preserved
loop-task-preserved c = record {
  tasks = one_more_is kept_at c.args.object.now.entries c.loop-task.task c.entry.result c.loop-task.tasks.items c.push.new.self.items c.task_at.result c.in_ok-push.ensures.items c.loop-task.invariant.tasks c.task_at.ensures c.entry.ensures.entry;
  count = c.loop-task.invariant.count;
}

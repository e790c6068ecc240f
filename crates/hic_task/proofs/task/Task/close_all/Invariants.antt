use Rattle.std.proofs.Common.{◌≡◌}
use Rattle.hic_word.specs.Exchanges.{Exchanges}
use Rattle.hic_task.specs.Kept.{task_words}
use Rattle.hic_task.proofs.ControlRows.{closed_to}
use Rattle.hic_task.proofs.task.Task.close_all.Given as goal

abbrev pub invariant-loop-i : goal.invariant-loop-i
invariant-loop-i g l = record {
  closed : l.self ≡ record l.initial.self { iters = closed_to l.i l.initial.self.iters };
  exchanges : Exchanges (g.M.HoldCounts.memory l.initial.mem) (g.M.HoldCounts.memory l.mem) (task_words l.initial.self) (task_words l.self);
  looks : l.steps ≡ l.initial.steps;
}

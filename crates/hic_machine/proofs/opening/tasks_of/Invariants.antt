use Rattle.std.proofs.Common.{◌≡◌, length, take}
use Rattle.std.specs.Prelude.{map}
use Rattle.hic_machine.specs.Opens.{kept_at}
use Rattle.hic_machine.proofs.opening.tasks_of.Given as goal

abbrev pub invariant-loop-task : goal.invariant-loop-task
invariant-loop-task l = record {
  tasks : l.tasks.items ≡ map kept_at (take l.task l.object.entries);
  count : l.task-end ≡ length l.object.entries;
}

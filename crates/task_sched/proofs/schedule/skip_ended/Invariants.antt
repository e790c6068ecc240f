use Rattle.std.proofs.Common.{◌≡◌, ◌-◌, length}
use Rattle.task_sched.specs.InRow.{from_running}
use Rattle.task_sched.specs.Items.{entries_from}
use Rattle.task_sched.specs.Pick.{tasks_in}
use Rattle.task_sched.proofs.schedule.skip_ended.Given as goal

-- only entries of tasks that do not run are passed
abbrev pub invariant-loop-place : goal.invariant-loop-place
invariant-loop-place l = from_running (tasks_in l.running) (entries_from l.place l.items) ≡ from_running (tasks_in l.running) (entries_from l.fn.place l.items)

abbrev pub decreases-loop-place : goal.decreases-loop-place
decreases-loop-place l = length l.items - l.place

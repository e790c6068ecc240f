use Rattle.std.proofs.Common.{◌≡◌, ◌-◌, length, drop}
use Rattle.task_sched.specs.Items.{entries_from}
use Rattle.task_sched.proofs.schedule.pass_entries.Given as goal

-- no item has changed, and what is still to pass is left of the count
abbrev pub invariant-loop-place : goal.invariant-loop-place
invariant-loop-place l = record {
  items : l.items ≡ l.fn.items;
  passed : drop l.count (entries_from l.place l.items) ≡ drop l.fn.count (entries_from l.fn.place l.fn.items);
}

abbrev pub decreases-loop-place : goal.decreases-loop-place
decreases-loop-place l = length l.items - l.place

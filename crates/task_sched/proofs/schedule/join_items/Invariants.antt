use Rattle.std.proofs.Common.{◌≡◌, ◌-◌, ◌^◌, ◌<◌, ◌≤◌, length, get_or, All}
use Rattle.task_sched.specs.declared.item.Item.{Item}
use Rattle.task_sched.specs.Items.{entries_from, IsLeft}
use Rattle.task_sched.proofs.schedule.join_items.Given as goal

-- the item at this place has the entries that were joined, and no entry has changed
abbrev pub invariant-loop-place : goal.invariant-loop-place
invariant-loop-place l = record {
  here : l.place < length l.items;
  left : All IsLeft l.items;
  some : 1 ≤ l.count;
  few : l.count < 2 ^ 64;
  item : (none : Item) → get_or l.items l.place none ≡ record { task = l.task; count = l.count };
  entries : entries_from l.place l.items ≡ entries_from l.fn.place l.fn.items;
}

abbrev pub decreases-loop-place : goal.decreases-loop-place
decreases-loop-place l = length l.items - l.place

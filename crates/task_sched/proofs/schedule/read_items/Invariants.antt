use Rattle.std.proofs.Common.{◌≤◌, ◌+◌, length, All}
use Rattle.task_sched.specs.Items.{IsLeft}
use Rattle.task_sched.proofs.Reading.{ReadSoFar}
use Rattle.task_sched.proofs.schedule.read_items.Given as goal

-- the items of the pieces so far, which have no fault
abbrev pub invariant-loop-piece : goal.invariant-loop-piece
invariant-loop-piece l = record {
  read : ReadSoFar l.tasks l.bytes l.rest l.line l.items.items;
  left : All IsLeft l.items.items;
  fits : l.line + length l.rest ≤ length l.bytes;
}

abbrev pub decreases-loop-piece : goal.decreases-loop-piece
decreases-loop-piece l = length l.rest

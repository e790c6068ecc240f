use Rattle.std.proofs.Common.{◌≡◌, ◌-◌, [], length}
use Rattle.hic_object.specs.Reading.{items_at, entry_at}
use Rattle.hic_object.proofs.reading.entries_of.Given as goal

abbrev pub invariant-loop-task : goal.invariant-loop-task
invariant-loop-task l = record {
  read : items_at (entry_at l.fn.code) (l.fn.count - l.task) l.entries.items l.rest ≡ items_at (entry_at l.fn.code) l.fn.count [] l.bytes;
  len : length l.entries.items ≡ l.task;
}

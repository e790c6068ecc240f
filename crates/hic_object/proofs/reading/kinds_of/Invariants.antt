use Rattle.std.proofs.Common.{◌≡◌, ◌-◌, [], length}
use Rattle.hic_object.specs.Reading.{items_at, kind_at}
use Rattle.hic_object.proofs.reading.kinds_of.Given as goal

abbrev pub invariant-loop-segment : goal.invariant-loop-segment
invariant-loop-segment l = record {
  read : items_at kind_at (l.fn.count - l.segment) l.kinds.items l.rest ≡ items_at kind_at l.fn.count [] l.bytes;
  len : length l.kinds.items ≡ l.segment;
}

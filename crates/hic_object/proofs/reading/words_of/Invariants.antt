use Rattle.std.proofs.Common.{◌≡◌, ◌-◌, [], length}
use Rattle.hic_object.specs.Reading.{items_at, data_at}
use Rattle.hic_object.proofs.reading.words_of.Given as goal

abbrev pub invariant-loop-index : goal.invariant-loop-index
invariant-loop-index l = record {
  read : items_at (data_at l.fn.segments) (l.fn.count - l.index) l.words.items l.rest ≡ items_at (data_at l.fn.segments) l.fn.count [] l.bytes;
  len : length l.words.items ≡ l.index;
}

use Rattle.std.proofs.Common.{◌≡◌, ◌-◌, [], length}
use Rattle.hic_object.specs.Reading.{items_at, instruction_at}
use Rattle.hic_object.proofs.reading.code_of.Given as goal

abbrev pub invariant-loop-index : goal.invariant-loop-index
invariant-loop-index l = record {
  read : items_at instruction_at (l.fn.count - l.index) l.code.items l.rest ≡ items_at instruction_at l.fn.count [] l.bytes;
  len : length l.code.items ≡ l.index;
}

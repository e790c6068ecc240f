use Rattle.hic_object.proofs.Readers.{IsBytes-from_All}
use Rattle.hic_object.proofs.Faults.{object_at-no_memory}
use Rattle.hic_object.proofs.Whole.{found, read_again}
use Rattle.hic_object.proofs.laws.reads_what_is_spelled.Goals as goal

pub returns : goal.returns
returns c = record {
  object = λ bytes small o. (found bytes o (IsBytes-from_All bytes small), read_again bytes o);
  fault = object_at-no_memory;
}

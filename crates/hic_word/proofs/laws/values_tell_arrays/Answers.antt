use Rattle.hic_word.proofs.Ordered.{values_tell_arrays}
use Rattle.hic_word.proofs.laws.values_tell_arrays.Goals as goal

pub returns : goal.returns
returns c = values_tell_arrays

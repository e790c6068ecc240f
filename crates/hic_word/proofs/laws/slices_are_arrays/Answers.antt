use Rattle.hic_word.proofs.SliceLaws.{slices_are_arrays}
use Rattle.hic_word.proofs.laws.slices_are_arrays.Goals as goal

pub returns : goal.returns
returns c = slices_are_arrays

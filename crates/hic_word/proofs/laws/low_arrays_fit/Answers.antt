use Rattle.hic_word.proofs.Joining.{low_arrays_fit}
use Rattle.hic_word.proofs.laws.low_arrays_fit.Goals as goal

pub returns : goal.returns
returns c = low_arrays_fit

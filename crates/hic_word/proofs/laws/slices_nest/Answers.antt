use Rattle.hic_word.proofs.SliceLaws.{slices_nest}
use Rattle.hic_word.proofs.laws.slices_nest.Goals as goal

pub returns : goal.returns
returns c = slices_nest

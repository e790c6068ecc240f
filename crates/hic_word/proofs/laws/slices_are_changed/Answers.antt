use Rattle.hic_word.proofs.SliceLaws.{slices_are_changed}
use Rattle.hic_word.proofs.laws.slices_are_changed.Goals as goal

pub returns : goal.returns
returns c = slices_are_changed

use Rattle.hic_word.proofs.Ordered.{arrays_are_ordered}
use Rattle.hic_word.proofs.laws.arrays_are_ordered.Goals as goal

pub returns : goal.returns
returns c = arrays_are_ordered

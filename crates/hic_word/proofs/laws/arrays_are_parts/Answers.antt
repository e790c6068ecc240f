use Rattle.hic_word.proofs.Joining.{arrays_are_parts}
use Rattle.hic_word.proofs.laws.arrays_are_parts.Goals as goal

pub returns : goal.returns
returns c = arrays_are_parts

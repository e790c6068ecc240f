use Rattle.hic_word.proofs.Raised.{parts_are_parts}
use Rattle.hic_word.proofs.laws.parts_are_parts.Goals as goal

pub returns : goal.returns
returns c = parts_are_parts

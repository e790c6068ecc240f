use Rattle.hic_word.proofs.Raised.{packs_are_small}
use Rattle.hic_word.proofs.laws.packs_are_small.Goals as goal

pub returns : goal.returns
returns c = packs_are_small

use Rattle.hic_word.proofs.Bits.{packs_fit}
use Rattle.hic_word.proofs.laws.packs_fit.Goals as goal

pub returns : goal.returns
returns c = packs_fit

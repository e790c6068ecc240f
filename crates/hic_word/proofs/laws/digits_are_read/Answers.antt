use Rattle.hic_word.proofs.Bits.{digits_are_read}
use Rattle.hic_word.proofs.laws.digits_are_read.Goals as goal

pub returns : goal.returns
returns c = digits_are_read

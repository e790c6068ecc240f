use Rattle.hic_word.proofs.Bits.{nodes_are_read}
use Rattle.hic_word.proofs.laws.nodes_are_read.Goals as goal

pub returns : goal.returns
returns c = nodes_are_read

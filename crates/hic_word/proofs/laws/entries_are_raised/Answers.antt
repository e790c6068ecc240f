use Rattle.hic_word.proofs.Raised.{entries_are_raised}
use Rattle.hic_word.proofs.laws.entries_are_raised.Goals as goal

pub returns : goal.returns
returns c = entries_are_raised

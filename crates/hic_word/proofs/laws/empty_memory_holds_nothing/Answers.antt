use Rattle.hic_word.proofs.Holding.{empty_memory_holds_nothing}
use Rattle.hic_word.proofs.laws.empty_memory_holds_nothing.Goals as goal

pub returns : goal.returns
returns c = empty_memory_holds_nothing

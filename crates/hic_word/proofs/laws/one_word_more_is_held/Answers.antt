use Rattle.hic_word.proofs.Holding.{one_word_more_is_held}
use Rattle.hic_word.proofs.laws.one_word_more_is_held.Goals as goal

pub returns : goal.returns
returns c = one_word_more_is_held

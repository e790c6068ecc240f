use Rattle.hic_word.proofs.Holding.{held_words_are_counted}
use Rattle.hic_word.proofs.laws.held_words_are_counted.Goals as goal

pub returns : goal.returns
returns c = held_words_are_counted

use Rattle.hic_word.proofs.Holding.{standing_words_are_live}
use Rattle.hic_word.proofs.laws.standing_words_are_live.Goals as goal

pub returns : goal.returns
returns c = standing_words_are_live

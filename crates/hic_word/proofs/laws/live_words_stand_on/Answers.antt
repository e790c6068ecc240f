use Rattle.hic_word.proofs.StandOn.{live_words_stand_on}
use Rattle.hic_word.proofs.laws.live_words_stand_on.Goals as goal

pub returns : goal.returns
returns c = live_words_stand_on

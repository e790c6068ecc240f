use Rattle.hic_word.proofs.Freeing.{holds_are_given_up}
use Rattle.hic_word.proofs.laws.holds_are_given_up.Goals as goal

pub returns : goal.returns
returns c = holds_are_given_up

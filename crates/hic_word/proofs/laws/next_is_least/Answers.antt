use Rattle.hic_word.proofs.Ordered.{next_is_least}
use Rattle.hic_word.proofs.laws.next_is_least.Goals as goal

pub returns : goal.returns
returns c = next_is_least

use Rattle.hic_word.proofs.Holding.{holding_is_by_counts}
use Rattle.hic_word.proofs.laws.holding_is_by_counts.Goals as goal

pub returns : goal.returns
returns c = holding_is_by_counts

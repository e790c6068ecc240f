use Rattle.hic_word.proofs.Kept.{standing_grows}
use Rattle.hic_word.proofs.laws.standing_grows.Goals as goal

pub returns : goal.returns
returns c = standing_grows

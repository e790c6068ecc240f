use Rattle.hic_word.proofs.StayReached.{reached_lines_stay}
use Rattle.hic_word.proofs.laws.reached_lines_stay.Goals as goal

pub returns : goal.returns
returns c = reached_lines_stay

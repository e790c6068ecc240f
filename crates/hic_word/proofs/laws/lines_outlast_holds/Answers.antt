use Rattle.hic_word.proofs.Freeing.{lines_outlast_holds}
use Rattle.hic_word.proofs.laws.lines_outlast_holds.Goals as goal

pub returns : goal.returns
returns c = lines_outlast_holds

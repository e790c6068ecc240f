use Rattle.seg_canon.proofs.Quarters.{lines_are_stored}
use Rattle.seg_canon.proofs.laws.lines_are_stored.Goals as goal

pub returns : goal.returns
returns c = lines_are_stored

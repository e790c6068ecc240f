use Rattle.seg_canon.proofs.Quarters.{leaves_have_values}
use Rattle.seg_canon.proofs.laws.leaves_have_values.Goals as goal

pub returns : goal.returns
returns c = leaves_have_values

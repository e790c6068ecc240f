use Rattle.hic_plain.proofs.StartValid.{start-valid}
use Rattle.hic_plain.proofs.laws.starts_are_valid.Goals as goal

pub returns : goal.returns
returns c = start-valid

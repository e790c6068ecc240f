use Rattle.hic_plain.proofs.StepLaws.{step-valid}
use Rattle.hic_plain.proofs.laws.steps_keep_valid.Goals as goal

pub returns : goal.returns
returns c = step-valid

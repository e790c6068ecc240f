use Rattle.hic_plain.proofs.StepLaws.{step-trapped}
use Rattle.hic_plain.proofs.laws.steps_trap_as_listed.Goals as goal

pub returns : goal.returns
returns c = step-trapped

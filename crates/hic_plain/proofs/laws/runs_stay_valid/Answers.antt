use Rattle.hic_plain.proofs.RunLaws.{run_good}
use Rattle.hic_plain.proofs.laws.runs_stay_valid.Goals as goal

pub returns : goal.returns
returns c = run_good

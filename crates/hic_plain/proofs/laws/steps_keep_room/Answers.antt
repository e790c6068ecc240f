use Rattle.hic_plain.proofs.StepLaws.{step-room}
use Rattle.hic_plain.proofs.laws.steps_keep_room.Goals as goal

pub returns : goal.returns
returns c = step-room

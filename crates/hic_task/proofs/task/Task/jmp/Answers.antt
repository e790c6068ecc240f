use Rattle.std.proofs.Common.{true, refl}
use Rattle.hic_task.proofs.ControlRows.{jumps_on}
use Rattle.hic_task.proofs.task.Task.jmp.Goals as goal

pub returns : goal.returns
returns c = record { row = λ m. jumps_on c.args.imm true refl (λ P t T can. refl) }

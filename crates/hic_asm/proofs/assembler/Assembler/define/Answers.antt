use Rattle.hic_asm.specs.Lines.{draft_seen}
use Rattle.hic_asm.specs.Operands.{target_seen}
use Rattle.hic_asm.proofs.assembler.Assembler.define.Goals as goal

pub returns-in-Task : goal.returns-in-Task
returns-in-Task c = rw c.in-Task.is (c.count_task.ensures (target_seen c.in-Task.field-0))

pub returns-in-Code : goal.returns-in-Code
returns-in-Code c = rw c.in-Code.is (c.count_instruction.ensures (draft_seen c.in-Code.field-0))

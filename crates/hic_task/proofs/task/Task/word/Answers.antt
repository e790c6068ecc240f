use Rattle.std.proofs.Common.{◌∙◌, ap, sym}
use Rattle.std.specs.Prelude.{slice_get}
use Rattle.hic_word.specs.Memory.{line_at, width}
use Rattle.hic_task.proofs.Places.{value_at}
use Rattle.hic_task.proofs.task.Task.word.Goals as goal

pub returns : goal.returns
returns c = λ m P t T can. value_at (width m) (line_at m) c.args.self.now.regs T.regs c.args.r c.get-2.result can.task_for.regs (ap (slice_get c.args.self.now.regs) (sym c.get.ensures.number) ∙ c.get-2.ensures)

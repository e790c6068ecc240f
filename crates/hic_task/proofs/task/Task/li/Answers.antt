use Rattle.std.proofs.Common.{sym}
use Rattle.hic_task.proofs.NumberRows.{sets_number, sets_same}
use Rattle.hic_task.proofs.task.Task.li.Goals as goal

pub returns-clause-row : goal.returns-clause-row
returns-clause-row g c = sets_number c.args.a c.set_number.ensures.exchanges c.set_number.ensures.task (λ P t T can. sets_same P t T c.args.a (sym c.from.ensures))

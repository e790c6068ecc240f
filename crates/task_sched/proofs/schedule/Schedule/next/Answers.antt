use Rattle.std.proofs.Common.{Some, refl, sym, ap, ◌∙◌, arith}
use Rattle.task_sched.proofs.RowLaws.{pick-of_row}
use Rattle.task_sched.proofs.Tasks.{pick-nobody}
use Rattle.task_sched.specs.Pick.{tasks_in}
use Rattle.task_sched.proofs.schedule.Schedule.next.Goals as goal

pub returns-in_err-row-clause-pick : goal.returns-in_err-row-clause-pick
returns-in_err-row-clause-pick c =
    rw (c.from_residual.ensures, c.in_err-row.ensures.none.0 refl) (sym (pick-nobody c.args.self.now.entries c.args.self.now.last))

pub returns-clause-pick : goal.returns-clause-pick
returns-clause-pick c =
    let row = c.in_ok-row.row in
    pick-of_row (tasks_in c.args.running) row.task c.args.self.now c.pass.new.self (c.in_ok-row.ensures.in_row 1 (omega arith) c.in_ok-row.ensures.some ∙ ap Some (sym c.pass.ensures))

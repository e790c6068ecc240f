use Rattle.std.proofs.Common.{◌∙◌}
use Rattle.hic_word.specs.Values.{Number}
use Rattle.hic_word.proofs.callers.Holds.{exchanges_reshapes}
use Rattle.hic_plain.specs.Turns.{next, with_reg}
use Rattle.hic_plain.proofs.RowLaws.{pos_closed, pos_of}
use Rattle.hic_task.proofs.IterRows.{closed_row, open_at, refused, told}
use Rattle.hic_task.proofs.Rows.{number_set, went}
use Rattle.hic_task.proofs.task.Task.pos.Goals as goal

pub returns-in-Err-clause-row : goal.returns-in-Err-clause-row
returns-in-Err-clause-row g c =
    let (none, is) = refused _ c.iter.result.now c.in-Err.ensures in
    closed_row c.args.b c.iter.result.now c.iter.ensures none (c.trap_of.ensures ∙ is) (λ P t T e. pos_closed P t T c.args.a c.args.b e)

pub returns-in-Ok-clause-row : goal.returns-in-Ok-clause-row
returns-in-Ok-clause-row g c =
    let (q, opened, position) = told _ c.iter.result.now c.in-Ok.ensures in
    went (exchanges_reshapes c.set_number.ensures.exchanges) (λ P t T can.
    let (Q, at, for) = open_at c.args.b c.iter.result.now c.iter.ensures q can opened in
    (next (with_reg T c.args.a (Number Q.position)), number_set T c.args.a (c.from.ensures ∙ position ∙ for.position) (c.set_number.ensures.task T can.task_for), pos_of P t T c.args.a c.args.b Q at))

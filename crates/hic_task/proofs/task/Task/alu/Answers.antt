use Rattle.std.proofs.Common.{sym, ◌∙◌, ap}
use Rattle.hic_plain.specs.Step.{computes}
use Rattle.hic_plain.specs.Turns.{reg, traps}
use Rattle.hic_task.proofs.NumberRows.{alu_outcome, computes_trap, sets_number}
use Rattle.hic_task.proofs.Rows.{trapped}
use Rattle.hic_task.proofs.task.Task.alu.Goals as goal

pub returns-in-Ok-clause-row : goal.returns-in-Ok-clause-row
returns-in-Ok-clause-row g c = sets_number c.args.a c.set_number.ensures.exchanges c.set_number.ensures.task (λ P t T can.
    let m = g.M.HoldCounts.memory c.args.mem.now in
    alu_outcome P t T c.args.op c.args.a c.args.b c.args.c (c.operand.ensures m (reg T c.args.b) (c.word.ensures m P t T can)) (c.operand-2.ensures m (reg T c.args.c) (c.word-2.ensures m P t T can)) c.alu.ensures
    ∙ ap (computes P t T c.args.a) c.in-Ok.is)

pub returns-in-Err-clause-row : goal.returns-in-Err-clause-row
returns-in-Err-clause-row g c = trapped (λ P t T can.
    let m = g.M.HoldCounts.memory c.args.mem.now in
    alu_outcome P t T c.args.op c.args.a c.args.b c.args.c (c.operand.ensures m (reg T c.args.b) (c.word.ensures m P t T can)) (c.operand-2.ensures m (reg T c.args.c) (c.word-2.ensures m P t T can)) c.alu.ensures
    ∙ ap (computes P t T c.args.a) c.in-Err.is ∙ computes_trap P t T c.args.op c.args.a c.in-Err.fault ∙ ap (traps P) (sym c.fault_trap.ensures))

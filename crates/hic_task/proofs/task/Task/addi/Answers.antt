use Rattle.std.proofs.Common.{sym, ◌∙◌}
use Rattle.hic_plain.specs.Turns.{reg}
use Rattle.hic_plain.proofs.RowLaws.{addi_of, addi_type}
use Rattle.hic_task.proofs.NumberRows.{sets_number, sets_same}
use Rattle.hic_task.proofs.Rows.{number_told, reference_told, trapped}
use Rattle.hic_task.proofs.task.Task.addi.Goals as goal

pub returns-in_default-clause-row : goal.returns-in_default-clause-row
returns-in_default-clause-row g c = trapped (λ P t T can.
    let m = g.M.HoldCounts.memory c.args.mem.now in
    let (H, e) = reference_told (reg T c.args.b) (sym (c.number.ensures m (reg T c.args.b) (c.word.ensures m P t T can)) ∙ c.in_default.is) in
    addi_type P t T c.args.a c.args.b c.args.imm H e)

pub returns-clause-row : goal.returns-clause-row
returns-clause-row g c = sets_number c.args.a c.set_number.ensures.exchanges c.set_number.ensures.task (λ P t T can.
    let m = g.M.HoldCounts.memory c.args.mem.now in
    let e = number_told (reg T c.args.b) c.in-Some.n (sym (c.number.ensures m (reg T c.args.b) (c.word.ensures m P t T can)) ∙ c.in-Some.is) in
    addi_of P t T c.args.a c.args.b c.args.imm c.in-Some.n e ∙ sets_same P t T c.args.a (sym c.plus_signed.ensures))

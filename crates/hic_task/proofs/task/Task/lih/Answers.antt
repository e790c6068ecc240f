use Rattle.std.proofs.Common.{◌+◌, ◌*◌, ◌%◌, ◌^◌, sym, ◌∙◌}
use Rattle.hic_word.specs.Values.{Number}
use Rattle.hic_word.proofs.callers.Holds.{exchanges_reshapes}
use Rattle.hic_plain.specs.Turns.{next, reg, with_reg}
use Rattle.hic_plain.proofs.RowLaws.{lih_of, lih_type}
use Rattle.hic_task.proofs.Rows.{number_set, number_told, reference_told, trapped, went}
use Rattle.hic_task.proofs.task.Task.lih.Goals as goal

pub returns-in_default-clause-row : goal.returns-in_default-clause-row
returns-in_default-clause-row g c = trapped (λ P t T can.
    let m = g.M.HoldCounts.memory c.args.mem.now in
    let (H, e) = reference_told (reg T c.args.a) (sym (c.number.ensures m (reg T c.args.a) (c.word.ensures m P t T can)) ∙ c.in_default.is) in
    lih_type P t T c.args.a c.args.imm H e)

pub returns-clause-row : goal.returns-clause-row
returns-clause-row g c = went (exchanges_reshapes c.set_number.ensures.exchanges) (λ P t T can.
    let m = g.M.HoldCounts.memory c.args.mem.now in
    let e = number_told (reg T c.args.a) c.in-Some.n (sym (c.number.ensures m (reg T c.args.a) (c.word.ensures m P t T can)) ∙ c.in-Some.is) in
    (next (with_reg T c.args.a (Number (c.in-Some.n % 2 ^ 32 + c.args.imm * 2 ^ 32))), number_set T c.args.a c.with_upper_half.ensures (c.set_number.ensures.task T can.task_for), lih_of P t T c.args.a c.args.imm c.in-Some.n e))

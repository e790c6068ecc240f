use Rattle.std.proofs.Common.{◌∙◌, ap, sym}
use Rattle.hic_plain.specs.Step.{one_if}
use Rattle.hic_task.proofs.NumberRows.{one_if_is, sets_number, sets_same, values_told}
use Rattle.hic_task.proofs.task.Task.eq.Goals as goal

pub returns-clause-row : goal.returns-clause-row
returns-clause-row g c = sets_number c.args.a c.set_number.ensures.exchanges c.set_number.ensures.task (λ P t T can.
    let m = g.M.HoldCounts.memory c.args.mem.now in
    sets_same P t T c.args.a (sym (c.from.ensures ∙ one_if_is _ ∙ ap one_if (values_told c.args.b c.args.c c.word.result c.word-2.result c.same_word-same.result (g.met.M.LineMem.sound c.args.mem.now).unique can (c.word.ensures m P t T can) (c.word-2.ensures m P t T can) c.same_word-same.ensures))))

use Rattle.std.proofs.Common.{◌∙◌, ap, sym}
use Rattle.hic_plain.specs.Step.{one_if}
use Rattle.hic_plain.specs.Turns.{reg}
use Rattle.hic_task.proofs.NumberRows.{one_if_is, sets_number, sets_same}
use Rattle.hic_task.proofs.task.Task.isref.Goals as goal

pub returns-clause-row : goal.returns-clause-row
returns-clause-row g c = sets_number c.args.a c.set_number.ensures.exchanges c.set_number.ensures.task (λ P t T can.
    let m = g.M.HoldCounts.memory c.args.mem.now in
    sets_same P t T c.args.a (sym (c.from.ensures ∙ one_if_is _ ∙ ap one_if (c.is_reference-reference.ensures m (reg T c.args.b) (c.word.ensures m P t T can)))))

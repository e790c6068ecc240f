use Rattle.std.proofs.Common.{rules}
use Rattle.form_rows.proofs.NumberChanges.{one_more}
use Rattle.form_rows.proofs.plain.+ascend.Goals.{then-from-offset, else-from-offset}
use Rattle.form_rows.proofs.plain.+ascend.Goals as goal

pub returns-then-eq-clause-ascend : goal.returns-then-eq-clause-ascend
returns-then-eq-clause-ascend t c = elim c.if-from-offset.branch [
  | then-from-offset w ↦ λ h. one_more c.args.from c.args.changes.now c.in-Some.rest.now c.in-Some.first.now c.in-Some.ensures.cases.0 w.if-from-offset.true (search rules) (search rules) (c.ascend.ensures.ascend h)
  | else-from-offset w ↦ search rules
]

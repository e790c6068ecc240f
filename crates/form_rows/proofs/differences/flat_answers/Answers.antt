use Rattle.line_mem.proofs.PlainLines.{empty_counts}
use Rattle.form_rows.proofs.differences.flat_answers.Goals as goal

pub kept-requires-clause-none : goal.kept-requires-clause-none
kept-requires-clause-none g c = empty_counts _ _ c.in_ok-mem.ensures

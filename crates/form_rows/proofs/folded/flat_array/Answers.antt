use Rattle.line_mem.proofs.PlainLines.{empty_counts}
use Rattle.form_rows.proofs.folded.flat_array.Goals as goal

pub array-requires-clause-none : goal.array-requires-clause-none
array-requires-clause-none g c = empty_counts _ _ c.in_ok-mem.ensures

use Rattle.line_mem.proofs.PlainLines.{empty_counts}
use Rattle.line_rows.proofs.memory.flat_answers.Goals as goal

pub filled-requires-clause-none : goal.filled-requires-clause-none
filled-requires-clause-none g c = empty_counts _ _ c.in_ok-mem.ensures

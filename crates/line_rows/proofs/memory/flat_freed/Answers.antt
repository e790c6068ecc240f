use Rattle.line_mem.proofs.PlainLines.{empty_counts}
use Rattle.line_rows.proofs.memory.flat_freed.Goals as goal

pub freed-requires-clause-none : goal.freed-requires-clause-none
freed-requires-clause-none g c = empty_counts _ _ c.in_ok-mem.ensures

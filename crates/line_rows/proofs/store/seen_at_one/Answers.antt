use Rattle.std.proofs.Common.{◌∙◌}
use Rattle.line_mem.proofs.PlainLines.{empty_counts}
use Rattle.line_rows.proofs.store.seen_at_one.Goals as goal

pub seen_of_one-requires-clause-none : goal.seen_of_one-requires-clause-none
seen_of_one-requires-clause-none g c = empty_counts _ _ (c.counted_by-mem.ensures ∙ c.in_ok-made.ensures)

use Rattle.line_mem.proofs.PlainLines.{empty_counts}
use Rattle.line_rows.proofs.store.tried_at_eight.Goals as goal

pub nine_tried-requires-clause-none : goal.nine_tried-requires-clause-none
nine_tried-requires-clause-none g c = empty_counts _ _ c.in_ok-mem.ensures

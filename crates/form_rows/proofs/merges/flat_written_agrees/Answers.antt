use Rattle.ref_counts.proofs.Linked.{empty_holds}
use Rattle.form_rows.proofs.merges.flat_written_agrees.Goals as goal

pub written_agrees-requires-clause-held : goal.written_agrees-requires-clause-held
written_agrees-requires-clause-held g c = empty_holds _ _ c.in_ok-mem.ensures

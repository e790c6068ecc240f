use Rattle.ref_counts.proofs.Linked.{empty_holds}
use Rattle.form_rows.proofs.changed.flat_agrees.Goals as goal

pub agrees-requires-clause-held : goal.agrees-requires-clause-held
agrees-requires-clause-held g c = empty_holds _ _ c.in_ok-mem.ensures

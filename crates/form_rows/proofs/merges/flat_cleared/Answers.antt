use Rattle.ref_counts.proofs.Linked.{empty_holds}
use Rattle.form_rows.proofs.merges.flat_cleared.Goals as goal

pub cleared-requires-clause-held : goal.cleared-requires-clause-held
cleared-requires-clause-held g c = empty_holds _ _ c.in_ok-mem.ensures

use Rattle.ref_counts.proofs.Linked.{empty_holds}
use Rattle.form_rows.proofs.merges.flat_agrees.Goals as goal

pub commit_agrees-requires-clause-held : goal.commit_agrees-requires-clause-held
commit_agrees-requires-clause-held g c = empty_holds _ _ c.in_ok-mem.ensures

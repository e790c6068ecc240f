use Rattle.ref_counts.proofs.Linked.{empty_holds}
use Rattle.form_rows.proofs.cursors.flat_agrees.Goals as goal

pub made_agrees-requires : goal.made_agrees-requires
made_agrees-requires g c = empty_holds _ _ c.in_ok-mem.ensures

use Rattle.ref_counts.proofs.Linked.{empty_holds}
use Rattle.form_rows.proofs.cursors.flat_four.Goals as goal

pub made_four-requires : goal.made_four-requires
made_four-requires g c = empty_holds _ _ c.in_ok-mem.ensures

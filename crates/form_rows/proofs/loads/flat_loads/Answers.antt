use Rattle.ref_counts.proofs.Linked.{empty_holds}
use Rattle.form_rows.proofs.loads.flat_loads.Goals as goal

pub made_loads-requires : goal.made_loads-requires
made_loads-requires g c = empty_holds _ _ c.in_ok-mem.ensures

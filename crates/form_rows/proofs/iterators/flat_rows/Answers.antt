use Rattle.ref_counts.proofs.Linked.{empty_holds}
use Rattle.form_rows.proofs.iterators.flat_rows.Goals as goal

pub writes-written-requires : goal.writes-written-requires
writes-written-requires g c = empty_holds _ _ c.in_ok-mem.ensures

pub fills-requires : goal.fills-requires
fills-requires g c = empty_holds _ _ c.in_ok-mem-2.ensures

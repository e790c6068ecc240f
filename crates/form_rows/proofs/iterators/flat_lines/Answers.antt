use Rattle.ref_counts.proofs.Linked.{empty_holds}
use Rattle.form_rows.proofs.iterators.flat_lines.Goals as goal

pub references-requires : goal.references-requires
references-requires g c = empty_holds _ _ c.in_ok-mem.ensures

pub closes-requires : goal.closes-requires
closes-requires g c = empty_holds _ _ c.in_ok-mem-2.ensures

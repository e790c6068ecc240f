use Rattle.ref_counts.proofs.Linked.{empty_holds}
use Rattle.line_rows.proofs.holds.flat_row.Goals as goal

pub row-requires : goal.row-requires
row-requires g c = empty_holds _ _ c.in_ok-mem.ensures

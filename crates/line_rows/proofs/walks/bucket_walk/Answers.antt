use Rattle.ref_counts.proofs.Linked.{empty_holds}
use Rattle.line_rows.proofs.walks.bucket_walk.Goals as goal

pub walk-requires : goal.walk-requires
walk-requires g c = empty_holds _ _ c.in_ok-mem.ensures

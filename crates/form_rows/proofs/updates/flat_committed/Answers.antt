use Rattle.ref_counts.proofs.Linked.{empty_holds}
use Rattle.merge_update.proofs.Readiness.{ready_at_first}
use Rattle.form_rows.proofs.updates.flat_committed.Goals as goal

pub committed-requires : goal.committed-requires
committed-requires g c = ready_at_first _ c.args.kind c.in_ok-segments.segments c.in_ok-segments.ensures (empty_holds _ _ c.in_ok-mem.ensures)

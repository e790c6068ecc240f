use Rattle.ref_counts.proofs.Linked.{empty_holds}
use Rattle.form_rows.proofs.registers.flat_seen.Goals as goal

pub seen-requires : goal.seen-requires
seen-requires g c = empty_holds _ _ c.in_ok-mem.ensures

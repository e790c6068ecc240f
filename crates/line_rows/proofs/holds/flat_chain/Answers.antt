use Rattle.ref_counts.proofs.Linked.{empty_holds}
use Rattle.line_rows.proofs.holds.flat_chain.Goals as goal

pub chain-requires : goal.chain-requires
chain-requires g c = empty_holds _ _ c.in_ok-mem.ensures

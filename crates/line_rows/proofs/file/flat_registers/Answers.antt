use Rattle.ref_counts.proofs.Linked.{empty_holds}
use Rattle.line_rows.proofs.file.flat_registers.Goals as goal

pub registers-requires : goal.registers-requires
registers-requires g c = empty_holds _ _ c.in_ok-mem.ensures

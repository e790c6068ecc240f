-- Refusals as traps.
use Rattle.iter_regs.specs.declared.refusal.IterRefusal.{IterRefusal}
use Rattle.iter_regs.specs.declared.refusal.IterRefusal.TheVariants as refusal
use Rattle.hic_plain.specs.declared.turn.Trap.{Trap}
use Rattle.hic_plain.specs.declared.turn.Trap.TheVariants as trap

-- the trap of an iterator register's refusal
abbrev pub trap_of : IterRefusal → Trap
trap_of refusal.Closed = trap.Closed
trap_of refusal.Offset = trap.Offset
trap_of refusal.BufferFull = trap.Buffer

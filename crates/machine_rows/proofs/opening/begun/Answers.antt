use Rattle.std.proofs.Common.{[], subst, sym}
use Rattle.hic_word.specs.Holds.{Holds}
use Rattle.hic_word.specs.Memory.{width}
use Rattle.hic_word.proofs.callers.Holds.{empty_memory_holds_nothing}
use Rattle.machine_rows.proofs.opening.begun.Goals as goal

pub make-made-requires : goal.make-made-requires
make-made-requires g c = subst (λ m. Holds (width m) m []) (sym c.in_ok-store.ensures) (empty_memory_holds_nothing _ _)

use Rattle.std.proofs.Common.{[], subst, sym}
use Rattle.hic_word.specs.Holds.{Holds}
use Rattle.hic_word.specs.Memory.{width}
use Rattle.hic_word.proofs.callers.Holds.{empty_memory_holds_nothing}
use Rattle.machine_rows.proofs.told.run.Goals as goal

pub make-requires-2 : goal.make-requires-2
make-requires-2 g c = subst (λ m. Holds (width m) m []) (sym c.in_ok-store.ensures) (empty_memory_holds_nothing _ _)

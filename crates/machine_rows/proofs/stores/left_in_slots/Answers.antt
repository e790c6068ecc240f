use Rattle.std.proofs.Common.{[], subst, sym}
use Rattle.hic_word.specs.Holds.{Holds}
use Rattle.hic_word.specs.Memory.{width}
use Rattle.hic_word.proofs.callers.Holds.{empty_memory_holds_nothing}
use Rattle.machine_rows.proofs.stores.left_in_slots.Goals as goal

pub run_in-requires-clause-held : goal.run_in-requires-clause-held
run_in-requires-clause-held g c = subst (λ m. Holds (width m) m []) (sym c.in_ok-store.ensures) (empty_memory_holds_nothing _ _)

-- Entries, and the rest of a chain.
use Rattle.std.specs.Prelude.{ℕ, ◌==◌, List, [], ◌∷◌, Option, Some, None, if◌then◌else◌}
use Rattle.line_slots.specs.declared.entry.Entry.{Entry}

abbrev pub entry_for : ℕ → ℕ → Entry
entry_for slot key = record { slot = slot; key = key }

-- the entries of a chain from a slot on, none where there is no slot
abbrev pub rest_from : Option ℕ → List Entry → List Entry
rest_from None entries = []
rest_from (Some slot) [] = []
rest_from (Some slot) (entry ∷ rest) = if entry.slot == slot then entry ∷ rest else rest_from (Some slot) rest

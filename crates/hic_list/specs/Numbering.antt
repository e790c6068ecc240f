-- The numbers of ids, by id.
use Rattle.std.specs.Prelude.{◌≡◌, ℕ, zero, suc, List, Option, Some, None, slice_get}
use Rattle.hic_list.specs.Words.{number_of}

-- the number that is kept at an id, where there is a place for the id: one less than what stands there, and none for 0
abbrev pub told : Option ℕ → Option ℕ
told None = None
told (Some zero) = None
told (Some (suc number)) = Some number

-- each id has its number at its place, if it has one
abbrev pub AreNumbers : List ℕ → List ℕ → Type 0
AreNumbers by_id ids = (id : ℕ) → told (slice_get by_id id) ≡ number_of ids id

-- Whether the memory has room for the lines of arrays.
use Rattle.std.specs.Prelude.{◌≤◌, Bool, false, ◌++◌, List, [], ◌∷◌, length, Option, Some, None, nat_lt}
use Rattle.hic_word.specs.Values.{Array}
use Rattle.hic_word.specs.Lines.{lines}
use Rattle.hic_plain.specs.Machine.{Machine, held, width_of}

-- the distinct lines of these arrays are more than the capacity
abbrev pub exceeds : Machine → List Array → Bool
exceeds m As = nat_lt m.capacity (length (lines (width_of m) As))

-- there is room for what is held
abbrev pub IsWithinCapacity : Machine → Type 0
IsWithinCapacity m = length (lines (width_of m) (held m)) ≤ m.capacity

-- there is no room for a new array beside those that are held
abbrev pub full : Machine → Array → Bool
full m A = exceeds m (held m ++ A ∷ [])

-- there is no room for what is held at the start
abbrev pub full_at_load : Machine → Bool
full_at_load m = exceeds m (held m)

-- there is a new array, and no room for it
abbrev pub full_with : Machine → Option Array → Bool
full_with m None = false
full_with m (Some A) = full m A

-- The words of an array one after another.
use Rattle.std.specs.Prelude.{ℕ, Bool, true, false, leb, [], ◌∷◌, Option, Some, None}
use Rattle.hic_word.specs.Values.{Array}

-- o if b, else what is found later
abbrev pub this_or : Bool → ℕ → Option ℕ → Option ℕ
this_or true o later = Some o
this_or false o later = later

-- the least offset at or above i with a word that is not 0, or none
abbrev pub next_of : Array → ℕ → Option ℕ
next_of [] i = None
next_of (p ∷ A) i = this_or (leb i p.0) p.0 (next_of A i)

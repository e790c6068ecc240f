-- Where an offset stands in a list of pairs, or would stand.
use Rattle.std.specs.Prelude.{◌≡◌, ℕ, zero, suc, ◌<◌, [], ◌∷◌}
use Rattle.write_buf.specs.WordPairs.{WordPairs}

-- the pair at this place has the offset, and those before it have lower ones
abbrev pub StandsAt : WordPairs → ℕ → ℕ → Type 0
StandsAt [] offset place = ⊥
StandsAt (pair ∷ rest) offset zero = pair.0 ≡ offset
StandsAt (pair ∷ rest) offset (suc place) = (pair.0 < offset) × StandsAt rest offset place

-- the pairs before this place have lower offsets, and the next pair, if there is one, has a higher one
abbrev pub FitsAt : WordPairs → ℕ → ℕ → Type 0
FitsAt [] offset zero = Unit {0}
FitsAt [] offset (suc place) = ⊥
FitsAt (pair ∷ rest) offset zero = offset < pair.0
FitsAt (pair ∷ rest) offset (suc place) = (pair.0 < offset) × FitsAt rest offset place

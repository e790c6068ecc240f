-- Where parts of two arrays differ, and the pairs that are put behind others for it.
use Rattle.std.specs.Prelude.{◌≡◌, ℕ, ◌+◌, List, ◌++◌, map}
use Rattle.std.specs.List.{range_with_len}
use Rattle.hic_word.specs.declared.Word.{Word}
use Rattle.hic_word.specs.Values.{Array, Value, at}
use Rattle.hic_word.specs.Differences.{differ_at}
use Rattle.hic_word.specs.InMemory.{ChangesFor}
use Rattle.hic_word.specs.Stands.{Lookup}

-- of the n offsets from i on, those at which two arrays have different values
abbrev pub differ_from : ℕ → ℕ → Array → Array → List ℕ
differ_from i n A B = differ_at A B (range_with_len i n)

-- the values of B at offsets, as changes at these offsets raised by b
abbrev pub raised_at : ℕ → Array → List ℕ → List (ℕ × Value)
raised_at b B os = map (λ o. (b + o, at B o)) os

-- behind the old pairs have come pairs that stand for changes
pub record Adds (m : Lookup) (old new : List (ℕ × Word)) (L : List (ℕ × Value)) : Type 0 where
  pub added : List (ℕ × Word)
  pub behind : new ≡ old ++ added
  pub stand : ChangesFor 4 m added L

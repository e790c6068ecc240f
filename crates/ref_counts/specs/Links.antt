-- Arrays of one value that is no small number, as the tests store them.
use Rattle.std.specs.Prelude.{◌≡◌, List, [], ◌∷◌, None}
use Rattle.hic_word.specs.declared.Word.{Word}
use Rattle.hic_word.specs.Width.{pack_limit}
use Rattle.hic_word.specs.Values.{Value, Number, Array, IsArray}
use Rattle.hic_word.specs.Entries.{LineValue, Leaf, Inner, Named, Zero, inner}
use Rattle.hic_word.specs.Canon.{small}
use Rattle.hic_word.specs.Stands.{Lookup, WordFor}

-- the value at offset 0 alone
abbrev pub only : Value → Array
only v = (0, v) ∷ []

abbrev pub padded : Value → List Value
padded v = v ∷ Number 0 ∷ Number 0 ∷ Number 0 ∷ []

abbrev pub leaf_of : Value → LineValue
leaf_of v = Leaf (padded v)

-- the word stands for a value that takes a leaf
pub record IsLink (m : Lookup) (x : Word) : Type 0 where
  pub value : Value
  pub stands : WordFor 4 m x value
  pub large : small (pack_limit 4) (padded value) ≡ None
  pub valid : IsArray (only value)

-- the inner line of {0: 70000, 4: 70000}
abbrev pub twice_of : LineValue
twice_of = Inner (inner (Named (leaf_of (Number 70000)) [] ∷ Named (leaf_of (Number 70000)) [] ∷ Zero ∷ Zero ∷ []))

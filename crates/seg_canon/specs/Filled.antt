-- Which places of a list are not 0.
use Rattle.std.specs.Prelude.{◌≡◌, ◌↔◌, suc, Bool, true, false, IsTrue, List, [], ◌∷◌}
use Rattle.hic_word.specs.declared.Kind.{Kind}
use Rattle.hic_word.specs.declared.Word.{Word}
use Rattle.hic_word.specs.Stands.{word_of}
use Rattle.seg_canon.specs.declared.filled.Filled.{Filled}
use Rattle.seg_canon.specs.declared.filled.Filled.TheVariants.{Nowhere, At, Several}

abbrev pub all_true : List Bool → Bool
all_true [] = true
all_true (true ∷ zs) = all_true zs
all_true (false ∷ zs) = false

abbrev pub further : Filled → Filled
further Nowhere = Nowhere
further (At q) = At (suc q)
further Several = Several

abbrev pub first_if : Bool → Filled
first_if true = At 0
first_if false = Several

-- of tests for 0: the places where they fail
abbrev pub filled_of : List Bool → Filled
filled_of [] = Nowhere
filled_of (true ∷ zs) = further (filled_of zs)
filled_of (false ∷ zs) = first_if (all_true zs)

-- tests of words for the number 0
abbrev pub AreTests : List Word → List Bool → Type 0
AreTests [] [] = Unit {0}
AreTests [] (z ∷ zs) = ⊥
AreTests (word ∷ words) [] = ⊥
AreTests (word ∷ words) (z ∷ zs) = (IsTrue z ↔ (word ≡ word_of Kind.Num 0 0)) × AreTests words zs

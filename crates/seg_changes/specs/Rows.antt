-- Worked examples: a word put into a pair, and where arrays differ.
use Rattle.std.specs.Prelude.{◌≡◌, [], ◌∷◌, refl}
use Rattle.hic_word.specs.declared.Kind.TheVariants.{Num}
use Rattle.hic_word.specs.Stands.{word_of}
use Rattle.hic_word.specs.Values.{Array, Number}
use Rattle.hic_word.specs.Differences.{changes_at, differ}
use Rattle.hic_word.specs.Same.{same_value}
use Rattle.seg_changes.specs.ChangeList.{with_word}
use Rattle.seg_changes.specs.Differing.{differ_from, raised_at}

second_word : with_word ((3, word_of Num 0 30) ∷ (5, word_of Num 0 50) ∷ []) 1 (word_of Num 0 7) ≡ (3, word_of Num 0 30) ∷ (5, word_of Num 0 7) ∷ []
second_word = refl

-- {0: 1, 2: 3} and {0: 1, 1: 4, 2: 5}: the word at 0 is one and the same
abbrev before : Array
before = (0, Number 1) ∷ (2, Number 3) ∷ []

abbrev after : Array
after = (0, Number 1) ∷ (1, Number 4) ∷ (2, Number 5) ∷ []

two_differ : differ before after ≡ 1 ∷ 2 ∷ []
unfolding same_value
two_differ = refl

two_changes : changes_at after (differ before after) ≡ (1, Number 4) ∷ (2, Number 5) ∷ []
unfolding same_value
two_changes = refl

-- a word that only the first array has is changed to 0
two_gone : changes_at [] (differ before []) ≡ (0, Number 0) ∷ (2, Number 0) ∷ []
unfolding same_value
two_gone = refl

-- {0: 1} and {0: 1, 4294967295: 2}
abbrev pub one : Array
one = (0, Number 1) ∷ []

abbrev pub far : Array
far = (0, Number 1) ∷ (4294967295, Number 2) ∷ []

far_differs : changes_at far (differ one far) ≡ (4294967295, Number 2) ∷ []
unfolding same_value
far_differs = refl

far_gone : changes_at one (differ far one) ≡ (4294967295, Number 0) ∷ []
unfolding same_value
far_gone = refl

-- among the 4 offsets of a lowest part that begins at 16
part_differs : differ_from 0 4 before after ≡ 1 ∷ 2 ∷ []
unfolding same_value
part_differs = refl

part_changes : raised_at 16 after (differ_from 0 4 before after) ≡ (17, Number 4) ∷ (18, Number 5) ∷ []
unfolding same_value
part_changes = refl

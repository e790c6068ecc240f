-- Worked rows of the definitions.
use Rattle.std.specs.Prelude.{◌≡◌, ℕ, [], ◌∷◌, Some, None, refl}
use Rattle.hic_word.specs.declared.Kind.TheVariants.{Num}
use Rattle.hic_word.specs.declared.Word.{Word}
use Rattle.write_buf.specs.WordPairs.{WordPairs, offsets, pairs_from, word_at, with_pair}

-- the word of a number
abbrev number : ℕ → Word
number n = record { kind = Num; height = 0; bits = n }

abbrev three : WordPairs
three = (2, number 20) ∷ (5, number 50) ∷ (9, number 90) ∷ []

three_offsets : offsets three ≡ 2 ∷ 5 ∷ 9 ∷ []
three_offsets = refl

word_there : word_at three 5 ≡ Some (number 50)
word_there = refl

no_word_between : word_at three 6 ≡ None
no_word_between = refl

put_first : with_pair [] 7 (number 70) ≡ (7, number 70) ∷ []
put_first = refl

put_before : with_pair three 0 (number 1) ≡ (0, number 1) ∷ (2, number 20) ∷ (5, number 50) ∷ (9, number 90) ∷ []
put_before = refl

put_between : with_pair three 6 (number 1) ≡ (2, number 20) ∷ (5, number 50) ∷ (6, number 1) ∷ (9, number 90) ∷ []
put_between = refl

put_after : with_pair three 4294967295 (number 1) ≡ (2, number 20) ∷ (5, number 50) ∷ (9, number 90) ∷ (4294967295, number 1) ∷ []
put_after = refl

put_over : with_pair three 5 (number 0) ≡ (2, number 20) ∷ (5, number 0) ∷ (9, number 90) ∷ []
put_over = refl

from_one : pairs_from three 5 ≡ (5, number 50) ∷ (9, number 90) ∷ []
from_one = refl

from_between : pairs_from three 6 ≡ (9, number 90) ∷ []
from_between = refl

from_past : pairs_from three 10 ≡ []
from_past = refl

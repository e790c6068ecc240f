-- What is known where an offset stands or fits: its word, and the list that a write or an insert there leaves.
use Rattle.std.proofs.Common.{◌≡◌, ℕ, zero, suc, ◌-◌, [], ◌∷◌, length, get_or, set, drop, take, Some, None, ◌∙◌, refl, arith, length-set}
use Rattle.std.proofs.lemmas.List.{length-drop, take_all}
use Rattle.std.specs.List.{insert, refill}
use Rattle.std.proofs.lemmas.Bool.Decides.{nat_tests}
use Rattle.arrayvec.proofs.ArrayVecLemmas.{items-with_items}
use Rattle.hic_word.specs.declared.Word.{Word}
use Rattle.write_buf.specs.WordPairs.{WordPairs, pairs_from, word_at, with_pair, AscendFrom}
use Rattle.write_buf.specs.Places.{StandsAt, FitsAt}
use Rattle.write_buf.proofs.PairLaws.{word_at-below}

-- the word at an offset is that of the pair where it stands
pub word_at-stands : (pairs : WordPairs) (offset place : ℕ) (d : ℕ × Word) → StandsAt pairs offset place → word_at pairs offset ≡ Some (get_or pairs place d).1
word_at-stands [] offset place d stands = absurd stands
word_at-stands (pair ∷ rest) offset zero d stands = grind (arith, nat_tests, stands)
word_at-stands (pair ∷ rest) offset (suc place) d stands = grind (arith, nat_tests, stands.0, word_at-stands rest offset place d stands.1)

-- that pair is the offset with its word
pub pair-stands : (pairs : WordPairs) (offset place : ℕ) (d : ℕ × Word) → StandsAt pairs offset place → get_or pairs place (offset, (get_or pairs place d).1) ≡ (offset, (get_or pairs place d).1)
pair-stands [] offset place d stands = absurd stands
pair-stands (pair ∷ rest) offset zero d stands = λ i. (stands i, pair.1)
pair-stands (pair ∷ rest) offset (suc place) d stands = pair-stands rest offset place d stands.1

-- no word is at an offset that only fits
pub word_at-fits : (pairs : WordPairs) (b offset place : ℕ) → AscendFrom b pairs → FitsAt pairs offset place → word_at pairs offset ≡ None
word_at-fits [] b offset place ascend fits = refl
word_at-fits (pair ∷ rest) b offset zero ascend fits = word_at-below (pair ∷ rest) pair.0 offset (omega arith, ascend.1, ascend.2) fits
word_at-fits (pair ∷ rest) b offset (suc place) ascend fits = grind (arith, nat_tests, fits.0, word_at-fits rest (suc pair.0) offset place ascend.2 fits.1)

-- a word written over the one where its offset stands is put in
set-stands : (pairs : WordPairs) (offset place : ℕ) (word : Word) (d : ℕ × Word) → StandsAt pairs offset place → set pairs place ((get_or pairs place d).0, word) ≡ with_pair pairs offset word
set-stands [] offset place word d stands = absurd stands
set-stands (pair ∷ rest) offset zero word d stands = grind (arith, nat_tests, stands)
set-stands (pair ∷ rest) offset (suc place) word d stands = grind (arith, nat_tests, stands.0, set-stands rest offset place word d stands.1)

-- the same, where it is written through a lent slice of the items
pub written-stands : (items pairs lent : WordPairs) (offset place : ℕ) (written word : Word) (d : ℕ × Word) → items ≡ pairs → lent ≡ items → written ≡ word → StandsAt pairs offset place → refill (length items) items (set lent place ((get_or lent place d).0, written)) ≡ with_pair pairs offset word
written-stands items pairs lent offset place written word d items_are lent_is written_is stands =
    rw (lent_is, items_are, written_is) (items-with_items (record { items = pairs }) (set pairs place ((get_or pairs place d).0, word)) (length-set pairs place ((get_or pairs place d).0, word)) ∙ set-stands pairs offset place word d stands)

-- a pair inserted where its offset fits is put in
insert-fits : (pairs : WordPairs) (offset place : ℕ) (word : Word) → FitsAt pairs offset place → insert pairs place (offset, word) ≡ with_pair pairs offset word
insert-fits [] offset zero word fits = refl
insert-fits [] offset (suc place) word fits = absurd fits
insert-fits (pair ∷ rest) offset zero word fits = grind (arith, nat_tests, fits)
insert-fits (pair ∷ rest) offset (suc place) word fits = grind (arith, nat_tests, fits.0, insert-fits rest offset place word fits.1)

-- the same of what such an insert leaves of the items
pub inserted-fits : (items pairs new : WordPairs) (offset place : ℕ) (word : Word) → items ≡ pairs → new ≡ insert items place (offset, word) → FitsAt pairs offset place → new ≡ with_pair pairs offset word
inserted-fits items pairs new offset place word items_are inserted fits = rw (inserted, items_are) (insert-fits pairs offset place word fits)

-- the pairs from the place where an offset stands, or fits, are those at the offset and above it
pub from-stands : (pairs : WordPairs) (offset place : ℕ) → StandsAt pairs offset place → drop place pairs ≡ pairs_from pairs offset
from-stands [] offset place stands = absurd stands
from-stands (pair ∷ rest) offset zero stands = grind (arith, nat_tests, stands)
from-stands (pair ∷ rest) offset (suc place) stands = grind (arith, nat_tests, stands.0, from-stands rest offset place stands.1)

pub from-fits : (pairs : WordPairs) (offset place : ℕ) → FitsAt pairs offset place → drop place pairs ≡ pairs_from pairs offset
from-fits [] offset zero fits = refl
from-fits [] offset (suc place) fits = absurd fits
from-fits (pair ∷ rest) offset zero fits = grind (arith, nat_tests, fits)
from-fits (pair ∷ rest) offset (suc place) fits = grind (arith, nat_tests, fits.0, from-fits rest offset place fits.1)

-- a slice from a place on is what is left from there
pub rest_of : (pairs lent rest : WordPairs) (place : ℕ) → lent ≡ pairs → drop place pairs ≡ rest → take (length lent - place) (drop place lent) ≡ rest
rest_of pairs lent rest place lent_is rest_is = rw lent_is (take_all (length pairs - place) (drop place pairs) (let e = length-drop place pairs in omega (arith, e)) ∙ rest_is)

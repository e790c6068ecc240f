-- What a binary search finds among ascending pairs.
use Rattle.std.proofs.Common.{◌≡◌, ℕ, zero, suc, ◌<◌, ◌≤◌, [], ◌∷◌, length, get_or, None, Result, Ok, Err, IfOk, IfErr, OnErr, sym, inl, inr, arith}
use Rattle.std.specs.List.Sorted.{IsSearchInRange, IsBinarySearchResult, IsNonDecreasingBy}
use Rattle.std.specs.Ordering.{nat_cmp, ordering_index}
use Rattle.std.proofs.lemmas.Cmp.{ranked}
use Rattle.std.proofs.lemmas.Bool.{cases_eq}
use Rattle.std.proofs.lemmas.Bool.Decides.{nat_tests}
use Rattle.hic_word.specs.declared.Word.{Word}
use Rattle.write_buf.specs.WordPairs.{WordPairs, word_at, AscendFrom}
use Rattle.write_buf.specs.Places.{StandsAt, FitsAt}
use Rattle.write_buf.proofs.PlaceLaws.{word_at-fits}

-- each offset is at least the bound
at_least : (pairs : WordPairs) (b place : ℕ) (d : ℕ × Word) → AscendFrom b pairs → place < length pairs → b ≤ (get_or pairs place d).0
at_least [] b place d ascend in_range = omega (arith, in_range)
at_least (pair ∷ rest) b zero d ascend in_range = ascend.0
at_least (pair ∷ rest) b (suc place) d ascend in_range = omega (arith, ascend.0, at_least rest (suc pair.0) place d ascend.2 (omega (arith, in_range)))

-- a later offset is higher
offsets_rise : (pairs : WordPairs) (b i j : ℕ) (d : ℕ × Word) → AscendFrom b pairs → i < j → j < length pairs → (get_or pairs i d).0 < (get_or pairs j d).0
offsets_rise [] b i j d ascend before in_range = omega (arith, in_range)
offsets_rise (pair ∷ rest) b i zero d ascend before in_range = absurd (omega (arith, before))
offsets_rise (pair ∷ rest) b zero (suc j) d ascend before in_range = omega (arith, at_least rest (suc pair.0) j d ascend.2 (omega (arith, in_range)))
offsets_rise (pair ∷ rest) b (suc i) (suc j) d ascend before in_range = offsets_rise rest (suc pair.0) i j d ascend.2 (omega (arith, before)) (omega (arith, in_range))

-- the comparisons with an offset rise along the pairs, as a binary search asks
comparisons_rise : (pairs : WordPairs) (b offset : ℕ) → AscendFrom b pairs → IsNonDecreasingBy (λ pair. ordering_index (nat_cmp pair.0 offset)) pairs
comparisons_rise pairs b offset ascend i j d le in_range = elim (cases_eq i j) [
  | inl same ↦ grind (arith, same)
  | inr differ ↦ grind (arith, nat_tests, offsets_rise pairs b i j d ascend (omega (arith, le, differ)) in_range)
]

-- a place whose pair has the offset is where it stands
stands_from : (pairs : WordPairs) (b offset place : ℕ) → AscendFrom b pairs → place < length pairs → ((d : ℕ × Word) → (get_or pairs place d).0 ≡ offset) → StandsAt pairs offset place
stands_from [] b offset place ascend in_range same = omega (arith, in_range)
stands_from (pair ∷ rest) b offset zero ascend in_range same = same pair
stands_from (pair ∷ rest) b offset (suc place) ascend in_range same =
    let next : place < length rest = omega (arith, in_range) in
    (omega (arith, same pair, at_least rest (suc pair.0) place pair ascend.2 next), stands_from rest (suc pair.0) offset place ascend.2 next same)

-- a place between lower and higher offsets is where it fits
fits_from : (pairs : WordPairs) (offset place : ℕ) → place ≤ length pairs → ((j : ℕ) (d : ℕ × Word) → j < place → (get_or pairs j d).0 < offset) → ((j : ℕ) (d : ℕ × Word) → place ≤ j → j < length pairs → offset < (get_or pairs j d).0) → FitsAt pairs offset place
fits_from [] offset zero in_range lower higher = tt
fits_from [] offset (suc place) in_range lower higher = omega (arith, in_range)
fits_from (pair ∷ rest) offset zero in_range lower higher = higher zero pair (omega arith) (omega arith)
fits_from (pair ∷ rest) offset (suc place) in_range lower higher = (lower zero pair (omega arith), fits_from rest offset place (omega (arith, in_range)) (λ j d below. lower (suc j) d (omega (arith, below))) (λ j d above below. higher (suc j) d (omega (arith, above)) (omega (arith, below))))

-- a binary search ends where the offset stands, or where it fits
pub searched : (pairs : WordPairs) (offset : ℕ) → AscendFrom 0 pairs → (r : Result ℕ ℕ) → IsSearchInRange r (length pairs) → IsBinarySearchResult (λ pair. nat_cmp pair.0 offset) pairs r → record { bound : IsSearchInRange r (length pairs); stands : IfOk r (StandsAt pairs offset); fits : IfErr r (FitsAt pairs offset); absent : OnErr r (word_at pairs offset ≡ None) }
searched pairs offset ascend (Ok place) in_range equal = record { bound = in_range; stands = stands_from pairs 0 offset place ascend in_range (λ d. ranked _ offset _ (sym (equal d))); fits = tt; absent = tt }
searched pairs offset ascend (Err place) in_range parted =
    let cut = parted (comparisons_rise pairs 0 offset ascend) in
    let fits = fits_from pairs offset place in_range (λ j d below. ranked _ offset _ (sym (cut.0 j d (omega arith) below))) (λ j d above below. ranked _ offset _ (sym (cut.1 j d above below))) in
    record { bound = in_range; stands = tt; fits = fits; absent = word_at-fits pairs 0 offset place ascend fits }

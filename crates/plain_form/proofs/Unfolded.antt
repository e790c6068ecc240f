-- Definitions, said of the numbers that the code has.
use Rattle.std.proofs.Common.{◌≡◌, ℕ, zero, suc, ◌+◌, ◌-◌, ◌^◌, ◌<◌, ◌≤◌, Bool, true, false, cond, List, [], ◌∷◌, map, refl, sym, ◌∙◌, ap, arith}
use Rattle.std.proofs.lemmas.Bool.{lt-ltb, le-ltb}
use Rattle.std.specs.Prelude.{count_by}
use Rattle.std.proofs.lemmas.List.Sums.{sum_by-cons}
use Rattle.hic_word.specs.Values.{Array, Pairs, Value, array, pairs, pairs-array}
use Rattle.hic_word.specs.Heights.{height_from}
use Rattle.hic_word.specs.Entries.{Entries, LineValue, More, NoEntry, Zero, entries, inner}
use Rattle.hic_word.specs.Parts.{slice, slices}
use Rattle.hic_word.specs.Canon.{above, enc, joined, sole}

-- the least height where the levels are used up, where there is room, and where there is none
pub height_from_last : (w h o : ℕ) → height_from w 0 h o ≡ h
unfolding height_from
height_from_last w h o = refl

pub height_from_room : (w f h o : ℕ) → o < w ^ h → height_from w f h o ≡ h
unfolding height_from
height_from_room w zero h o low = refl
height_from_room w (suc f) h o low = ap (λ t. elim t as (λ _. ℕ) [ true ↦ h | false ↦ height_from w f (suc h) o ]) (lt-ltb o (w ^ h) low)

pub height_from_next : (w f h o : ℕ) → 1 ≤ f → w ^ h ≤ o → height_from w f h o ≡ height_from w (f - 1) (h + 1) o
unfolding height_from
height_from_next w zero h o some high = absurd (omega (arith, some))
height_from_next w (suc f) h o some high =
    let less : suc f - 1 ≡ f = omega arith in
    let more : h + 1 ≡ suc h = omega arith in
    ap (λ t. elim t as (λ _. ℕ) [ true ↦ h | false ↦ height_from w f (suc h) o ]) (le-ltb o (w ^ h) high) ∙ ap (λ g. height_from w g (suc h) o) (sym less) ∙ ap (λ k. height_from w (suc f - 1) k o) (sym more)

-- entries of a line value, as a list and back
pub inner_entries : (es : Entries) → inner (entries es) ≡ es
inner_entries NoEntry = refl
inner_entries (More e es) = ap (More e) (inner_entries es)

-- the entry of a part k levels above the lowest, where it is empty, and where it is not and k is not 0
pub above_empty : (w k : ℕ) → above w k [] ≡ Zero
above_empty w zero = refl
above_empty w (suc k) = refl

pub above_higher : (w k : ℕ) (p : ℕ × Value) (A : Array) → 1 ≤ k
    → above w k (p ∷ A) ≡ joined (sole (map (above w (k - 1)) (slices w 0 (w ^ k) (p ∷ A)))) (map (above w (k - 1)) (slices w 0 (w ^ k) (p ∷ A)))
above_higher w zero p A high = absurd (omega (arith, high))
above_higher w (suc k) p A high = let less : k ≡ suc k - 1 = omega arith in ap (λ j. joined (sole (map (above w j) (slices w 0 (w ^ suc k) (p ∷ A)))) (map (above w j) (slices w 0 (w ^ suc k) (p ∷ A)))) less

-- the entry of a part of height h
pub enc_above : (w h : ℕ) (A : Array) → 1 ≤ h → enc w h A ≡ above w (h - 1) A
enc_above w zero A some = absurd (omega (arith, some))
enc_above w (suc k) A some = let less : k ≡ suc k - 1 = omega arith in ap (λ j. above w j A) less

-- one slice, and the others
pub slices_more : (n b s : ℕ) (A : Array) → 1 ≤ n → slices n b s A ≡ slice b s A ∷ slices (n - 1) (b + s) s A
slices_more zero b s A some = absurd (omega (arith, some))
slices_more (suc n) b s A some = let less : n ≡ suc n - 1 = omega arith in ap (λ m. slice b s A ∷ slices m (b + s) s A) less

-- a reference to an array has its pairs
pub pairs_back : (H : Pairs) → pairs (array H) ≡ H
pairs_back H = pairs-array H

-- a count with one line value more
pub times_more : (p : LineValue → Bool) (L : LineValue) (Ls : List LineValue) → count_by p (L ∷ Ls) ≡ cond (p L) 1 0 + count_by p Ls
times_more p L Ls = sum_by-cons (λ K. cond (p K) 1 0) L Ls

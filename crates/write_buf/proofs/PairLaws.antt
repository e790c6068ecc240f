-- Laws of lists of pairs: what a pair put in changes, and what the words at offsets say of the list.
use Rattle.std.proofs.Common.{◌≡◌, ℕ, zero, suc, ◌^◌, ◌<◌, ◌≤◌, eqb, ltb, ◌↔◌, Bool, true, false, [], ◌∷◌, Contains, if◌then◌else◌, Some, None, refl, arith}
use mathlib.Core.Bool.{false≢true}
use Rattle.std.proofs.lemmas.Bool.Decides.{nat_tests}
use Rattle.hic_word.specs.declared.Word.{Word}
use Rattle.write_buf.specs.WordPairs.{WordPairs, offsets, word_at, with_pair, AscendFrom, IsFullOfOthers, SetsOnly}

-- what ascends from b on ascends from any lower bound on
ascend_lower : (pairs : WordPairs) (low b : ℕ) → low ≤ b → AscendFrom b pairs → AscendFrom low pairs
ascend_lower [] low b below ascend = tt
ascend_lower (pair ∷ rest) low b below ascend = (omega (arith, ascend.0), ascend.1, ascend.2)

-- what holds of each of three lists holds of the one that two tests choose
one_of_three : (first second : Bool) (P : WordPairs → Type 0) (xs ys zs : WordPairs) → (first ≡ true → P xs) → (first ≡ false → second ≡ true → P ys) → (first ≡ false → second ≡ false → P zs) → P (if first then xs else (if second then ys else zs))
one_of_three true second P xs ys zs at_first at_second at_third = at_first refl
one_of_three false true P xs ys zs at_first at_second at_third = at_second refl refl
one_of_three false false P xs ys zs at_first at_second at_third = at_third refl refl

-- the offsets still ascend with a pair put in
pub ascend-with_pair : (pairs : WordPairs) (b offset : ℕ) (word : Word) → AscendFrom b pairs → b ≤ offset → offset < 2 ^ 32 → AscendFrom b (with_pair pairs offset word)
ascend-with_pair [] b offset word ascend low high = (low, high, tt)
ascend-with_pair (pair ∷ rest) b offset word ascend low high =
    one_of_three (eqb pair.0 offset) (ltb pair.0 offset) (AscendFrom b) ((offset, word) ∷ rest) (pair ∷ with_pair rest offset word) ((offset, word) ∷ pair ∷ rest)
    (λ same. (low, high, ascend_lower rest (suc offset) (suc pair.0) (grind (arith, nat_tests, same)) ascend.2))
    (λ differ before. (ascend.0, ascend.1, ascend-with_pair rest (suc pair.0) offset word ascend.2 (grind (arith, nat_tests, before)) high))
    (λ differ after. (low, high, (grind (arith, nat_tests, differ, after), ascend.1, ascend.2)))

-- so the offsets of what a put leaves of the items ascend
pub ascend-put : (items pairs new : WordPairs) (offset : ℕ) (word : Word) → items ≡ pairs → AscendFrom 0 items → new ≡ with_pair pairs offset word → offset < 2 ^ 32 → AscendFrom 0 new
ascend-put items pairs new offset word items_are ascend put high = rw (put, ← items_are) (ascend-with_pair items 0 offset word ascend (omega arith) high)

-- what the words are with a pair put in
pub word_at-with_pair : (pairs : WordPairs) (offset : ℕ) (word : Word) (other : ℕ) → word_at (with_pair pairs offset word) other ≡ (if eqb offset other then Some word else word_at pairs other)
word_at-with_pair [] offset word other = refl
word_at-with_pair (pair ∷ rest) offset word other = grind (arith, nat_tests, word_at-with_pair rest offset word other)

-- so a list with the pair put in differs at that offset alone
pub sets_only : (old new : WordPairs) (offset : ℕ) (word : Word) → new ≡ with_pair old offset word → SetsOnly old new offset word
sets_only old new offset word put = rw put (record {
  here = grind (arith, nat_tests, word_at-with_pair old offset word offset);
  elsewhere = λ other differs. grind (arith, nat_tests, word_at-with_pair old offset word other);
})

-- no word is at an offset below all
pub word_at-below : (pairs : WordPairs) (b offset : ℕ) → AscendFrom b pairs → offset < b → word_at pairs offset ≡ None
word_at-below [] b offset ascend below = refl
word_at-below (pair ∷ rest) b offset ascend below = grind (arith, nat_tests, ascend.0, word_at-below rest (suc pair.0) offset ascend.2)

-- where no word is at an offset, no pair has the offset
pub absent : (pairs : WordPairs) (offset : ℕ) → word_at pairs offset ≡ None → ¬ Contains (offsets pairs) offset
absent [] offset none (place, in_range, same) = omega (arith, in_range)
absent (pair ∷ rest) offset none (zero, in_range, same) = grind (arith, nat_tests, none, same)
absent (pair ∷ rest) offset none (suc place, in_range, same) = absent rest offset (grind (arith, nat_tests, none)) (place, omega (arith, in_range), same)

-- pairs with the offset are not full of others
pub not_full : (pairs : WordPairs) (offset : ℕ) (word : Word) → word_at pairs offset ≡ Some word → false ≡ true ↔ IsFullOfOthers pairs offset
not_full pairs offset word there = (λ same. absurd (false≢true same), λ full. cc)

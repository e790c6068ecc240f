-- The height of an array is the least with room for it.
use Rattle.std.proofs.Common.{◌≡◌, ◌≢◌, ℕ, ◌^◌, ◌≤◌, [], ◌∷◌, refl, inl, inr, arith}
use Rattle.std.proofs.Math.Nat.{one-le-pow}
use Rattle.std.proofs.lemmas.Bool.{cases_lt}
use Rattle.hic_word.specs.Values.{Array, IsBelow}
use Rattle.hic_word.specs.Heights.{height, largest, height_from}
use Rattle.hic_word.specs.FormLaws.{HeightsAreLeast}
use Rattle.hic_word.proofs.Fits.{sorted_array}
use Rattle.hic_word.proofs.Heights.{below_height, height_at_most, height_positive, largest_below, height_from-least}
use Rattle.hic_word.proofs.Widths.{two_words}

least : (w j : ℕ) (A : Array) → 1 ≤ w → 1 ≤ j → IsBelow (w ^ j) A → height w A ≤ j
unfolding height
least w j [] some one h = omega arith
least w j (p ∷ A) some one h = elim (cases_lt j (height_from w 32 1 (largest (p ∷ A)))) [
  | inl more ↦
      let past = height_from-least w 32 1 (largest (p ∷ A)) j one more in
      let below = largest_below (w ^ j) (p ∷ A) (one-le-pow j w some) h in
      absurd (omega arith)
  | inr le ↦ le
]

no_height : (w : ℕ) (A : Array) → A ≡ [] → height w A ≡ 0
unfolding height
no_height w [] e = refl
no_height w (p ∷ A) e = cc

some_height : (w : ℕ) (A : Array) → A ≢ [] → 1 ≤ height w A
some_height w [] n = absurd (n refl)
some_height w (p ∷ A) n = height_positive w p A

pub heights_are_least : HeightsAreLeast
heights_are_least w A width a =
    let sorted = sorted_array A a in
    let two = two_words width in
    record {
      empty = no_height w A;
      positive = some_height w A;
      low = height_at_most width A sorted.below;
      room = below_height w A two sorted.below;
      least = λ j. least w j A (omega arith);
    }

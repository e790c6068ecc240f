-- The height of an array is the least that has room for it.
use Rattle.std.proofs.Common.{◌≡◌, ℕ, zero, suc, ◌+◌, ◌^◌, ◌<◌, ◌≤◌, Bool, true, false, ltb, [], ◌∷◌, refl, subst, inl, inr, arith}
use Rattle.std.proofs.lemmas.Bool.{cases_lt, cases_eq, ltb-true, ltb-false}
use Rattle.std.proofs.Math.Nat.{pow-succ', pow-zero, mul-le-mul}
use Rattle.hic_word.specs.Width.{IsWidth, greatest}
use Rattle.hic_word.specs.Values.{Array, HasNoZero, IsBelow, RisesFrom, Value}
use Rattle.hic_word.specs.Heights.{height, largest, height_from}
use Rattle.hic_word.proofs.Decode.{IsPlain}
use Rattle.hic_word.proofs.Widths.{greatest_positive, greatest_room}

height_from-enough : (w f h o : ℕ) → o < w ^ (h + f) → o < w ^ height_from w f h o
unfolding height_from
height_from-enough w zero h o lt = subst (λ m. o < w ^ m) (omega arith) lt
height_from-enough w (suc f) h o lt = go (ltb o (w ^ h)) refl (height_from-enough w f (suc h) o (subst (λ m. o < w ^ m) (omega arith) lt))
  where
    go : (t : Bool) → ltb o (w ^ h) ≡ t → o < w ^ height_from w f (suc h) o → o < w ^ (elim t [ true ↦ h | false ↦ height_from w f (suc h) o ])
    go true e more = ltb-true o (w ^ h) e
    go false e more = more

height_from-from : (w f h o : ℕ) → h ≤ height_from w f h o
unfolding height_from
height_from-from w zero h o = omega arith
height_from-from w (suc f) h o = go (ltb o (w ^ h)) (height_from-from w f (suc h) o)
  where
    go : (t : Bool) → suc h ≤ height_from w f (suc h) o → h ≤ (elim t [ true ↦ h | false ↦ height_from w f (suc h) o ])
    go true more = omega arith
    go false more = omega arith

-- the least: at any less height from h on, o does not fit
pub height_from-least : (w f h o j : ℕ) → h ≤ j → j < height_from w f h o → w ^ j ≤ o
unfolding height_from
height_from-least w zero h o j le lt = absurd (omega arith)
height_from-least w (suc f) h o j le lt = go (ltb o (w ^ h)) refl lt (λ more. height_from-least w f (suc h) o j more)
  where
    go : (t : Bool) → ltb o (w ^ h) ≡ t → j < (elim t [ true ↦ h | false ↦ height_from w f (suc h) o ]) → (suc h ≤ j → j < height_from w f (suc h) o → w ^ j ≤ o) → w ^ j ≤ o
    go true e lt again = absurd (omega arith)
    go false e lt again = elim (cases_eq h j) [
      | inl same ↦ subst (λ m. w ^ m ≤ o) same (ltb-false o (w ^ h) e)
      | inr other ↦ again (omega arith) lt
    ]

IsBelow-largest : (n : ℕ) (A : Array) → largest A < n → IsBelow n A
IsBelow-largest n [] h = tt
IsBelow-largest n (p ∷ A) h = (omega arith, IsBelow-largest n A (omega arith))

pub largest_below : (n : ℕ) (A : Array) → 0 < n → IsBelow n A → largest A < n
largest_below n [] z h = z
largest_below n (p ∷ A) z h = let rest = largest_below n A z h.1 in omega arith

-- 2 ^ n is at most w ^ n
pow_base : (w n : ℕ) → 2 ≤ w → 2 ^ n ≤ w ^ n
pow_base w zero h = rw (pow-zero 2, pow-zero w) (omega arith)
pow_base w (suc n) h = rw (pow-succ' 2 n, pow-succ' w n) (mul-le-mul h (pow_base w n h))

pub below_height : (w : ℕ) (A : Array) → 2 ≤ w → IsBelow (2 ^ 32) A → IsBelow (w ^ height w A) A
unfolding height
below_height w [] two h = tt
below_height w (p ∷ A) two h =
    let root_entry : largest (p ∷ A) < 2 ^ 32 = largest_below (2 ^ 32) (p ∷ A) (omega arith) h in
    let wide : 2 ^ 33 ≤ w ^ (1 + 32) = pow_base w 33 two in
    IsBelow-largest _ (p ∷ A) (height_from-enough w 32 1 (largest (p ∷ A)) (omega arith))

pub height_positive : (w : ℕ) (p : ℕ × Value) (A : Array) → 1 ≤ height w (p ∷ A)
unfolding height
height_positive w p A = height_from-from w 32 1 (largest (p ∷ A))

pub height_at_most : {w : ℕ} → IsWidth w → (A : Array) → IsBelow (2 ^ 32) A → height w A ≤ greatest w
unfolding height
height_at_most width [] h = omega arith
height_at_most {w} width (p ∷ A) h = elim (cases_lt (greatest w) (height_from w 32 1 (largest (p ∷ A)))) [
  | inl more ↦
      let root_entry : largest (p ∷ A) < 2 ^ 32 = largest_below (2 ^ 32) (p ∷ A) (omega arith) h in
      let past : w ^ greatest w ≤ largest (p ∷ A) = height_from-least w 32 1 (largest (p ∷ A)) (greatest w) (greatest_positive width) more in
      let room = greatest_room width in
      absurd (omega arith)
  | inr le ↦ le
]

-- what laws need of an array
pub record IsSorted (A : Array) : Type 0 where
  pub rises : RisesFrom 0 A
  pub no_zero : HasNoZero A
  pub below : IsBelow (2 ^ 32) A

pub plain : (w : ℕ) (A : Array) → 2 ≤ w → IsSorted A → IsPlain w (height w A) A
plain w A two a = record { rises = a.rises; no_zero = a.no_zero; below = below_height w A two a.below }

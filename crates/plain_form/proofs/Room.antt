-- What a part covers fits, and no height is needed past the greatest.
use Rattle.std.proofs.Common.{◌≡◌, ℕ, zero, suc, ◌+◌, ◌-◌, ◌*◌, ◌^◌, ◌<◌, ◌≤◌, sym, subst, inl, inr, arith, le_trans}
use Rattle.std.proofs.Math.Nat.{pow-le-pow_right, pow-succ'}
use Rattle.std.proofs.lemmas.Bool.{cases_eq}
use Rattle.hic_word.specs.Width.{IsWidth, greatest}
use Rattle.hic_word.proofs.callers.Forms.{by_width, greatest_room, two_words}

whole_fits : {w : ℕ} → IsWidth w → w ^ greatest w ≤ 2 ^ 33
whole_fits = by_width (λ w. w ^ greatest w ≤ 2 ^ 33) (omega arith) (omega arith) (omega arith)

-- a line has 8 words at most
pub few_words : {w : ℕ} → IsWidth w → w ≤ 8
few_words = by_width (λ w. w ≤ 8) (omega arith) (omega arith) (omega arith)

pub span_fits : (w h : ℕ) → IsWidth w → h ≤ greatest w → w ^ h ≤ 2 ^ 33
span_fits w h width low = let two = two_words width in le_trans (pow-le-pow_right (omega (arith, two)) low) (whole_fits width)

-- an offset that has no room at a height has a height above it
pub height_above : (w h offset : ℕ) → IsWidth w → h ≤ greatest w → offset < 2 ^ 32 → w ^ h ≤ offset → h + 1 ≤ greatest w
height_above w h offset width low small out = elim (cases_eq h (greatest w)) [
  | inl same ↦ absurd (let room = greatest_room width in let full = subst (λ k. w ^ k ≤ offset) same out in omega (arith, room, full, small))
  | inr other ↦ omega (arith, other, low)
]

-- the parts of a part fit, and of some parts the first and the others
pub whole_room : (w k : ℕ) → IsWidth w → k < greatest w → w * w ^ k ≤ 2 ^ 33
whole_room w k width low = subst (λ n. n ≤ 2 ^ 33) (pow-succ' w k) (span_fits w (suc k) width low)

pub part_room : (n from s most : ℕ) → 1 ≤ n → from + n * s ≤ most → (from + s ≤ most) × (from + s + (n - 1) * s ≤ most)
part_room zero from s most some room = absurd (omega (arith, some))
part_room (suc n) from s most some room =
    let less : suc n - 1 ≡ n = omega arith in
    let split : suc n * s ≡ s + n * s = omega arith in
    (omega (arith, split, room), subst (λ m. from + s + m * s ≤ most) (sym less) (omega (arith, split, room)))

-- Parts past an array are empty, and a first part with all of it is the array.
use Rattle.std.proofs.Common.{◌≡◌, ℕ, ◌-◌, ◌*◌, ◌^◌, ◌≤◌, [], ◌∷◌, ◌∙◌, ap, arith}
use Rattle.std.proofs.Math.Nat.{mul-le-mul_right}
use Rattle.hic_word.specs.Values.{Array, IsBelow}
use Rattle.hic_word.specs.Parts.{part, slice}
use Rattle.hic_word.specs.FormLaws.{HighPartsAreEmpty}
use Rattle.hic_word.proofs.Fits.{sorted_array}
use Rattle.hic_word.proofs.Slices.{slice_high, slice_whole}

pub IsBelow-more : (n m : ℕ) (A : Array) → n ≤ m → IsBelow n A → IsBelow m A
IsBelow-more n m [] more h = tt
IsBelow-more n m (p ∷ A) more h = (omega arith, IsBelow-more n m A more h.1)

pub high_parts_are_empty : HighPartsAreEmpty
high_parts_are_empty w h q A a high = slice_high (q * w ^ (h - 1)) (w ^ (h - 1)) A (IsBelow-more (2 ^ 32) (q * w ^ (h - 1)) A high (sorted_array A a).below)

-- an array that ends within its first part is that part, and its other parts are empty
pub first_part : (w h : ℕ) (A : Array) → IsBelow (w ^ (h - 1)) A → part w A h 0 ≡ A
first_part w h A below = let start : 0 * w ^ (h - 1) ≡ 0 = omega arith in ap (λ b. slice b (w ^ (h - 1)) A) start ∙ slice_whole (w ^ (h - 1)) A below

pub later_part : (w h q : ℕ) (A : Array) → 1 ≤ q → IsBelow (w ^ (h - 1)) A → part w A h q ≡ []
later_part w h q A later below =
    let s = w ^ (h - 1) in
    let past = mul-le-mul_right s later in
    slice_high (q * s) s A (IsBelow-more s (q * s) A (omega (arith, past)) below)

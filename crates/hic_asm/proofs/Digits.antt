-- Numbers by their digits.
use Rattle.std.proofs.Common.{◌≡◌, ℕ, ◌+◌, ◌*◌, ◌^◌, ◌<◌, ◌≤◌, List, length, take, get_or, Bool, true, ltb, refl, add-one, arith}
use Rattle.std.proofs.Math.Nat.{pow-suc, pow-le-pow_right, mul-le-mul_left}
use Rattle.std.specs.Char.{digit_value}
use Rattle.std.specs.List.{list_all}
use Rattle.std.specs.Str.Parse.{digits_value}
use Rattle.std.proofs.lemmas.Bool.{lt-ltb}
use Rattle.std.proofs.lemmas.List.Folds.{list_all_more}
use Rattle.std.proofs.lemmas.Int.Digits.{digits_value_more}

-- a digit of this radix
abbrev pub is_digit : ℕ → ℕ → Bool
is_digit radix c = ltb (digit_value c) radix

-- one digit more: all are digits
pub all_more : (radix : ℕ) (digits : List ℕ) (i : ℕ) → i < length digits → list_all (is_digit radix) (take i digits) ≡ true → digit_value (get_or digits i 0) < radix → list_all (is_digit radix) (take (i + 1) digits) ≡ true
all_more radix digits i within so_far here = rw (list_all_more (is_digit radix) digits i 0 within, so_far, lt-ltb _ _ here) refl

-- one digit more: the value
pub value_more : (radix : ℕ) (digits : List ℕ) (i value digit : ℕ) → i < length digits → value ≡ digits_value radix (take i digits) → digit ≡ digit_value (get_or digits i 0) → value * radix + digit ≡ digits_value radix (take (i + 1) digits)
value_more radix digits i value digit within so_far here = rw (digits_value_more radix digits i within, so_far, here) refl

-- one digit more: the bound
pub below_more : (radix value digit i : ℕ) → value < 16 ^ i → digit < radix → radix ≤ 16 → value * radix + digit < 16 ^ (i + 1)
below_more radix value digit i below small high =
    let wider : value * radix ≤ value * 16 = mul-le-mul_left value high in
    rw (add-one, pow-suc) (omega arith)

pub below_all : (value i : ℕ) → value < 16 ^ i → i ≤ 20 → value < 16 ^ 20
below_all value i below few = let wider : 16 ^ i ≤ 16 ^ 20 = pow-le-pow_right (omega arith) few in omega arith

-- the product fits
pub product_below : (radix value i : ℕ) → value < 16 ^ i → i < 20 → radix ≤ 16 → value * radix < 16 ^ 20
product_below radix value i below few high =
    let wider : value * radix ≤ value * 16 = mul-le-mul_left value high in
    let more : value * 16 < 16 ^ (i + 1) = rw (add-one, pow-suc) (omega arith) in
    let bound : value * 16 < 16 ^ 20 = below_all (value * 16) (i + 1) more (omega arith) in
    omega arith

-- A product with a reciprocal tells the quotient, or one less.
use Rattle.std.proofs.Common.{◌≡◌, ℕ, ◌+◌, ◌*◌, ◌-◌, ◌/◌, ◌%◌, ◌<◌, ◌≤◌, ◌^◌, arith}
use Rattle.std.proofs.Math.Nat.{div-mul-le_self, lt-div-mul-add, mul-le-mul_right, mul-le-mul_left, mul-lt-mul_of_pos_right, le_of_mul-le-mul_right, lt_of_mul-lt-mul_right}
use Rattle.std.proofs.lemmas.Nat.{mod-mul-add}
use Rattle.line_hash.specs.Reciprocal.{IsReciprocal}

-- a quotient by 2^64 of x times the inverse is not too large
fits : (q x n m p : ℕ) → 0 < p → q * p ≤ x * m → m * n ≤ p → q * n ≤ x
fits q x n m p some a le =
    let b : q * p * n ≤ x * m * n = mul-le-mul_right n a in
    let c : x * (m * n) ≤ x * p = mul-le-mul_left x le in
    let d : q * n * p ≤ x * p = omega (arith, b, c) in
    le_of_mul-le-mul_right d some

-- nor too small by more than one
near : (q x n m p : ℕ) → x ≤ p → 0 < n → x * m < q * p + p → p ≤ m * n + n → x < q * n + 2 * n
near q x n m p small some a le =
    let b : x * m * n < (q * p + p) * n = mul-lt-mul_of_pos_right a some in
    let c : x * p ≤ x * (m * n + n) = mul-le-mul_left x le in
    let d : x * n ≤ p * n = mul-le-mul_right n small in
    let e : x * p < (q * n + 2 * n) * p = omega (arith, b, c, d) in
    lt_of_mul-lt-mul_right p e

remains : (x q n r : ℕ) → r < n → q * n + r ≡ x → r ≡ x % n
remains x q n r small e = let h : (q * n + r) % n ≡ r = mod-mul-add q n r small in cc

-- what the code computes, x and m as y and k
module _ (x y n m k : ℕ) (ex : y ≡ x) (em : k ≡ m) (inverse : IsReciprocal n m) where
  pub quotient-fits : y * k / 2 ^ 64 * n ≤ x
  quotient-fits = rw ex (rw em (fits (x * m / 2 ^ 64) x n m (2 ^ 64) (omega arith) (div-mul-le_self (x * m) (2 ^ 64)) inverse.not_above))

  -- the remainder where the quotient was not too small
  pub remainder-low : x - y * k / 2 ^ 64 * n < n → x - y * k / 2 ^ 64 * n ≡ x % n
  remainder-low small = remains x (y * k / 2 ^ 64) n (x - y * k / 2 ^ 64 * n) small (omega (arith, quotient-fits))

  -- the remainder where it was one too small
  pub remainder-high : x < 2 ^ 64 → n ≤ x - y * k / 2 ^ 64 * n → x - y * k / 2 ^ 64 * n - n ≡ x % n
  remainder-high small large =
      let a : x < y * k / 2 ^ 64 * n + 2 * n = rw ex (rw em (near (x * m / 2 ^ 64) x n m (2 ^ 64) (omega arith) inverse.some (lt-div-mul-add (omega arith)) inverse.near)) in
      remains x (y * k / 2 ^ 64 + 1) n (x - y * k / 2 ^ 64 * n - n) (omega (arith, a, quotient-fits, large)) (omega (arith, quotient-fits, large))

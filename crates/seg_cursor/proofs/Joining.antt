-- The least height at which one part has two offsets, by the bits in which they differ.
use Rattle.std.proofs.Common.{◌≡◌, ℕ, suc, ◌+◌, ◌*◌, ◌-◌, ◌/◌, ◌%◌, ◌^◌, ◌<◌, ◌≤◌, max, sym, ◌∙◌, ap, subst, inl, inr, arith}
use Rattle.std.proofs.Math.Nat.{div-eq_of_lt}
use Rattle.std.proofs.Math.Pow.{pow_mono}
use Rattle.std.proofs.lemmas.Bool.{cases_lt}
use Rattle.std.proofs.lemmas.Nat.{div-add-mod', leading_length, mod_below, xor_of_32, xor_shr}
use Rattle.std.specs.Int.Count.{count_leading_zeros}
use lib.Bits.{bit_xor, xor_assoc, xor_self, xor_zero_r}
use Rattle.seg_read.proofs.Rooting.{four_power}
use Rattle.seg_cursor.specs.Pieces.{IsJoined}
use Rattle.seg_cursor.proofs.Cutting.{power_some}

-- the height that the leading zeros of a number tell
abbrev Told : ℕ → ℕ → Type 0
Told n r = r ≡ max (16 - count_leading_zeros 32 n / 2) 1

-- two numbers that differ in no bit are one
same_bits : (a b : ℕ) → bit_xor a b ≡ 0 → a ≡ b
same_bits a b none = sym (xor_zero_r a) ∙ ap (bit_xor a) (sym none) ∙ sym (xor_assoc a a b) ∙ ap (λ n. bit_xor n b) (xor_self a)

-- the bits in which two offsets differ, above a piece
bits_above : (a b h : ℕ) → bit_xor a b / 4 ^ h ≡ bit_xor (a / 4 ^ h) (b / 4 ^ h)
bits_above a b h = subst (λ s. bit_xor a b / s ≡ bit_xor (a / s) (b / s)) (sym (four_power h)) (xor_shr a b (2 * h))

pub told_joined : (a b r : ℕ) → a < 2 ^ 32 → b < 2 ^ 32 → Told (bit_xor a b) r → IsJoined r a b
told_joined a b r low_a low_b is =
    let (m, sum, below, least) = leading_length 32 (bit_xor a b) (xor_of_32 a b low_a low_b) in
    let more : 2 ^ m ≤ 2 ^ (2 * r) = pow_mono (omega (arith, sum, is)) in
    let room = four_power r in
    let none : bit_xor a b / 4 ^ r ≡ 0 = div-eq_of_lt (omega (arith, below, more, room)) in
    same_bits (a / 4 ^ r) (b / 4 ^ r) (sym (bits_above a b r) ∙ none)

-- a number of m bits lies in no part that covers fewer
few_bits : (n m k : ℕ) → 2 ^ m ≤ 2 * n + 1 → n < 2 ^ k → m ≤ k
few_bits n m k least below = elim (cases_lt k m) [
  | inl more ↦
      let high : 2 ^ suc k ≤ 2 ^ m = pow_mono (omega (arith, more)) in
      let twice : 2 ^ suc k ≡ 2 * 2 ^ k = omega arith in
      absurd (omega (arith, least, below, high, twice))
  | inr few ↦ few
]

pub told_least : (a b r k : ℕ) → a < 2 ^ 32 → b < 2 ^ 32 → Told (bit_xor a b) r → 1 ≤ k → IsJoined k a b → r ≤ k
told_least a b r k low_a low_b is some joined =
    let n = bit_xor a b in
    let (m, sum, below, least) = leading_length 32 n (xor_of_32 a b low_a low_b) in
    let none : n / 4 ^ k ≡ 0 = bits_above a b k ∙ ap (λ q. bit_xor q (b / 4 ^ k)) joined ∙ xor_self (b / 4 ^ k) in
    let whole = sym (ap (λ q. q * 4 ^ k + n % 4 ^ k) none) ∙ div-add-mod' n (4 ^ k) in
    let low = mod_below n (4 ^ k) (power_some k) in
    let room = four_power k in
    let few : m ≤ 2 * k = few_bits n m (2 * k) least (omega (arith, whole, low, room)) in
    omega (arith, sum, is, few, some)

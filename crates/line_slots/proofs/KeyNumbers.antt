-- The numbers of chains for keys.
use Rattle.std.proofs.Common.{◌≡◌, ℕ, ◌+◌, ◌-◌, ◌*◌, ◌/◌, ◌%◌, ◌^◌, ◌<◌, ap, ◌∙◌, arith, inl, inr}
use Rattle.std.specs.Prelude.{bit_and}
use Rattle.std.proofs.Math.Pow.{pow_mono}
use Rattle.std.proofs.lemmas.Bool.{cases_lt}
use Rattle.std.proofs.lemmas.Nat.{and_mask, one_shl}
use Rattle.line_slots.specs.KeyNumbers.{spread}

-- the lowest bits of a key's spread
pub masked : (bits key a b : ℕ) → bits < 32 → a ≡ key → b ≡ key / 2 ^ 17 → bit_and (a + 29 * b) (1 * 2 ^ bits % 2 ^ 64 - 1) ≡ spread key % 2 ^ bits
masked bits key a b few e f =
    ap (λ (m : ℕ). bit_and (a + 29 * b) (m - 1)) (one_shl bits 64 (omega arith)) ∙ and_mask (a + 29 * b) bits
    ∙ ap (λ (n : ℕ). (n + 29 * b) % 2 ^ bits) e ∙ ap (λ (n : ℕ). (key + 29 * n) % 2 ^ bits) f

-- a power of 2 that fits has few bits
pub few_bits : (bits : ℕ) → 2 ^ bits < 2 ^ 32 → bits < 32
few_bits bits h = elim (cases_lt bits 32) [ inl low ↦ low | inr high ↦ absurd (let a = pow_mono high in omega (arith, a, h)) ]

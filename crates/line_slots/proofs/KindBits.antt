-- Sets of kinds, a bit for each.
use Rattle.std.proofs.Common.{◌≡◌, ℕ, ◌*◌, ◌/◌, ◌%◌, ◌^◌, ◌<◌, false, eqb, bit_and, bit_or, w32, sym, ap, ◌∙◌, subst, arith}
use Rattle.std.specs.Int.{bit_at}
use Rattle.std.proofs.Math.Nat.{pow-le-pow_right}
use Rattle.std.proofs.lemmas.Bool.{eqb-false}
use Rattle.std.proofs.lemmas.Nat.{one_shl, or_of_8}
use Rattle.std.proofs.lemmas.Nat.Bits.{bit_at_or, bit_at_set_same, shr_and_one}
use Rattle.line_slots.specs.ChainLinks.{kind_of, HasKind}

-- the test of a kind
pub kind_tested : (kinds k key set : ℕ) → kinds ≡ set → k ≡ kind_of key → eqb (bit_and (kinds / 2 ^ k) 1) 1 ≡ false → HasKind set key → ⊥
kind_tested kinds k key set e f absent has = eqb-false _ _ absent (shr_and_one kinds k ∙ ap (λ n. bit_at n k) e ∙ ap (bit_at set) f ∙ has)

-- a kind put into a set
module _ (kinds k : ℕ) (low : k < 8) where
  pub few_kinds : kinds < 2 ^ 8 → bit_or kinds (1 * 2 ^ k % 2 ^ 32) < 2 ^ 8
  few_kinds few = subst (λ n. bit_or kinds n < 2 ^ 8) (sym (one_shl k 32 (omega (arith, low)))) (or_of_8 kinds (2 ^ k) few (let a = pow-le-pow_right {n = 2} (omega arith) {i = k} {j = 7} (omega (arith, low)) in omega (arith, a)))

  pub kind_put : (key set : ℕ) → set ≡ bit_or kinds (1 * 2 ^ k % 2 ^ 32) → k ≡ kind_of key → HasKind set key
  kind_put key set e f = ap (λ n. bit_at n (kind_of key)) e ∙ subst (λ i. bit_at (bit_or kinds (1 * 2 ^ k % 2 ^ 32)) i ≡ 1) f (bit_at_set_same w32 kinds k (omega (arith, low)))

  pub kinds_stay : (key set : ℕ) → set ≡ bit_or kinds (1 * 2 ^ k % 2 ^ 32) → HasKind kinds key → HasKind set key
  kinds_stay key set e has = ap (λ n. bit_at n (kind_of key)) e ∙ omega (arith, has, bit_at_or kinds (1 * 2 ^ k % 2 ^ 32) (kind_of key))

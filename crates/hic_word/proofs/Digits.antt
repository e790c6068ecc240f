-- Numbers in the places of one number tell its parts.
use Rattle.std.proofs.Common.{◌≡◌, ℕ, zero, suc, ◌+◌, ◌*◌, ◌/◌, ◌%◌, ◌^◌, ◌<◌, ◌≤◌, List, [], ◌∷◌, length, refl, sym, ◌∙◌, ap, arith, le_refl}
use Rattle.std.proofs.Math.Nat.{pow-succ', one-le-pow, mul-le-mul}
use Rattle.std.proofs.Math.Arith.{digits_div, digits_mod}
use Rattle.hic_word.specs.Lists.{AllBelow}
use Rattle.hic_word.specs.Width.{IsWidth, longest}
use Rattle.hic_word.specs.Stands.{digits_value, node_bits}
use Rattle.hic_word.proofs.Widths.{path_room, two_words}

-- the lowest place and the rest
places : (b n x m y : ℕ) → n < b → m < b → n + b * x ≡ m + b * y → (n ≡ m) × (x ≡ y)
places b n x m y nb mb e =
    let turned : x * b + n ≡ y * b + m = omega (arith, e) in
    (sym (digits_mod x nb) ∙ ap (λ k. k % b) turned ∙ digits_mod y mb, sym (digits_div x nb) ∙ ap (λ k. k / b) turned ∙ digits_div y mb)

pub digits_value-injective : (b : ℕ) (ns ms : List ℕ) → AllBelow b ns → AllBelow b ms → length ns ≡ length ms → digits_value b ns ≡ digits_value b ms → ns ≡ ms
digits_value-injective b [] [] h k l e = refl
digits_value-injective b [] (m ∷ ms) h k l e = absurd (omega arith)
digits_value-injective b (n ∷ ns) [] h k l e = absurd (omega arith)
digits_value-injective b (n ∷ ns) (m ∷ ms) h k l e =
    let (first, rest) = places b n (digits_value b ns) m (digits_value b ms) h.0 k.0 e in
    let more : ns ≡ ms = digits_value-injective b ns ms h.1 k.1 (omega arith) rest in
    cc

pub digits_value_below : (b j : ℕ) (ns : List ℕ) → 1 ≤ b → AllBelow b ns → length ns ≤ j → digits_value b ns < b ^ j
digits_value_below b j [] p h l = one-le-pow j b p
digits_value_below b zero (n ∷ ns) p h l = absurd (omega arith)
digits_value_below b (suc j) (n ∷ ns) p h l =
    let rest : suc (digits_value b ns) ≤ b ^ j = digits_value_below b j ns p h.1 (omega arith) in
    let scaled : b * suc (digits_value b ns) ≤ b * b ^ j = mul-le-mul (le_refl b) rest in
    rw (pow-succ' b j) (omega (arith, scaled))

-- ids and paths are told by their bits
pub node_bits-injective : {w : ℕ} → IsWidth w → (i j : ℕ) (p q : List ℕ) → i < 2 ^ 24 → j < 2 ^ 24 → AllBelow w p → AllBelow w q
    → length p ≤ longest w → length q ≤ longest w → node_bits w i p ≡ node_bits w j q → (i ≡ j) × (p ≡ q)
node_bits-injective {w} width i j p q i_below j_below p_below q_below p_short q_short e =
    let some : 1 ≤ w = let two = two_words width in omega arith in
    let room = path_room width in
    let p_value = digits_value_below w (longest w) p some p_below p_short in
    let q_value = digits_value_below w (longest w) q some q_below q_short in
    let same_id : i ≡ j = omega arith in
    let same_digits : digits_value w p ≡ digits_value w q = omega arith in
    let same_length : length p ≡ length q = omega arith in
    (same_id, digits_value-injective w p q p_below q_below same_length same_digits)

-- What is put into the bits of a word is read from them.
use Rattle.std.proofs.Common.{◌≡◌, ℕ, zero, suc, ◌+◌, ◌*◌, ◌/◌, ◌%◌, ◌^◌, ◌<◌, ◌≤◌, List, [], ◌∷◌, length, sym, ◌∙◌, ap, subst, arith, le_refl}
use Rattle.std.specs.Prelude.{slice_index}
use Rattle.std.proofs.Math.Nat.{pow-succ', pow-zero, div-one, div-div-eq-div-mul}
use Rattle.std.proofs.Math.Arith.{digits_div, digits_mod}
use Rattle.hic_word.specs.Lists.{AllBelow}
use Rattle.hic_word.specs.Width.{longest, pack_limit}
use Rattle.hic_word.specs.Stands.{digits_value}
use Rattle.hic_word.specs.WordLaws.{DigitsAreRead, NodesAreRead, PacksFit}
use Rattle.hic_word.proofs.Digits.{digits_value_below}
use Rattle.hic_word.proofs.Widths.{pack_room, path_room, short_lengths, some_small, two_words}

zero_digit : (b k : ℕ) → 1 ≤ b → 0 / b ^ k % b ≡ 0
zero_digit b k some = omega arith

digit_at : (b : ℕ) (ns : List ℕ) (k : ℕ) → 1 ≤ b → AllBelow b ns → digits_value b ns / b ^ k % b ≡ slice_index ns k
digit_at b [] k some low = zero_digit b k some
digit_at b (n ∷ ns) zero some low =
    let turned : n + b * digits_value b ns ≡ digits_value b ns * b + n = omega arith in
    ap (λ m. (n + b * digits_value b ns) / m % b) (pow-zero b) ∙ ap (λ m. m % b) (div-one (n + b * digits_value b ns)) ∙ ap (λ m. m % b) turned ∙ digits_mod (digits_value b ns) low.0
digit_at b (n ∷ ns) (suc k) some low =
    let turned : n + b * digits_value b ns ≡ digits_value b ns * b + n = omega arith in
    ap (λ m. (n + b * digits_value b ns) / m % b) (pow-succ' b k)
    ∙ ap (λ m. m % b) (sym (div-div-eq-div-mul (n + b * digits_value b ns) b (b ^ k)))
    ∙ ap (λ m. m / b / b ^ k % b) turned
    ∙ ap (λ m. m / b ^ k % b) (digits_div (digits_value b ns) low.0)
    ∙ digit_at b ns k some low.1

pub digits_are_read : DigitsAreRead
digits_are_read b ns some low = record {
  below = digits_value_below b (length ns) ns some low (le_refl (length ns));
  place = λ k. digit_at b ns k some low;
}

pub packs_fit : PacksFit
packs_fit w ns width low long =
    subst (λ n. digits_value (pack_limit w) ns < n) (ap (λ n. pack_limit w ^ n) long ∙ pack_room width) (digits_value_below (pack_limit w) (length ns) ns (some_small width) low (le_refl (length ns)))

pub nodes_are_read : NodesAreRead
nodes_are_read w id path width low digits short =
    let some : 1 ≤ w = let two = two_words width in omega (arith, two) in
    let room = path_room width in
    let value = digits_value_below w (longest w) path some digits short in
    let few = short_lengths width in
    record {
      below = omega (arith, low, room, value, few, short);
      id_bits = omega (arith, low);
      path_bits = omega (arith, low, room, value);
      length_bits = omega (arith, low, room, value);
    }

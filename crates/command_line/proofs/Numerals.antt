-- Texts of digits, as `parse` reads them.
use Rattle.std.proofs.Common.{◌≡◌, ◌<◌, ◌^◌, ℕ, length, None, Err, ⊎_elim, true, rules, arith}
use Rattle.std.proofs.lemmas.Bool.{and_parts, and_right, cond-false, cases_lt, eqb-false, lt-leb, not-true}
use Rattle.std.proofs.lemmas.Str.Parse.{IsNumeralModel, numerals_by_value, parse_digits}
use Rattle.std.specs.Char.{is_ascii_digit}
use Rattle.std.specs.List.{list_all}
use Rattle.std.specs.Str.Parse.{ParsesUnsigned, digits_value}
use Rattle.clap.specs.Walk.{Text}
use Rattle.command_line.specs.Number.{is_numeral, number_in}

numerals : IsNumeralModel (λ text. list_all is_ascii_digit text ≡ true) (digits_value 10)
numerals = numerals_by_value _ (search rules)

-- a number past 64 bits is past every bound of 64 bits
past_bound : (most number : ℕ) → most < 2 ^ 64 → (number < 2 ^ 64 → ⊥) → most < number
past_bound most number bound past = ⊎_elim (λ small. absurd (past small)) (λ large. omega (arith, large)) (cases_lt number (2 ^ 64))

-- a numeral that `parse` refuses is past 64 bits, and so no number in a range of such
pub number_in-refused : {E : Type 0} (least most : ℕ) (text : Text) (error : E) → most < 2 ^ 64 → is_numeral text ≡ true → ParsesUnsigned 64 10 text (Err error) → number_in least most text ≡ None
number_in-refused least most text error bound numeral parsed =
    let parts = and_parts _ _ numeral in
    let not_empty : length text ≡ 0 → ⊥ = eqb-false _ _ (not-true _ parts.0) in
    let some : 0 < length text = omega (arith, not_empty) in
    let refused = parse_digits numerals 64 text (Err error) parsed (and_parts _ _ parts.1).1 in
    let past : most < digits_value 10 text = past_bound most _ bound (λ small. refused (some, small)) in
    cond-false _ _ _ (and_right _ _ (and_right _ _ (lt-leb _ _ past)))

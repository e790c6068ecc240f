-- Operands that are written are read back.
use Rattle.std.proofs.Common.{◌≡◌, ℕ, ◌+◌, ◌-◌, ◌%◌, ◌<◌, ◌≤◌, ◌^◌, Bool, true, false, cond, ◌&&◌, eqb, leb, ltb, List, [], ◌∷◌, ◌++◌, length, drop, codes, Some, None, option_map, Ok, Err, refl, ap, sym, ◌∙◌, arith}
use Rattle.std.specs.Char.{digit_value}
use Rattle.std.specs.Fmt.{decimal}
use Rattle.std.specs.Int.{IsInRange}
use Rattle.std.specs.List.{list_all, starts_with}
use Rattle.std.specs.Str.Parse.{AllDigits, digits_value}
use Rattle.std.proofs.lemmas.Bool.{eq-eqb, lt-ltb, le-leb}
use Rattle.std.proofs.lemmas.Bool.Decides.{nat_tests}
use Rattle.std.proofs.lemmas.Fmt.{decimal_is_IsNumeral, length-decimal-le, decimal_digit}
use Rattle.std.proofs.lemmas.List.{length-append}
use Rattle.std.proofs.lemmas.Str.Parse.{digit_from_value}
use Rattle.hic_isa.specs.Spelling.{Fields}
use Rattle.hic_asm.specs.declared.error.Fault.TheVariants.{Operand, Register, Number}
use Rattle.hic_asm.specs.declared.table.RegisterField.{RegisterField}
use Rattle.hic_asm.specs.declared.table.RegisterField.TheVariants as field
use Rattle.hic_asm.specs.declared.table.NumberField.{NumberField}
use Rattle.hic_asm.specs.declared.table.NumberField.TheVariants as imm
use Rattle.hic_asm.specs.Faults.{given, and_then, tested}
use Rattle.hic_asm.specs.Operands.{Target, Index, Label, numbered, register_of, iterator_of, digits_of, decimal_of, number_of, within, number_within, signed_digits, signed_of, begins_with_digit, is_name, index_of, target_of, most_32, most_positive, most_negative}
use Rattle.hic_asm.specs.Table.{Form, register_words, number_words, operand_count}
use Rattle.hic_asm.specs.Lines.{Line, Code, Draft, draft, with_rest, register_at, imm_at, fields_at, instruction_at, onward, ◌>>=◌, value, gives}
use Rattle.hic_asm.specs.ObjectText.{register_text, signed_text, imm_text, operands_text}
use Rattle.hic_asm.proofs.FormLaws.{RegisterFits, NumberFits}
use Rattle.hic_asm.proofs.PlainLines.{is_plain, IsPlainWord, ArePlain}

-- ---- decimal numbers

is_digit : ℕ → Bool
is_digit c = ltb (digit_value c) 10

digits_pass : (ds : List ℕ) → AllDigits 10 ds → list_all (λ c. ltb (digit_value c) 10) ds ≡ true
digits_pass [] all = refl
digits_pass (c ∷ cs) all = ap (λ b. b && list_all (λ c. ltb (digit_value c) 10) cs) (lt-ltb (digit_value c) 10 all.0) ∙ digits_pass cs all.1

plain_digit : (c : ℕ) → IsInRange 48 57 c → is_plain c ≡ true
plain_digit c here = grind (arith, nat_tests)

plain_digits : (ds : List ℕ) → AllDigits 10 ds → list_all is_plain ds ≡ true
plain_digits [] all = refl
plain_digits (c ∷ cs) all = ap (λ b. b && list_all is_plain cs) (plain_digit c (digit_from_value c all.0)) ∙ plain_digits cs all.1

-- what a decimal number is as a word
pub record IsDecimal (n : ℕ) (ds : List ℕ) : Type 0 where
  pub some : 0 < length ds
  pub few : length ds ≤ 20
  pub digits : AllDigits 10 ds
  pub number : digits_value 10 ds ≡ n

pub decimal-is : (n : ℕ) → n < 2 ^ 64 → IsDecimal n (decimal n)
decimal-is n fits =
    let is = decimal_is_IsNumeral n fits in
    record { some = is.0.0; few = length-decimal-le 20 n (omega arith) (omega arith) fits; digits = is.0.1; number = is.1 }

pub plain-decimal : (n : ℕ) → n < 2 ^ 64 → IsPlainWord (decimal n)
plain-decimal n fits = let is = decimal-is n fits in record { some = is.some; plain = plain_digits (decimal n) is.digits }

decimal_of-digits : (n : ℕ) (ds : List ℕ) → IsDecimal n ds → decimal_of ds ≡ Some n
decimal_of-digits n ds is =
    ap (λ b. cond ((b && leb (length ds) 20) && list_all (λ c. ltb (digit_value c) 10) ds) (Some (digits_value 10 ds)) None) (le-leb 1 (length ds) is.some)
    ∙ ap (λ b. cond (b && list_all (λ c. ltb (digit_value c) 10) ds) (Some (digits_value 10 ds)) None) (le-leb (length ds) 20 is.few)
    ∙ ap (λ b. cond b (Some (digits_value 10 ds)) None) (digits_pass ds is.digits)
    ∙ ap Some is.number

and_false : (b : Bool) → (b && false) ≡ false
and_false true = refl
and_false false = refl

not_x : (c : ℕ) → IsInRange 48 57 c → eqb 120 c ≡ false
not_x c here = grind (arith, nat_tests)

no_0x : (ds : List ℕ) → AllDigits 10 ds → starts_with eqb ds (codes "0x") ≡ false
no_0x [] all = refl
no_0x (c ∷ []) all = and_false (eqb 48 c)
no_0x (c ∷ d ∷ ds) all = ap (λ b. eqb 48 c && (b && true)) (not_x d (digit_from_value d all.1.0)) ∙ and_false (eqb 48 c)

not_minus : (c : ℕ) → IsInRange 48 57 c → (eqb 45 c && true) ≡ false
not_minus c here = grind (arith, nat_tests)

no_minus : (ds : List ℕ) → AllDigits 10 ds → starts_with eqb ds (codes "-") ≡ false
no_minus [] all = refl
no_minus (c ∷ ds) all = not_minus c (digit_from_value c all.0)

number_of-digits : (n : ℕ) (ds : List ℕ) → IsDecimal n ds → number_of ds ≡ Some n
number_of-digits n ds is = ap (λ b. cond b (digits_of 16 16 (drop 2 ds)) (decimal_of ds)) (no_0x ds is.digits) ∙ decimal_of-digits n ds is

within-some : (least most n : ℕ) → least ≤ n → n ≤ most → within least most (Some n) ≡ Some n
within-some least most n low high = ap (λ b. cond (b && leb n most) (Some n) None) (le-leb least n low) ∙ ap (λ b. cond b (Some n) None) (le-leb n most high)

pub number_within-decimal : (least most n : ℕ) → least ≤ n → n ≤ most → n < 2 ^ 64 → number_within least most (decimal n) ≡ Ok n
number_within-decimal least most n low high fits =
    ap (λ o. given (within least most o) Number) (number_of-digits n (decimal n) (decimal-is n fits)) ∙ ap (λ o. given o Number) (within-some least most n low high)

-- ---- signed numbers

signed_digits-positive : (n : ℕ) (ds : List ℕ) → IsDecimal n ds → n ≤ most_positive → signed_digits ds ≡ Some n
signed_digits-positive n ds is high =
    ap (λ b. cond b (option_map (λ m. (2 ^ 32 - m) % 2 ^ 32) (within 0 most_negative (decimal_of (drop 1 ds)))) (within 0 most_positive (decimal_of ds))) (no_minus ds is.digits)
    ∙ ap (within 0 most_positive) (decimal_of-digits n ds is) ∙ within-some 0 most_positive n (omega arith) high

signed_digits-negative : (m n : ℕ) (ds : List ℕ) → IsDecimal m ds → m ≤ most_negative → (2 ^ 32 - m) % 2 ^ 32 ≡ n → signed_digits (45 ∷ ds) ≡ Some n
signed_digits-negative m n ds is high back =
    ap (λ o. option_map (λ k. (2 ^ 32 - k) % 2 ^ 32) (within 0 most_negative o)) (decimal_of-digits m ds is)
    ∙ ap (option_map (λ k. (2 ^ 32 - k) % 2 ^ 32)) (within-some 0 most_negative m (omega arith) high) ∙ ap Some back

signed_at : (below : Bool) (n : ℕ) → n < 2 ^ 32 → (below ≡ true → n < 2 ^ 31) → (below ≡ false → 2 ^ 31 ≤ n) → signed_digits (cond below (decimal n) (45 ∷ decimal (2 ^ 32 - n))) ≡ Some n
signed_at true n fits low high = let small = low refl in signed_digits-positive n (decimal n) (decimal-is n (omega arith)) (omega arith)
signed_at false n fits low high = let large = high refl in signed_digits-negative (2 ^ 32 - n) n (decimal (2 ^ 32 - n)) (decimal-is (2 ^ 32 - n) (omega arith)) (omega arith) (omega arith)

below_is : (n : ℕ) → ltb n (2 ^ 31) ≡ true → n < 2 ^ 31
below_is n test = grind (arith, nat_tests)

above_is : (n : ℕ) → ltb n (2 ^ 31) ≡ false → 2 ^ 31 ≤ n
above_is n test = grind (arith, nat_tests)

signed_of-text : (n : ℕ) → n < 2 ^ 32 → signed_of (signed_text n) ≡ Ok n
signed_of-text n fits = ap (λ o. given o Number) (signed_at (ltb n (2 ^ 31)) n fits (below_is n) (above_is n))

plain_at : (below : Bool) (n : ℕ) → n < 2 ^ 32 → IsPlainWord (cond below (decimal n) (45 ∷ decimal (2 ^ 32 - n)))
plain_at true n fits = plain-decimal n (omega arith)
plain_at false n fits = record { some = omega arith; plain = (plain-decimal (2 ^ 32 - n) (omega arith)).plain }

-- ---- registers

lettered : (letter count n : ℕ) → n < count → numbered letter count (letter ∷ (48 + n) ∷ []) ≡ Some n
lettered letter count n below =
    let same : 48 + n - 48 ≡ n = omega arith in
    let letter_is : eqb letter letter ≡ true = grind (arith, nat_tests) in
    let low : leb 48 (48 + n) ≡ true = le-leb 48 (48 + n) (omega arith) in
    let high : ltb (48 + n) (48 + count) ≡ true = lt-ltb (48 + n) (48 + count) (omega arith) in
    ap (λ b. cond (b && (leb 48 (48 + n) && ltb (48 + n) (48 + count))) (Some (48 + n - 48)) None) letter_is
    ∙ ap (λ b. cond (b && ltb (48 + n) (48 + count)) (Some (48 + n - 48)) None) low
    ∙ ap (λ b. cond b (Some (48 + n - 48)) None) high ∙ ap Some same

register_of-text : (n : ℕ) → n < 8 → register_of (114 ∷ decimal n) ≡ Ok n
register_of-text n below = ap (λ ds. register_of (114 ∷ ds)) (decimal_digit n (omega arith)) ∙ ap (λ o. given o Register) (lettered 114 8 n below)

iterator_of-text : (n : ℕ) → n < 4 → iterator_of (105 ∷ decimal n) ≡ Ok n
iterator_of-text n below = ap (λ ds. iterator_of (105 ∷ ds)) (decimal_digit n (omega arith)) ∙ ap (λ o. given o Register) (lettered 105 4 n below)

-- ---- targets

digit_first : (ds : List ℕ) → 0 < length ds → AllDigits 10 ds → begins_with_digit ds ≡ true
digit_first [] some all = absurd (omega arith)
digit_first (c ∷ ds) some all = let here = digit_from_value c all.0 in grind (arith, nat_tests)

pub target_of-decimal : (n : ℕ) → n < 2 ^ 32 → target_of (decimal n) ≡ Ok (Index n)
target_of-decimal n fits =
    let is = decimal-is n (omega arith) in
    ap (λ b. cond b (index_of (number_within 0 most_32 (decimal n))) (cond (is_name (decimal n)) (Ok (Label (decimal n))) (Err Operand))) (digit_first (decimal n) is.some is.digits)
    ∙ ap index_of (number_within-decimal 0 most_32 n (omega arith) (omega arith) (omega arith))

-- ---- fields

-- a register field, before other words
pub register_at-text : (kind : RegisterField) (n : ℕ) (rest : List (List ℕ)) → RegisterFits kind n → register_at kind (register_text kind n ++ rest) ≡ Ok (n, rest)
unfolding register_at
register_at-text field.Unused n rest fits = ap (λ k. Ok (k, rest)) (sym fits)
register_at-text field.Register n rest fits = ap (with_rest rest) (register_of-text n fits)
register_at-text field.Iterator n rest fits = ap (with_rest rest) (iterator_of-text n fits)

pub imm_at-text : (kind : NumberField) (n : ℕ) → NumberFits kind n → imm_at kind (imm_text kind n) ≡ Ok (Index n, [])
unfolding imm_at
imm_at-text imm.NoNumber n fits = ap (λ k. Ok (Index k, [])) (sym fits)
imm_at-text imm.Number n fits = ap (λ r. with_rest [] (index_of r)) (number_within-decimal 0 most_32 n (omega arith) (omega arith) (omega arith))
imm_at-text imm.Signed n fits = ap (λ r. with_rest [] (index_of r)) (signed_of-text n fits)
imm_at-text imm.Target n fits = ap (with_rest []) (target_of-decimal n fits)

-- fields that fit a form
pub record FieldsFit (form : Form) (f : Fields) : Type 0 where
  pub opcode : form.opcode ≡ f.opcode
  pub a : RegisterFits form.a f.a
  pub b : RegisterFits form.b f.b
  pub c : RegisterFits form.c f.c
  pub imm : NumberFits form.imm f.imm

abbrev pub draft_of : Fields → Draft
draft_of f = draft f.opcode f.a f.b f.c (Index f.imm)

fields_at-text : (form : Form) (f : Fields) → FieldsFit form f → fields_at form (operands_text form f) ≡ Ok (Code (draft_of f), [])
unfolding fields_at
fields_at-text form f fits =
    let all = λ (a b c : ℕ) (imm : Target). Code (draft form.opcode a b c imm) in
    let imms = λ (a b c : ℕ). imm_at form.imm >>= λ imm. gives (all a b c imm) in
    ap (λ r. onward r (λ a. register_at form.b >>= λ b. register_at form.c >>= λ c. imms a b c)) (register_at-text form.a f.a (register_text form.b f.b ++ (register_text form.c f.c ++ imm_text form.imm f.imm)) fits.a)
    ∙ ap (λ r. onward r (λ b. register_at form.c >>= λ c. imms f.a b c)) (register_at-text form.b f.b (register_text form.c f.c ++ imm_text form.imm f.imm) fits.b)
    ∙ ap (λ r. onward r (λ c. imms f.a f.b c)) (register_at-text form.c f.c (imm_text form.imm f.imm) fits.c)
    ∙ ap (λ r. onward r (λ imm. gives (all f.a f.b f.c imm))) (imm_at-text form.imm f.imm fits.imm)
    ∙ ap (λ opcode. Ok (Code (draft opcode f.a f.b f.c (Index f.imm)), [])) fits.opcode

length-register : (kind : RegisterField) (n : ℕ) → length (register_text kind n) ≡ register_words kind
length-register field.Unused n = refl
length-register field.Register n = refl
length-register field.Iterator n = refl

length-imm : (kind : NumberField) (n : ℕ) → length (imm_text kind n) ≡ number_words kind
length-imm imm.NoNumber n = refl
length-imm imm.Number n = refl
length-imm imm.Signed n = refl
length-imm imm.Target n = refl

length-operands : (form : Form) (f : Fields) → length (operands_text form f) ≡ operand_count form
length-operands form f =
    let a = register_text form.a f.a in
    let b = register_text form.b f.b in
    let c = register_text form.c f.c in
    let imm = imm_text form.imm f.imm in
    omega (arith, length-append a (b ++ (c ++ imm)), length-append b (c ++ imm), length-append c imm, length-register form.a f.a, length-register form.b f.b, length-register form.c f.c, length-imm form.imm f.imm)

counted_at : (count len : ℕ) (form : Form) (operands : List (List ℕ)) (line : Line) → len ≡ count → fields_at form operands ≡ Ok (line, []) → value (and_then (tested (eqb len count) Operand operands) (fields_at form)) ≡ Ok line
counted_at count len form operands line same reads =
    ap (λ b. value (and_then (given (cond b (Some operands) None) Operand) (fields_at form))) (eq-eqb len count same) ∙ ap value reads

-- an instruction's operands are read back
pub instruction_at-text : (form : Form) (f : Fields) → FieldsFit form f → instruction_at form (operands_text form f) ≡ Ok (Code (draft_of f))
instruction_at-text form f fits = counted_at (operand_count form) (length (operands_text form f)) form (operands_text form f) (Code (draft_of f)) (length-operands form f) (fields_at-text form f fits)

-- ---- operands are plain words

plain-register : (kind : RegisterField) (n : ℕ) → RegisterFits kind n → ArePlain (register_text kind n)
plain-register field.Unused n fits = tt
plain-register field.Register n fits = (record { some = omega arith; plain = (plain-decimal n (omega arith)).plain }, tt)
plain-register field.Iterator n fits = (record { some = omega arith; plain = (plain-decimal n (omega arith)).plain }, tt)

plain-imm : (kind : NumberField) (n : ℕ) → NumberFits kind n → ArePlain (imm_text kind n)
plain-imm imm.NoNumber n fits = tt
plain-imm imm.Number n fits = (plain-decimal n (omega arith), tt)
plain-imm imm.Signed n fits = (plain_at (ltb n (2 ^ 31)) n fits, tt)
plain-imm imm.Target n fits = (plain-decimal n (omega arith), tt)

plain_append : (xs ys : List (List ℕ)) → ArePlain xs → ArePlain ys → ArePlain (xs ++ ys)
plain_append [] ys front back = back
plain_append (x ∷ xs) ys front back = (front.0, plain_append xs ys front.1 back)

pub plain-operands : (form : Form) (f : Fields) → FieldsFit form f → ArePlain (operands_text form f)
plain-operands form f fits =
    plain_append (register_text form.a f.a) _ (plain-register form.a f.a fits.a)
    (plain_append (register_text form.b f.b) _ (plain-register form.b f.b fits.b)
    (plain_append (register_text form.c f.c) (imm_text form.imm f.imm) (plain-register form.c f.c fits.c) (plain-imm form.imm f.imm fits.imm)))

-- What the lines of a source tell of their values.
use Rattle.std.proofs.Common.{◌≡◌, ℕ, ◌+◌, ◌-◌, ◌%◌, ◌<◌, ◌≤◌, ◌^◌, Bool, true, false, cond, ◌&&◌, leb, ltb, eqb, List, [], ◌∷◌, Option, Some, None, option_map, bytes_eq, codes, drop, Result, Ok, Err, refl, subst, arith}
use Rattle.std.specs.List.{starts_with}
use Rattle.std.proofs.lemmas.Bool.Decides.{nat_tests}
use Rattle.hic_asm.specs.declared.error.Fault.{Fault}
use Rattle.hic_asm.specs.declared.error.Fault.TheVariants.{NotText, Word, Operand, Register, Number}
use Rattle.hic_asm.specs.declared.table.RegisterField.{RegisterField}
use Rattle.hic_asm.specs.declared.table.RegisterField.TheVariants as field
use Rattle.hic_asm.specs.declared.table.NumberField.{NumberField}
use Rattle.hic_asm.specs.declared.table.NumberField.TheVariants as imm
use Rattle.hic_asm.specs.Faults.{given, tested}
use Rattle.hic_asm.specs.Operands.{Target, Index, Label, numbered, register_of, iterator_of, within, number_of, number_within, decimal_of, signed_digits, signed_of, index_of, target_of, is_name, begins_with_digit, most_32, most_64, most_positive, most_negative}
use Rattle.hic_asm.specs.Table.{Form, form_named, operand_count}
use Rattle.hic_asm.specs.Lines.{Line, Empty, Defines, Task, Segment, Record, Code, Draft, draft, register_at, imm_at, fields_at, task_at, segment_at, record_at, label_at, before_colon, label_or_mnemonic, mnemonic_at, worded, by_words, line_at, counted, value}
use Rattle.hic_asm.specs.Words.{is_text, words_of_line}
use Rattle.hic_asm.proofs.FormLaws.{RegisterFits, NumberFits, IsForm, form_named-is}
use Rattle.hic_asm.proofs.Says.{Says, Tells, Says-ok, Says-err, Says-cond, Says-given, Says-then, Says-value, Tells-gives, Tells-word, Tells-then}

-- a target of a field: its number fits, and only a target is a label
abbrev pub TargetFits : NumberField → Target → Type 0
TargetFits kind (Index n) = NumberFits kind n
TargetFits kind (Label name) = kind ≡ imm.Target

-- the fields of a draft fit a form
pub record DraftFits (d : Draft) : Type 0 where
  pub form : Form
  pub is_form : IsForm form
  pub opcode : d.opcode ≡ form.opcode
  pub a : RegisterFits form.a d.a
  pub b : RegisterFits form.b d.b
  pub c : RegisterFits form.c d.c
  pub imm : TargetFits form.imm d.imm

abbrev pub LineFits : Line → Type 0
LineFits Empty = Unit {0}
LineFits (Defines name) = Unit {0}
LineFits (Task entry) = Unit {0}
LineFits (Segment kind) = Unit {0}
LineFits (Record word) = 1 ≤ word.value
LineFits (Code d) = DraftFits d

-- ---- operands

numbered_at : (count digit : ℕ) (letter test : Bool) (n : ℕ) → (test ≡ true → digit < 48 + count) → (test ≡ true → 48 ≤ digit) → cond (letter && test) (Some (digit - 48)) None ≡ Some n → n < count
numbered_at count digit true true n below above is = let e : digit - 48 ≡ n = cc in let b = below refl in let a = above refl in omega arith
numbered_at count digit true false n below above is = absurd (cc)
numbered_at count digit false test n below above is = absurd (cc)

digit_below : (count digit : ℕ) → (leb 48 digit && ltb digit (48 + count)) ≡ true → digit < 48 + count
digit_below count digit test = grind (arith, nat_tests)

digit_above : (count digit : ℕ) → (leb 48 digit && ltb digit (48 + count)) ≡ true → 48 ≤ digit
digit_above count digit test = grind (arith, nat_tests)

numbered-below : (letter count : ℕ) (word : List ℕ) (n : ℕ) → numbered letter count word ≡ Some n → n < count
numbered-below letter count [] n is = absurd (cc)
numbered-below letter count (first ∷ []) n is = absurd (cc)
numbered-below letter count (first ∷ digit ∷ []) n is = numbered_at count digit (eqb first letter) _ n (digit_below count digit) (digit_above count digit) is
numbered-below letter count (first ∷ digit ∷ more ∷ rest) n is = absurd (cc)

within_at : (least most m : ℕ) (test : Bool) (n : ℕ) → (test ≡ true → (least ≤ m) × (m ≤ most)) → cond test (Some m) None ≡ Some n → (least ≤ n) × (n ≤ most)
within_at least most m true n fits is = let e : m ≡ n = cc in let f = fits refl in (omega (arith, f.0), omega (arith, f.1))
within_at least most m false n fits is = absurd (cc)

both_tests : (least most m : ℕ) → (leb least m && leb m most) ≡ true → (least ≤ m) × (m ≤ most)
both_tests least most m test = (grind (arith, nat_tests), grind (arith, nat_tests))

within-bounds : (least most : ℕ) (found : Option ℕ) (n : ℕ) → within least most found ≡ Some n → (least ≤ n) × (n ≤ most)
within-bounds least most None n is = absurd (cc)
within-bounds least most (Some m) n is = within_at least most m _ n (both_tests least most m) is

pub number_within-says : (least most : ℕ) (word : List ℕ) → Says (λ n. (least ≤ n) × (n ≤ most)) (number_within least most word)
number_within-says least most word = Says-given (λ n. (least ≤ n) × (n ≤ most)) (within least most (number_of word)) Number (within-bounds least most (number_of word))

negated : (found : Option ℕ) (n : ℕ) → option_map (λ m. (2 ^ 32 - m) % 2 ^ 32) found ≡ Some n → n < 2 ^ 32
negated None n is = absurd (cc)
negated (Some m) n is = let e : (2 ^ 32 - m) % 2 ^ 32 ≡ n = cc in omega arith

positive : (found : Option ℕ) (n : ℕ) → within 0 most_positive found ≡ Some n → n < 2 ^ 32
positive found n is = omega (arith, (within-bounds 0 most_positive found n is).1)

signed_at : (sign : Bool) (negative found : Option ℕ) (n : ℕ) → cond sign (option_map (λ m. (2 ^ 32 - m) % 2 ^ 32) negative) (within 0 most_positive found) ≡ Some n → n < 2 ^ 32
signed_at true negative found n is = negated negative n is
signed_at false negative found n is = positive found n is

signed-says : (word : List ℕ) → Says (λ n. n < 2 ^ 32) (signed_of word)
signed-says word = Says-given (λ n. n < 2 ^ 32) (signed_digits word) Number (signed_at (starts_with eqb word (codes "-")) (within 0 most_negative (decimal_of (drop 1 word))) (decimal_of word))

index-says : (kind : NumberField) (r : Result ℕ Fault) → Says (NumberFits kind) r → Says (TargetFits kind) (index_of r)
index-says kind (Ok n) all = Says-ok (TargetFits kind) (Index n) (all.says n refl)
index-says kind (Err fault) all = Says-err (TargetFits kind) fault

below-says : (r : Result ℕ Fault) → Says (λ n. (0 ≤ n) × (n ≤ most_32)) r → Says (λ n. n < 2 ^ 32) r
below-says r all = record { says = λ n is. omega (arith, (all.says n is).1) }

-- ---- fields

pub register_at-tells : (kind : RegisterField) → Tells (RegisterFits kind) (register_at kind)
unfolding register_at
register_at-tells field.Unused = Tells-gives (RegisterFits field.Unused) 0 refl
register_at-tells field.Register = Tells-word (λ n. n < 8) register_of (λ word. Says-given (λ n. n < 8) (numbered 114 8 word) Register (numbered-below 114 8 word))
register_at-tells field.Iterator = Tells-word (λ n. n < 4) iterator_of (λ word. Says-given (λ n. n < 4) (numbered 105 4 word) Register (numbered-below 105 4 word))

target-says : (word : List ℕ) → Says (TargetFits imm.Target) (target_of word)
target-says word =
    let by_name = Says-cond (TargetFits imm.Target) (is_name word) (Ok (Label word)) (Err Operand) (λ _. Says-ok (TargetFits imm.Target) (Label word) refl) (λ _. Says-err (TargetFits imm.Target) Operand) in
    let number = number_within 0 most_32 word in
    Says-cond (TargetFits imm.Target) (begins_with_digit word) (index_of number) (cond (is_name word) (Ok (Label word)) (Err Operand))
    (λ _. index-says imm.Target number (below-says number (number_within-says 0 most_32 word))) (λ _. by_name)

pub imm_at-tells : (kind : NumberField) → Tells (TargetFits kind) (imm_at kind)
unfolding imm_at
imm_at-tells imm.NoNumber = Tells-gives (TargetFits imm.NoNumber) (Index 0) refl
imm_at-tells imm.Number = Tells-word (TargetFits imm.Number) _ (λ word. index-says imm.Number _ (below-says _ (number_within-says 0 most_32 word)))
imm_at-tells imm.Signed = Tells-word (TargetFits imm.Signed) _ (λ word. index-says imm.Signed _ (signed-says word))
imm_at-tells imm.Target = Tells-word (TargetFits imm.Target) target_of target-says

fields_at-tells : (form : Form) → IsForm form → Tells LineFits (fields_at form)
unfolding fields_at
fields_at-tells form is =
    Tells-then (RegisterFits form.a) LineFits (register_at form.a) _ (register_at-tells form.a) (λ a fa.
    Tells-then (RegisterFits form.b) LineFits (register_at form.b) _ (register_at-tells form.b) (λ b fb.
    Tells-then (RegisterFits form.c) LineFits (register_at form.c) _ (register_at-tells form.c) (λ c fc.
    Tells-then (TargetFits form.imm) LineFits (imm_at form.imm) _ (imm_at-tells form.imm) (λ imm fi.
    Tells-gives LineFits (Code (draft form.opcode a b c imm)) (record { form = form; is_form = is; opcode = refl; a = fa; b = fb; c = fc; imm = fi })))))

record_at-tells : Tells LineFits record_at
unfolding record_at
record_at-tells =
    Tells-then (λ _. Unit {0}) LineFits _ _ (Tells-word (λ _. Unit {0}) _ (λ _. record { says = λ _ _. tt })) (λ segment _.
    Tells-then (λ _. Unit {0}) LineFits _ _ (Tells-word (λ _. Unit {0}) _ (λ _. record { says = λ _ _. tt })) (λ offset _.
    Tells-then (λ n. (1 ≤ n) × (n ≤ most_64)) LineFits _ _ (Tells-word (λ n. (1 ≤ n) × (n ≤ most_64)) _ (number_within-says 1 most_64)) (λ value fits.
    Tells-gives LineFits (Record (record { segment = segment; offset = offset; value = value })) fits.0)))

task_at-says : (operands : List (List ℕ)) → Says LineFits (task_at operands)
unfolding task_at
task_at-says operands = Says-value LineFits _ 1 operands (Tells-then (λ _. Unit {0}) LineFits _ _ (Tells-word (λ _. Unit {0}) _ (λ _. record { says = λ _ _. tt })) (λ entry _. Tells-gives LineFits (Task entry) tt))

segment_at-says : (operands : List (List ℕ)) → Says LineFits (segment_at operands)
unfolding segment_at
segment_at-says operands = Says-value LineFits _ 1 operands (Tells-then (λ _. Unit {0}) LineFits _ _ (Tells-word (λ _. Unit {0}) _ (λ _. record { says = λ _ _. tt })) (λ kind _. Tells-gives LineFits (Segment kind) tt))

label_at-says : (name : List ℕ) (others : List (List ℕ)) → Says LineFits (label_at name others)
label_at-says name others = record { says = λ line is. by _ line is }
  where
    by : (test : Bool) (line : Line) → given (cond test (Some (Defines name)) None) Word ≡ Ok line → LineFits line
    by true line is = let e : Defines name ≡ line = cc in subst LineFits e tt
    by false line is = absurd (cc)

mnemonic_at-says : (first : List ℕ) (operands : List (List ℕ)) → Says LineFits (mnemonic_at first operands)
mnemonic_at-says first operands = Says-then LineFits (given (form_named first) Word) _ (λ form is. Says-value LineFits (fields_at form) (operand_count form) operands (fields_at-tells form (form_named-is first form (found _ form is))))
  where
    found : (o : Option Form) (form : Form) → given o Word ≡ Ok form → o ≡ Some form
    found None form is = absurd (cc)
    found (Some f) form is = cc

label_or_mnemonic-says : (name : Option (List ℕ)) (first : List ℕ) (operands : List (List ℕ)) → Says LineFits (label_or_mnemonic name first operands)
label_or_mnemonic-says (Some name) first operands = label_at-says name operands
label_or_mnemonic-says None first operands = mnemonic_at-says first operands

worded-says : (first : List ℕ) (operands : List (List ℕ)) → Says LineFits (worded first operands)
unfolding worded
worded-says first operands =
    let other = label_or_mnemonic (before_colon first) first operands in
    let word = value (counted 3 record_at operands) in
    let segment = segment_at operands in
    let is_word = bytes_eq first (codes ".data") in
    let is_segment = bytes_eq first (codes ".seg") in
    Says-cond LineFits (bytes_eq first (codes ".task")) (task_at operands) (cond is_segment segment (cond is_word word other)) (λ _. task_at-says operands) (λ _.
    Says-cond LineFits is_segment segment (cond is_word word other) (λ _. segment_at-says operands) (λ _.
    Says-cond LineFits is_word word other (λ _. Says-value LineFits record_at 3 operands record_at-tells) (λ _.
    label_or_mnemonic-says (before_colon first) first operands)))

by_words-says : (words : List (List ℕ)) → Says LineFits (by_words words)
by_words-says [] = Says-ok LineFits Empty tt
by_words-says (first ∷ operands) = worded-says first operands

-- the values of each line fit
pub line_at-says : (bytes : List ℕ) → Says LineFits (line_at bytes)
unfolding line_at
line_at-says bytes = Says-then LineFits (tested (is_text bytes) NotText bytes) (λ text. by_words (words_of_line text)) (λ text _. by_words-says (words_of_line text))

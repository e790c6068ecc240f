-- A line is refused by the first of its rules that it breaks.
use Rattle.std.proofs.Common.{◌≡◌, ℕ, Bool, true, false, cond, ◌&&◌, eqb, List, [], ◌∷◌, ◌++◌, length, codes, bytes_eq, Option, Some, None, option_map, Result, Ok, Err, refl, ap, sym, subst, ◌∙◌, arith}
use Rattle.std.proofs.lemmas.Bool.{eqb-true, ne_eqb}
use Rattle.std.proofs.lemmas.List.{append-nil, length-append}
use Rattle.hic_asm.specs.declared.error.Fault.{Fault}
use Rattle.hic_asm.specs.declared.error.Fault.TheVariants as fault
use Rattle.hic_asm.specs.declared.table.RegisterField.{RegisterField}
use Rattle.hic_asm.specs.declared.table.RegisterField.TheVariants as field
use Rattle.hic_asm.specs.declared.table.NumberField.{NumberField}
use Rattle.hic_asm.specs.declared.table.NumberField.TheVariants as imm
use Rattle.hic_asm.specs.Faults.{given, tested, and_then}
use Rattle.hic_asm.specs.Words.{is_text, words_of_line}
use Rattle.hic_asm.specs.Operands.{Target, index_of, register_of, iterator_of, number_within, signed_of, target_of, kind_of, is_name, most_16, most_32, most_64}
use Rattle.hic_asm.specs.Table.{Form, form_named, register_words, number_words, operand_count}
use Rattle.hic_asm.specs.Lines.{Line, Empty, Defines, Task, Segment, Record, Code, draft, Reader, gives, word_at, with_rest, onward, ◌>>=◌, counted, value, register_at, imm_at, fields_at, instruction_at, task_at, segment_at, record_at, before_colon, label_or_mnemonic, worded, by_words, line_at}
use Rattle.hic_asm.specs.Assembly.{Seen, place_fault, seen_with, unless, defined_by, line_after}
use Rattle.hic_asm.specs.LineRules.{Head, LabelHead, TaskHead, SegmentHead, RecordHead, InstructionHead, named_head, head_of, Operand, RegisterOperand, IteratorOperand, NumberOperand, SignedOperand, TargetOperand, KindOperand, register_operands, imm_operands, operands_of, fault_of, operand_fault, or_else, operands_fault, text_rule, word_rule, twice_rule, count_rule, operand_rule, limit_rule, order_rule, first_of, word_rules, line_fault}

-- ---- operands that are read from left to right

-- a reader answers with this fault, or leaves these words
abbrev Answers : {X : Type 0} → Option Fault → Result (X × List (List ℕ)) Fault → List (List ℕ) → Type 0
Answers None (Ok p) rest = p.1 ≡ rest
Answers None (Err g) rest = ⊥
Answers (Some f) (Ok p) rest = ⊥
Answers (Some f) (Err g) rest = f ≡ g

-- a reader takes a word for each operand, and has the first fault of them
record Follows {X : Type 0} (operands : List Operand) (r : Reader X) : Type 0 where
  reads : (words rest : List (List ℕ)) → length words ≡ length operands → Answers (operands_fault operands words) (r (words ++ rest)) rest

Follows-gives : {X : Type 0} (x : X) → Follows [] (gives x)
Follows-gives x = record { reads = by }
  where
    by : (words rest : List (List ℕ)) → length words ≡ 0 → words ++ rest ≡ rest
    by [] rest none = refl
    by (word ∷ words) rest none = absurd (omega arith)

one_then : {X Y : Type 0} (r : Result X Fault) (f : X → Reader Y) (operands : List Operand) (words rest : List (List ℕ)) → ((x : X) → Follows operands (f x)) → length words ≡ length operands
    → Answers (or_else (fault_of r) (operands_fault operands words)) (onward (with_rest (words ++ rest) r) f) rest
one_then (Ok x) f operands words rest all len = (all x).reads words rest len
one_then (Err g) f operands words rest all len = refl

-- one word, and what follows
Follows-word : {X Y : Type 0} (operand : Operand) (operands : List Operand) (read : List ℕ → Result X Fault) (f : X → Reader Y) → ((word : List ℕ) → operand_fault operand word ≡ fault_of (read word)) → ((x : X) → Follows operands (f x))
    → Follows (operand ∷ operands) (word_at read >>= f)
Follows-word operand operands read f same all = record { reads = by }
  where
    by : (words rest : List (List ℕ)) → length words ≡ length (operand ∷ operands) → Answers (operands_fault (operand ∷ operands) words) ((word_at read >>= f) (words ++ rest)) rest
    by [] rest len = absurd (omega arith)
    by (word ∷ words) rest len =
        subst (λ o. Answers (or_else o (operands_fault operands words)) (onward (with_rest (words ++ rest) (read word)) f) rest) (sym (same word)) (one_then (read word) f operands words rest all (omega arith))

Follows-register : {Y : Type 0} (kind : RegisterField) (operands : List Operand) (f : ℕ → Reader Y) → ((n : ℕ) → Follows operands (f n)) → Follows (register_operands kind ++ operands) (register_at kind >>= f)
unfolding register_at
Follows-register field.Unused operands f all = all 0
Follows-register field.Register operands f all = Follows-word RegisterOperand operands register_of f (λ word. refl) all
Follows-register field.Iterator operands f all = Follows-word IteratorOperand operands iterator_of f (λ word. refl) all

fault_of-index : (r : Result ℕ Fault) → fault_of r ≡ fault_of (index_of r)
fault_of-index (Ok n) = refl
fault_of-index (Err g) = refl

Follows-imm : (kind : NumberField) (f : Target → Line) → Follows (imm_operands kind) (imm_at kind >>= λ imm. gives (f imm))
unfolding imm_at
Follows-imm imm.NoNumber f = Follows-gives _
Follows-imm imm.Number f = Follows-word (NumberOperand 0 most_32) [] (λ word. index_of (number_within 0 most_32 word)) (λ imm. gives (f imm)) (λ word. fault_of-index (number_within 0 most_32 word)) (λ x. Follows-gives (f x))
Follows-imm imm.Signed f = Follows-word SignedOperand [] (λ word. index_of (signed_of word)) (λ imm. gives (f imm)) (λ word. fault_of-index (signed_of word)) (λ x. Follows-gives (f x))
Follows-imm imm.Target f = Follows-word TargetOperand [] target_of (λ imm. gives (f imm)) (λ word. refl) (λ x. Follows-gives (f x))

Follows-fields : (form : Form) → Follows (operands_of (InstructionHead form)) (fields_at form)
unfolding fields_at
Follows-fields form =
    Follows-register form.a _ (λ a. register_at form.b >>= λ b. register_at form.c >>= λ c. imm_at form.imm >>= λ imm. gives (Code (draft form.opcode a b c imm))) (λ a.
    Follows-register form.b _ (λ b. register_at form.c >>= λ c. imm_at form.imm >>= λ imm. gives (Code (draft form.opcode a b c imm))) (λ b.
    Follows-register form.c (imm_operands form.imm) (λ c. imm_at form.imm >>= λ imm. gives (Code (draft form.opcode a b c imm))) (λ c.
    Follows-imm form.imm (λ imm. Code (draft form.opcode a b c imm)))))

Follows-record : Follows (operands_of RecordHead) record_at
unfolding record_at
Follows-record =
    let made = λ (segment offset value : ℕ). Record (record { segment = segment; offset = offset; value = value }) in
    Follows-word (NumberOperand 0 most_16) _ (number_within 0 most_16) (λ s. word_at (number_within 0 most_32) >>= λ o. word_at (number_within 1 most_64) >>= λ v. gives (made s o v)) (λ word. refl) (λ s.
    Follows-word (NumberOperand 0 most_32) _ (number_within 0 most_32) (λ o. word_at (number_within 1 most_64) >>= λ v. gives (made s o v)) (λ word. refl) (λ o.
    Follows-word (NumberOperand 1 most_64) [] (number_within 1 most_64) (λ v. gives (made s o v)) (λ word. refl) (λ v. Follows-gives (made s o v))))

-- ---- too few or too many words, then the operands

read_at : {X : Type 0} (fault : Option Fault) (r : Result (X × List (List ℕ)) Fault) (rest : List (List ℕ)) → Answers fault r rest → fault_of (value r) ≡ fault
read_at None (Ok p) rest is = refl
read_at None (Err g) rest is = absurd is
read_at (Some f) (Ok p) rest is = absurd is
read_at (Some f) (Err g) rest is = ap Some (sym is)

counted_at : {X : Type 0} (test : Bool) (operands : List Operand) (r : Reader X) (words : List (List ℕ)) → Follows operands r → (test ≡ true → length words ≡ length operands)
    → fault_of (value (and_then (given (cond test (Some words) None) fault.Operand) r)) ≡ or_else (cond test None (Some fault.Operand)) (operands_fault operands words)
counted_at true operands r words follows len =
    read_at (operands_fault operands words) (r words) [] (subst (λ ws. Answers (operands_fault operands words) (r ws) []) (append-nil words) (follows.reads words [] (len refl)))
counted_at false operands r words follows len = refl

counted-fault : {X : Type 0} (operands : List Operand) (r : Reader X) (words : List (List ℕ)) → Follows operands r
    → fault_of (value (counted (length operands) r words)) ≡ or_else (cond (eqb (length words) (length operands)) None (Some fault.Operand)) (operands_fault operands words)
counted-fault operands r words follows = counted_at (eqb (length words) (length operands)) operands r words follows (eqb-true (length words) (length operands))

length-register : (kind : RegisterField) → length (register_operands kind) ≡ register_words kind
length-register field.Unused = refl
length-register field.Register = refl
length-register field.Iterator = refl

length-imm : (kind : NumberField) → length (imm_operands kind) ≡ number_words kind
length-imm imm.NoNumber = refl
length-imm imm.Number = refl
length-imm imm.Signed = refl
length-imm imm.Target = refl

length-operands : (form : Form) → length (operands_of (InstructionHead form)) ≡ operand_count form
length-operands form =
    let a = register_operands form.a in
    let b = register_operands form.b in
    let c = register_operands form.c in
    let imm = imm_operands form.imm in
    omega (arith, length-append a (b ++ (c ++ imm)), length-append b (c ++ imm), length-append c imm, length-register form.a, length-register form.b, length-register form.c, length-imm form.imm)

-- ---- a line by its first word

abbrev by_head : Option Head → List (List ℕ) → Result Line Fault
by_head None others = Err fault.Word
by_head (Some (LabelHead name)) others = tested (eqb (length others) 0) fault.Word (Defines name)
by_head (Some TaskHead) others = task_at others
by_head (Some SegmentHead) others = segment_at others
by_head (Some RecordHead) others = value (counted 3 record_at others)
by_head (Some (InstructionHead form)) others = instruction_at form others

label_by : (is : Bool) (name : List ℕ) (others : List (List ℕ)) → tested (is && eqb (length others) 0) fault.Word (Defines name) ≡ by_head (cond is (Some (LabelHead name)) None) others
label_by true name others = refl
label_by false name others = refl

mnemonic_by : (found : Option Form) (others : List (List ℕ)) → and_then (given found fault.Word) (λ form. instruction_at form others) ≡ by_head (option_map InstructionHead found) others
mnemonic_by None others = refl
mnemonic_by (Some form) others = refl

named_by : (name : Option (List ℕ)) (first : List ℕ) (others : List (List ℕ)) → label_or_mnemonic name first others ≡ by_head (named_head name first) others
named_by (Some name) first others = label_by (is_name name) name others
named_by None first others = mnemonic_by (form_named first) others

choice : (task segment data_test : Bool) (others : List (List ℕ)) (other : Result Line Fault) (head : Option Head) → other ≡ by_head head others
    → cond task (task_at others) (cond segment (segment_at others) (cond data_test (value (counted 3 record_at others)) other))
    ≡ by_head (cond task (Some TaskHead) (cond segment (Some SegmentHead) (cond data_test (Some RecordHead) head))) others
choice true segment data_test others other head same = refl
choice false true data_test others other head same = refl
choice false false true others other head same = refl
choice false false false others other head same = same

worded-head : (first : List ℕ) (others : List (List ℕ)) → worded first others ≡ by_head (head_of first) others
unfolding worded
worded-head first others =
    choice (bytes_eq first (codes ".task")) (bytes_eq first (codes ".seg")) (bytes_eq first (codes ".data")) others
    (label_or_mnemonic (before_colon first) first others) (named_head (before_colon first) first) (named_by (before_colon first) first others)

-- the rules that a line keeps by itself
abbrev own_rules : Option Head → List (List ℕ) → Option Fault
own_rules head others = or_else (word_rule head others) (or_else (count_rule head others) (operand_rule head others))

by_head-fault : (head : Option Head) (others : List (List ℕ)) → fault_of (by_head head others) ≡ own_rules head others
unfolding task_at segment_at
by_head-fault None others = refl
by_head-fault (Some (LabelHead name)) [] = refl
by_head-fault (Some (LabelHead name)) (word ∷ others) = ap (λ b. fault_of (given (cond b (Some (Defines name)) None) fault.Word)) (ne_eqb (length (word ∷ others)) 0 (λ e. omega arith))
by_head-fault (Some TaskHead) others =
    counted-fault (operands_of TaskHead) (word_at target_of >>= λ entry. gives (Task entry)) others (Follows-word TargetOperand [] target_of (λ entry. gives (Task entry)) (λ word. refl) (λ entry. Follows-gives (Task entry)))
by_head-fault (Some SegmentHead) others =
    counted-fault (operands_of SegmentHead) (word_at kind_of >>= λ kind. gives (Segment kind)) others (Follows-word KindOperand [] kind_of (λ kind. gives (Segment kind)) (λ word. refl) (λ kind. Follows-gives (Segment kind)))
by_head-fault (Some RecordHead) others = counted-fault (operands_of RecordHead) record_at others Follows-record
by_head-fault (Some (InstructionHead form)) others =
    ap (λ n. fault_of (value (counted n (fields_at form) others))) (sym (length-operands form)) ∙ counted-fault (operands_of (InstructionHead form)) (fields_at form) others (Follows-fields form)

-- ---- a line after others

or_none : (o : Option Fault) → or_else o None ≡ o
or_none None = refl
or_none (Some f) = refl

record_rules : (full above : Bool) → cond full (Some fault.Limit) (cond above None (Some fault.Order)) ≡ or_else (cond full (Some fault.Limit) None) (or_else (cond above None (Some fault.Order)) None)
record_rules true above = refl
record_rules false above = sym (or_none (cond above None (Some fault.Order)))

-- what a line breaks after others
abbrev later_rules : Seen → Result Line Fault → Option Fault
later_rules s line = or_else (twice_rule s line) (or_else (limit_rule s line) (or_else (order_rule s line) None))

place_fault-rules : (s : Seen) (line : Line) → place_fault s line ≡ later_rules s (Ok line)
place_fault-rules s Empty = refl
place_fault-rules s (Defines name) = sym (or_none _)
place_fault-rules s (Task entry) = sym (or_none _)
place_fault-rules s (Segment kind) = sym (or_none _)
place_fault-rules s (Record word) = record_rules _ _
place_fault-rules s (Code instr) = sym (or_none _)

fault_of-unless : {X : Type 0} (o : Option Fault) (x : X) → fault_of (unless o x) ≡ o
fault_of-unless None x = refl
fault_of-unless (Some f) x = refl

-- the rules in their order, where a line keeps the others
both_kept : (word count operand : Option Fault) → or_else word (or_else count operand) ≡ None → (later twice limits : Option Fault) → later ≡ or_else twice limits
    → later ≡ or_else word (or_else twice (or_else count (or_else operand limits)))
both_kept None None None kept later twice limits is = is
both_kept (Some f) count operand kept later twice limits is = absurd (cc)
both_kept None (Some f) operand kept later twice limits is = absurd (cc)
both_kept None None (Some f) kept later twice limits is = absurd (cc)

broken : (word count operand : Option Fault) (f : Fault) → or_else word (or_else count operand) ≡ Some f → Some f ≡ or_else word (or_else count (or_else operand None))
broken (Some g) count operand f is = sym is
broken None (Some g) operand f is = sym is
broken None None (Some g) f is = sym is
broken None None None f is = absurd (cc)

after_head : (s : Seen) (r : Result Line Fault) (word count operand : Option Fault) → fault_of r ≡ or_else word (or_else count operand)
    → fault_of (and_then r (defined_by s)) ≡ or_else word (or_else (twice_rule s r) (or_else count (or_else operand (or_else (limit_rule s r) (or_else (order_rule s r) None)))))
unfolding defined_by
after_head s (Ok line) word count operand is =
    both_kept word count operand (sym is) _ (twice_rule s (Ok line)) (or_else (limit_rule s (Ok line)) (or_else (order_rule s (Ok line)) None))
    (fault_of-unless (place_fault s line) (seen_with s line) ∙ place_fault-rules s line)
after_head s (Err f) word count operand is = broken word count operand f (sym is)

by_words-rules : (s : Seen) (words : List (List ℕ)) → fault_of (and_then (by_words words) (defined_by s)) ≡ first_of (word_rules s (by_words words) words)
unfolding defined_by
by_words-rules s [] = refl
by_words-rules s (first ∷ others) =
    after_head s (worded first others) (word_rule (head_of first) others) (count_rule (head_of first) others) (operand_rule (head_of first) others)
    (ap fault_of (worded-head first others) ∙ by_head-fault (head_of first) others)

text_at : (s : Seen) (text : Bool) (bytes : List ℕ) (words : List (List ℕ))
    → fault_of (and_then (and_then (given (cond text (Some bytes) None) fault.NotText) (λ _. by_words words)) (defined_by s))
    ≡ first_of (cond text None (Some fault.NotText) ∷ word_rules s (and_then (given (cond text (Some bytes) None) fault.NotText) (λ _. by_words words)) words)
text_at s true bytes words = by_words-rules s words
text_at s false bytes words = refl

line_of : (text : Bool) (bytes : List ℕ) → and_then (given (cond text (Some bytes) None) fault.NotText) (λ t. by_words (words_of_line t)) ≡ and_then (given (cond text (Some bytes) None) fault.NotText) (λ _. by_words (words_of_line bytes))
line_of true bytes = refl
line_of false bytes = refl

-- the first fault of a line after others is that of the first rule that it breaks
pub line_after-rules : (s : Seen) (bytes : List ℕ) → fault_of (line_after s bytes) ≡ line_fault s bytes
unfolding line_after line_at
line_after-rules s bytes =
    ap (λ r. fault_of (and_then r (defined_by s))) (line_of (is_text bytes) bytes) ∙ text_at s (is_text bytes) bytes (words_of_line bytes)
    ∙ ap (λ r. first_of (text_rule bytes ∷ word_rules s r (words_of_line bytes))) (sym (line_of (is_text bytes) bytes))

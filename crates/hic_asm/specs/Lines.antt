-- What a line says by itself.
use Rattle.std.specs.Prelude.{ℕ, ◌-◌, ◌&&◌, ◌==◌, if◌then◌else◌, List, [], ◌∷◌, length, take, codes, bytes_eq, slice_index, Option, Some, None, Result, Ok, Err}
use Rattle.hic_isa.specs.declared.instr.SegKind.{SegKind}
use Rattle.hic_object.specs.declared.object.DataRec.{DataRec}
use Rattle.hic_asm.specs.declared.error.Fault.{Fault}
use Rattle.hic_asm.specs.declared.error.Fault.TheVariants.{NotText, Word, Operand}
use Rattle.hic_asm.specs.declared.line.Draft.{Draft as CodeDraft}
use Rattle.hic_asm.specs.declared.line.Line.{Line as CodeLine}
use Rattle.hic_asm.specs.declared.line.Line.TheVariants as variants
use Rattle.hic_asm.specs.declared.table.RegisterField.{RegisterField}
use Rattle.hic_asm.specs.declared.table.RegisterField.TheVariants as field
use Rattle.hic_asm.specs.declared.table.NumberField.{NumberField}
use Rattle.hic_asm.specs.declared.table.NumberField.TheVariants as imm
use Rattle.hic_asm.specs.Faults.{given, tested, and_then}
use Rattle.hic_asm.specs.Operands.{Target, Index, target_seen, index_of, register_of, iterator_of, number_within, signed_of, target_of, kind_of, is_name, most_16, most_32, most_64}
use Rattle.hic_asm.specs.Table.{Form, form_named, operand_count}
use Rattle.hic_asm.specs.Words.{is_text, words_of_line}

-- an instruction before its label is known: the opcode and the fields
pub record Draft : Type 0 where
  pub opcode : ℕ
  pub a : ℕ
  pub b : ℕ
  pub c : ℕ
  pub imm : Target

abbrev pub draft : ℕ → ℕ → ℕ → ℕ → Target → Draft
draft opcode a b c imm = record { opcode = opcode; a = a; b = b; c = c; imm = imm }

-- a line: empty, a label, one more task with its entry, one more segment, one more record, or an instruction
pub data Line : Type 0 where
  Empty : Line
  Defines : (name : List ℕ) → Line
  Task : (entry : Target) → Line
  Segment : (kind : SegKind) → Line
  Record : (word : DataRec) → Line
  Code : (instr : Draft) → Line

-- a draft and a line of the code
abbrev pub draft_seen : CodeDraft → Draft
draft_seen d = draft d.opcode d.a d.b d.c (target_seen d.imm)

abbrev pub line_seen : CodeLine → Line
line_seen variants.Empty = Empty
line_seen (variants.Defines name) = Defines name.now
line_seen (variants.Task entry) = Task (target_seen entry)
line_seen (variants.Segment kind) = Segment kind
line_seen (variants.Record word) = Record word
line_seen (variants.Code d) = Code (draft_seen d)

-- Operands are read word by word: a value, and the words after it.
abbrev pub Reader : Type 0 → Type 0
Reader X = List (List ℕ) → Result (X × List (List ℕ)) Fault

abbrev pub with_rest : {X : Type 0} → List (List ℕ) → Result X Fault → Result (X × List (List ℕ)) Fault
with_rest rest (Ok x) = Ok (x, rest)
with_rest rest (Err fault) = Err fault

-- one word, read so
abbrev pub word_at : {X : Type 0} → (List ℕ → Result X Fault) → Reader X
word_at read [] = Err Operand
word_at read (word ∷ rest) = with_rest rest (read word)

-- no word, and this value
abbrev pub gives : {X : Type 0} → X → Reader X
gives x = λ words. Ok (x, words)

abbrev pub onward : {X Y : Type 0} → Result (X × List (List ℕ)) Fault → (X → Reader Y) → Result (Y × List (List ℕ)) Fault
onward (Ok x) f = f x.0 x.1
onward (Err fault) f = Err fault

infixl 10 ◌>>=◌
abbrev pub ◌>>=◌ : {X Y : Type 0} → Reader X → (X → Reader Y) → Reader Y
r >>= f = λ words. onward (r words) f

-- exactly so many words, or else too few or too many
abbrev pub counted : {X : Type 0} → ℕ → Reader X → Reader X
counted count r = λ words. and_then (tested (length words == count) Operand words) r

-- the value that was read, without the words after it
abbrev pub value : {X : Type 0} → Result (X × List (List ℕ)) Fault → Result X Fault
value (Ok x) = Ok x.0
value (Err fault) = Err fault

-- ---- instructions

unfoldable pub register_at : RegisterField → Reader ℕ
register_at field.Unused = gives 0
register_at field.Register = word_at register_of
register_at field.Iterator = word_at iterator_of

unfoldable pub imm_at : NumberField → Reader Target
imm_at imm.NoNumber = gives (Index 0)
imm_at imm.Number = word_at (λ word. index_of (number_within 0 most_32 word))
imm_at imm.Signed = word_at (λ word. index_of (signed_of word))
imm_at imm.Target = word_at target_of

unfoldable pub fields_at : Form → Reader Line
fields_at form = do
  a ← register_at form.a
  b ← register_at form.b
  c ← register_at form.c
  imm ← imm_at form.imm
  gives (Code (draft form.opcode a b c imm))

abbrev pub instruction_at : Form → List (List ℕ) → Result Line Fault
instruction_at form operands = value (counted (operand_count form) (fields_at form) operands)

-- ---- directives

unfoldable pub task_at : List (List ℕ) → Result Line Fault
task_at operands = value (counted 1 (word_at target_of >>= λ entry. gives (Task entry)) operands)

unfoldable pub segment_at : List (List ℕ) → Result Line Fault
segment_at operands = value (counted 1 (word_at kind_of >>= λ kind. gives (Segment kind)) operands)

unfoldable pub record_at : Reader Line
record_at = do
  segment ← word_at (number_within 0 most_16)
  offset ← word_at (number_within 0 most_32)
  value ← word_at (number_within 1 most_64)
  gives (Record (record { segment = segment; offset = offset; value = value }))

-- ---- lines

-- a label, alone in its line: a name and a colon
abbrev pub label_at : List ℕ → List (List ℕ) → Result Line Fault
label_at name others = tested (is_name name && (length others == 0)) Word (Defines name)

-- what stands before the colon (58) that a word ends in
abbrev pub before_colon : List ℕ → Option (List ℕ)
before_colon word = if slice_index word (length word - 1) == 58 then Some (take (length word - 1) word) else None

-- by its mnemonic
abbrev pub mnemonic_at : List ℕ → List (List ℕ) → Result Line Fault
mnemonic_at first operands = and_then (given (form_named first) Word) (λ form. instruction_at form operands)

-- a label, or else an instruction
abbrev pub label_or_mnemonic : Option (List ℕ) → List ℕ → List (List ℕ) → Result Line Fault
label_or_mnemonic (Some name) first operands = label_at name operands
label_or_mnemonic None first operands = mnemonic_at first operands

-- a line by its first word and the words after it
unfoldable pub worded : List ℕ → List (List ℕ) → Result Line Fault
worded first operands =
    if bytes_eq first (codes ".task") then task_at operands else
    if bytes_eq first (codes ".seg") then segment_at operands else
    if bytes_eq first (codes ".data") then value (counted 3 record_at operands) else
    label_or_mnemonic (before_colon first) first operands

abbrev pub by_words : List (List ℕ) → Result Line Fault
by_words [] = Ok Empty
by_words (first ∷ operands) = worded first operands

-- the line that the bytes are, or its first fault
unfoldable pub line_at : List ℕ → Result Line Fault
line_at bytes = and_then (tested (is_text bytes) NotText bytes) (λ text. by_words (words_of_line text))

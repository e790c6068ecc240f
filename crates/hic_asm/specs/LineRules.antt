-- The rules of a line after others, each by itself, and the first fault by them in their order.
use Rattle.std.specs.Prelude.{ℕ, ◌||◌, ◌==◌, nat_le, if◌then◌else◌, List, [], ◌∷◌, ◌++◌, length, codes, bytes_eq, Option, Some, None, option_map, is_some, Result, Ok, Err}
use Rattle.hic_object.specs.Parts.{most_tasks, most_segments, most_records, most_instructions}
use Rattle.hic_object.specs.Reading.{is_above_last, last}
use Rattle.hic_asm.specs.declared.error.Fault.{Fault}
use Rattle.hic_asm.specs.declared.error.Fault.TheVariants as fault
use Rattle.hic_asm.specs.declared.table.RegisterField.{RegisterField}
use Rattle.hic_asm.specs.declared.table.RegisterField.TheVariants as field
use Rattle.hic_asm.specs.declared.table.NumberField.{NumberField}
use Rattle.hic_asm.specs.declared.table.NumberField.TheVariants as imm
use Rattle.hic_asm.specs.Words.{is_text, words_of_line}
use Rattle.hic_asm.specs.Operands.{register_of, iterator_of, number_within, signed_of, target_of, kind_of, is_name, most_16, most_32, most_64}
use Rattle.hic_asm.specs.Table.{Form, form_named}
use Rattle.hic_asm.specs.Lines.{Line, Defines, Task, Segment, Record, Code, before_colon, line_at}
use Rattle.hic_asm.specs.Assembly.{Seen, index_named, limit_fault}

-- ---- first words and operands

-- what a first word makes of a line: a label of this name, a directive, or an instruction of this form
pub data Head : Type 0 where
  LabelHead : (name : List ℕ) → Head
  TaskHead : Head
  SegmentHead : Head
  RecordHead : Head
  InstructionHead : (form : Form) → Head

abbrev pub named_head : Option (List ℕ) → List ℕ → Option Head
named_head (Some name) first = if is_name name then Some (LabelHead name) else None
named_head None first = option_map InstructionHead (form_named first)

abbrev pub head_of : List ℕ → Option Head
head_of first =
    if bytes_eq first (codes ".task") then Some TaskHead else
    if bytes_eq first (codes ".seg") then Some SegmentHead else
    if bytes_eq first (codes ".data") then Some RecordHead else named_head (before_colon first) first

-- how an operand is written
pub data Operand : Type 0 where
  RegisterOperand : Operand
  IteratorOperand : Operand
  NumberOperand : (least most : ℕ) → Operand
  SignedOperand : Operand
  TargetOperand : Operand
  KindOperand : Operand

abbrev pub register_operands : RegisterField → List Operand
register_operands field.Unused = []
register_operands field.Register = RegisterOperand ∷ []
register_operands field.Iterator = IteratorOperand ∷ []

abbrev pub imm_operands : NumberField → List Operand
imm_operands imm.NoNumber = []
imm_operands imm.Number = NumberOperand 0 most_32 ∷ []
imm_operands imm.Signed = SignedOperand ∷ []
imm_operands imm.Target = TargetOperand ∷ []

-- the operands after a first word
abbrev pub operands_of : Head → List Operand
operands_of (LabelHead name) = []
operands_of TaskHead = TargetOperand ∷ []
operands_of SegmentHead = KindOperand ∷ []
operands_of RecordHead = NumberOperand 0 most_16 ∷ NumberOperand 0 most_32 ∷ NumberOperand 1 most_64 ∷ []
operands_of (InstructionHead form) = register_operands form.a ++ (register_operands form.b ++ (register_operands form.c ++ imm_operands form.imm))

-- the fault of a result, if it is one
abbrev pub fault_of : {X E : Type 0} → Result X E → Option E
fault_of (Ok x) = None
fault_of (Err fault) = Some fault

abbrev pub operand_fault : Operand → List ℕ → Option Fault
operand_fault RegisterOperand word = fault_of (register_of word)
operand_fault IteratorOperand word = fault_of (iterator_of word)
operand_fault (NumberOperand least most) word = fault_of (number_within least most word)
operand_fault SignedOperand word = fault_of (signed_of word)
operand_fault TargetOperand word = fault_of (target_of word)
operand_fault KindOperand word = fault_of (kind_of word)

-- the first of the two that is there
abbrev pub or_else : Option Fault → Option Fault → Option Fault
or_else None other = other
or_else (Some fault) other = Some fault

abbrev pub operands_fault : List Operand → List (List ℕ) → Option Fault
operands_fault [] words = None
operands_fault (operand ∷ operands) [] = None
operands_fault (operand ∷ operands) (word ∷ words) = or_else (operand_fault operand word) (operands_fault operands words)

-- ---- the seven rules

-- 1. all of the line is text
abbrev pub text_rule : List ℕ → Option Fault
text_rule bytes = if is_text bytes then None else Some fault.NotText

-- 2. the first word is one of the known ones, and a label is alone
abbrev pub word_rule : Option Head → List (List ℕ) → Option Fault
word_rule None others = Some fault.Word
word_rule (Some (LabelHead name)) [] = None
word_rule (Some (LabelHead name)) (word ∷ others) = Some fault.Word
word_rule (Some TaskHead) others = None
word_rule (Some SegmentHead) others = None
word_rule (Some RecordHead) others = None
word_rule (Some (InstructionHead form)) others = None

-- 3. the label is not defined yet
abbrev pub twice_rule : Seen → Result Line Fault → Option Fault
twice_rule s (Ok (Defines name)) = if is_some (index_named s.labels name) then Some fault.LabelTwice else None
twice_rule s line = None

-- 4. as many words follow as there are operands
abbrev pub count_rule : Option Head → List (List ℕ) → Option Fault
count_rule None others = None
count_rule (Some head) others = if length others == length (operands_of head) then None else Some fault.Operand

-- 5. the operands, from left to right
abbrev pub operand_rule : Option Head → List (List ℕ) → Option Fault
operand_rule None others = None
operand_rule (Some head) others = operands_fault (operands_of head) others

-- 6. there is room for one more, and a record's segment is there
abbrev pub limit_rule : Seen → Result Line Fault → Option Fault
limit_rule s (Ok (Task entry)) = limit_fault most_tasks s.tasks
limit_rule s (Ok (Segment kind)) = limit_fault most_segments (length s.kinds)
limit_rule s (Ok (Record word)) = if nat_le most_records (length s.words) || nat_le (length s.kinds) word.segment then Some fault.Limit else None
limit_rule s (Ok (Code instr)) = limit_fault most_instructions s.code
limit_rule s line = None

-- 7. a record stands above the one before it
abbrev pub order_rule : Seen → Result Line Fault → Option Fault
order_rule s (Ok (Record word)) = if is_above_last (last s.words) word then None else Some fault.Order
order_rule s line = None

-- the first that is there
abbrev pub first_of : List (Option Fault) → Option Fault
first_of [] = None
first_of (fault ∷ faults) = or_else fault (first_of faults)

-- the rules of a line, by its words
abbrev pub word_rules : Seen → Result Line Fault → List (List ℕ) → List (Option Fault)
word_rules s line [] = []
word_rules s line (first ∷ others) =
    word_rule (head_of first) others ∷ twice_rule s line ∷ count_rule (head_of first) others ∷ operand_rule (head_of first) others ∷ limit_rule s line ∷ order_rule s line ∷ []

-- the first fault of a line after others
abbrev pub line_fault : Seen → List ℕ → Option Fault
line_fault s bytes = first_of (text_rule bytes ∷ word_rules s (line_at bytes) (words_of_line bytes))

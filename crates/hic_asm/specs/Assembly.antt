-- What a source is assembled to: the object, or its first fault.
use Rattle.std.specs.Prelude.{ℕ, ◌+◌, ◌||◌, nat_le, nat_lt, if◌then◌else◌, List, [], ◌∷◌, ◌++◌, length, find, bytes_eq, Option, Some, None, option_map, is_some, Result, Ok, Err}
use Rattle.hic_isa.specs.declared.instr.Instr.{Instr}
use Rattle.hic_isa.specs.declared.instr.SegKind.{SegKind}
use Rattle.hic_isa.specs.Spelling.{row, bytes_of}
use Rattle.hic_isa.specs.Decoding.{instr_at}
use Rattle.hic_object.specs.declared.object.DataRec.{DataRec}
use Rattle.hic_object.specs.Parts.{Parts, parts, most_tasks, most_segments, most_records, most_instructions}
use Rattle.hic_object.specs.Reading.{is_above_last, last}
use Rattle.text_lines.specs.Pieces.{pieces}
use Rattle.hic_asm.specs.declared.error.Fault.{Fault}
use Rattle.hic_asm.specs.declared.error.Fault.TheVariants as fault
use Rattle.hic_asm.specs.declared.error.AsmError.{AsmError}
use Rattle.hic_asm.specs.Faults.{fault_at, given, tested, and_then}
use Rattle.hic_asm.specs.Operands.{Target, Index, Label}
use Rattle.hic_asm.specs.Lines.{Line, Empty, Defines, Task, Segment, Record, Code, Draft, line_at}

-- ---- what the lines before a line have defined

-- a name for the index of an instruction
pub record Named : Type 0 where
  pub name : List ℕ
  pub index : ℕ

abbrev pub named : List ℕ → ℕ → Named
named name index = record { name = name; index = index }

-- the labels, the number of tasks, the segments' kinds, the records and the number of instructions
pub record Seen : Type 0 where
  pub labels : List Named
  pub tasks : ℕ
  pub kinds : List SegKind
  pub words : List DataRec
  pub code : ℕ

abbrev pub seen : List Named → ℕ → List SegKind → List DataRec → ℕ → Seen
seen labels tasks kinds words code = record { labels = labels; tasks = tasks; kinds = kinds; words = words; code = code }

abbrev pub nothing : Seen
nothing = seen [] 0 [] [] 0

-- the index that a label names
abbrev pub index_named : List Named → List ℕ → Option ℕ
index_named labels name = option_map (λ label. label.index) (find (λ label. bytes_eq name label.name) labels)

-- ---- the first pass

-- Limit, where there are as many already as there may be
abbrev pub limit_fault : ℕ → ℕ → Option Fault
limit_fault most count = if nat_le most count then Some fault.Limit else None

-- Limit, where there is no room or no such segment; else Order, where the record does not stand above the last one
abbrev pub record_fault : Seen → DataRec → Option Fault
record_fault s word =
    if nat_le most_records (length s.words) || nat_le (length s.kinds) word.segment then Some fault.Limit else
    if is_above_last (last s.words) word then None else Some fault.Order

-- the fault of a line after others that it does not have by itself: LabelTwice of a label, Limit and Order of others
abbrev pub place_fault : Seen → Line → Option Fault
place_fault s Empty = None
place_fault s (Defines name) = if is_some (index_named s.labels name) then Some fault.LabelTwice else None
place_fault s (Task entry) = limit_fault most_tasks s.tasks
place_fault s (Segment kind) = limit_fault most_segments (length s.kinds)
place_fault s (Record word) = record_fault s word
place_fault s (Code instr) = limit_fault most_instructions s.code

-- what is defined after this line too
abbrev pub seen_with : Seen → Line → Seen
seen_with s Empty = s
seen_with s (Defines name) = record s { labels = s.labels ++ named name s.code ∷ [] }
seen_with s (Task entry) = record s { tasks = s.tasks + 1 }
seen_with s (Segment kind) = record s { kinds = s.kinds ++ kind ∷ [] }
seen_with s (Record word) = record s { words = s.words ++ word ∷ [] }
seen_with s (Code instr) = record s { code = s.code + 1 }

abbrev pub unless : {X : Type 0} → Option Fault → X → Result X Fault
unless None x = Ok x
unless (Some fault) x = Err fault

-- what is defined after this line, or the fault that it has there
unfoldable pub defined_by : Seen → Line → Result Seen Fault
defined_by s line = unless (place_fault s line) (seen_with s line)

-- A line after others: what is defined then, or the line's first fault. What it says by itself is read first. Only a
-- label can be there twice, and it has no operands: so the order is that of the rules, which `LineRules` has apart.
unfoldable pub line_after : Seen → List ℕ → Result Seen Fault
line_after s bytes = and_then (line_at bytes) (defined_by s)

-- ---- the second pass

-- the entries of the tasks and the instructions, with labels replaced
pub record Built : Type 0 where
  pub entries : List ℕ
  pub code : List Instr

abbrev pub built : List ℕ → List Instr → Built
built entries code = record { entries = entries; code = code }

-- the index that a target stands for
abbrev pub resolved : List Named → Target → Option ℕ
resolved labels (Index n) = Some n
resolved labels (Label name) = index_named labels name

-- the entry of a task: below the number of instructions
abbrev pub entry_of : Seen → Target → Result ℕ Fault
entry_of s entry = and_then (given (resolved s.labels entry) fault.LabelMissing) (λ n. tested (nat_lt n s.code) fault.Limit n)

-- one more instruction: what these fields spell
abbrev pub with_instr : Built → Option Instr → Built
with_instr b None = b
with_instr b (Some instr) = record b { code = b.code ++ instr ∷ [] }

abbrev pub instr_of : Draft → ℕ → Option Instr
instr_of d imm = instr_at (bytes_of (row d.opcode d.a d.b d.c imm))

-- what is built with this line too, or its fault
unfoldable pub built_by : Seen → Built → Line → Result Built Fault
built_by s b Empty = Ok b
built_by s b (Defines name) = Ok b
built_by s b (Task entry) = and_then (entry_of s entry) (λ n. Ok (record b { entries = b.entries ++ n ∷ [] }))
built_by s b (Segment kind) = Ok b
built_by s b (Record word) = Ok b
built_by s b (Code d) = and_then (given (resolved s.labels d.imm) fault.LabelMissing) (λ imm. Ok (with_instr b (instr_of d imm)))

unfoldable pub line_built : Seen → Built → List ℕ → Result Built Fault
line_built s b bytes = and_then (line_at bytes) (built_by s b)

-- ---- the whole

abbrev pub in_line : {X : Type 0} → ℕ → Result X Fault → Result X AsmError
in_line number (Ok x) = Ok x
in_line number (Err fault) = Err (fault_at number fault)

-- The lines in order, from this number on: what they make of a state, or the first fault with its line.
unfoldable pub pass : {X : Type 0} → (X → List ℕ → Result X Fault) → ℕ → X → List (List ℕ) → Result X AsmError
pass line number state [] = Ok state
pass line number state (bytes ∷ rest) = and_then (in_line number (line state bytes)) (λ next. pass line (number + 1) next rest)

-- without a task, there is one with entry 0
abbrev pub entries_or_first : List ℕ → List ℕ
entries_or_first [] = 0 ∷ []
entries_or_first (entry ∷ entries) = entry ∷ entries

abbrev pub first_pass : List (List ℕ) → Result Seen AsmError
first_pass lines = pass line_after 1 nothing lines

-- Limit in the line after the last, where there is no instruction
abbrev pub some_code : ℕ → Seen → Result Seen AsmError
some_code count s = in_line (count + 1) (tested (nat_le 1 s.code) fault.Limit s)

abbrev pub second_pass : List (List ℕ) → Seen → Result Built AsmError
second_pass lines s = pass (line_built s) 1 (built [] []) lines

abbrev pub object_of : Seen → Built → Parts
object_of s b = parts (entries_or_first b.entries) s.kinds s.words b.code

unfoldable pub assembled_lines : List (List ℕ) → Result Parts AsmError
assembled_lines lines =
    and_then (first_pass lines) (λ first. and_then (some_code (length lines) first) (λ s. and_then (second_pass lines s) (λ b. Ok (object_of s b))))

-- the object of a source, or its first fault
abbrev pub assembled : List ℕ → Result Parts AsmError
assembled text = assembled_lines (pieces text)

-- What an object is seen as, and what each of its parts must be.
use Rattle.std.specs.Prelude.{◌≡◌, ◌<◌, ◌≤◌, ◌^◌, ◌⊎◌, ℕ, List, [], ◌∷◌, length, Option, Some, None, IfSome}
use Rattle.std.specs.List.{AllByRecursion}
use Rattle.hic_isa.specs.declared.instr.Instr.{Instr}
use Rattle.hic_isa.specs.declared.instr.SegKind.{SegKind}
use Rattle.hic_isa.specs.Spelling.{IsInstr}
use Rattle.hic_object.specs.declared.object.DataRec.{DataRec}

-- one entry for each task, one kind for each segment, the data in order and the code
pub record Parts : Type 0 where
  pub entries : List ℕ
  pub kinds : List SegKind
  pub words : List DataRec
  pub code : List Instr

abbrev pub parts : List ℕ → List SegKind → List DataRec → List Instr → Parts
parts entries kinds words code = record { entries = entries; kinds = kinds; words = words; code = code }

-- a record stands above another by segment, then by offset
abbrev pub IsAbove : DataRec → DataRec → Type 0
IsAbove low high = (low.segment < high.segment) ⊎ ((low.segment ≡ high.segment) × (low.offset < high.offset))

-- a record that may stand next after the one before it
pub record IsNext (segments : ℕ) (before : Option DataRec) (d : DataRec) : Type 0 where
  pub segment : d.segment < segments
  pub some : 1 ≤ d.value
  pub above : IfSome before (λ low. IsAbove low d)

-- records that may stand in this order after the one before them
abbrev pub AreRecords : ℕ → Option DataRec → List DataRec → Type 0
AreRecords segments before [] = Unit {0}
AreRecords segments before (d ∷ ds) = IsNext segments before d × AreRecords segments (Some d) ds

-- the most tasks, segments, instructions and data records that an object has
abbrev pub most_tasks : ℕ
most_tasks = 16

abbrev pub most_segments : ℕ
most_segments = 256

abbrev pub most_instructions : ℕ
most_instructions = 65536

abbrev pub most_records : ℕ
most_records = 1048576

-- the rules of counts, entries and records
pub record KeepsRules (o : Parts) : Type 0 where
  pub some_tasks : 1 ≤ length o.entries
  pub tasks : length o.entries ≤ most_tasks
  pub segments : length o.kinds ≤ most_segments
  pub some_code : 1 ≤ length o.code
  pub code_count : length o.code ≤ most_instructions
  pub words_count : length o.words ≤ most_records
  pub in_code : AllByRecursion (λ entry. entry < length o.code) o.entries
  pub records : AreRecords (length o.kinds) None o.words

-- the numbers of a record fit their bytes; its segment does as one that is there
pub record IsRecord (d : DataRec) : Type 0 where
  pub offset : d.offset < 2 ^ 32
  pub value : d.value < 2 ^ 64

-- the parts of an object: they keep the rules, and what they are made of fits its bytes
pub record IsObject (o : Parts) : Type 0 where
  pub rules : KeepsRules o
  pub numbers : AllByRecursion IsRecord o.words
  pub instrs : AllByRecursion IsInstr o.code

-- The state of the machine of plain arrays.
use Rattle.std.specs.Prelude.{ℕ, ◌+◌, ◌==◌, Bool, true, List, [], ◌∷◌, ◌++◌, map, filter, replicate, Option, Some, None, flat_map}
use Rattle.hic_isa.specs.declared.instr.Instr.{Instr}
use Rattle.hic_isa.specs.declared.instr.SegKind.{SegKind}
use Rattle.hic_object.specs.declared.object.DataRec.{DataRec}
use Rattle.hic_object.specs.Parts.{Parts}
use Rattle.hic_word.specs.Values.{Value, Number, Array, arrays_of}
use Rattle.segment_map.specs.Merging.{Changes}
use Rattle.hic_plain.specs.Limits.{iterator_count, register_count}

pub record Segment : Type 0 where
  pub kind : SegKind
  pub array : Array

-- An open iterator register: its segment, or none, the array as it was opened, a position, and the pairs that are
-- buffered, with ascending offsets. A buffered value may be the number 0.
pub record Iter : Type 0 where
  pub segment : Option ℕ
  pub snapshot : Array
  pub position : ℕ
  pub buffered : Changes

-- a task: whether it runs, the index of its next instruction, its eight registers and its four iterator registers,
-- each closed (None) or open
pub record Task : Type 0 where
  pub runs : Bool
  pub pc : ℕ
  pub regs : List Value
  pub iters : List (Option Iter)

-- `capacity` is the most lines that may be live, `input` the bytes that are left of the one input of all tasks
pub record Machine : Type 0 where
  pub code : List Instr
  pub capacity : ℕ
  pub segments : List Segment
  pub tasks : List Task
  pub input : List ℕ

-- how many words a line of its memory has
abbrev pub width_of : Machine → ℕ
width_of m = 4

-- ---- the arrays that are held

abbrev pub snapshots : List (Option Iter) → List Array
snapshots [] = []
snapshots (None ∷ is) = snapshots is
snapshots (Some i ∷ is) = i.snapshot ∷ snapshots is

abbrev pub buffered_arrays : List (Option Iter) → List Array
buffered_arrays [] = []
buffered_arrays (None ∷ is) = buffered_arrays is
buffered_arrays (Some i ∷ is) = arrays_of (map (λ p. p.1) i.buffered) ++ buffered_arrays is

-- those of a task's registers, its snapshots and its buffered values
abbrev pub held_by : Task → List Array
held_by t = arrays_of t.regs ++ (snapshots t.iters ++ buffered_arrays t.iters)

-- the segments' arrays, then those of each task; one that has halted holds none
abbrev pub held : Machine → List Array
held m = map (λ s. s.array) m.segments ++ flat_map held_by m.tasks

-- ---- the start of an object

-- registers that hold nothing
abbrev pub no_words : List Value
no_words = replicate register_count (Number 0)

-- iterator registers that hold nothing
abbrev pub all_closed : List (Option Iter)
all_closed = replicate iterator_count None

abbrev pub task_at : ℕ → Task
task_at entry = record { runs = true; pc = entry; regs = no_words; iters = all_closed }

-- the array of a segment, from the data in order
abbrev pub array_of : ℕ → List DataRec → Array
array_of segment words = map (λ d. (d.offset, Number d.value)) (filter (λ d. d.segment == segment) words)

-- segments of these kinds, numbered from i on
abbrev pub segments_from : ℕ → List SegKind → List DataRec → List Segment
segments_from i [] words = []
segments_from i (k ∷ ks) words = record { kind = k; array = array_of i words } ∷ segments_from (i + 1) ks words

-- the data in the segments, and every task at its entry with registers 0 and iterator registers closed
abbrev pub start : Parts → List ℕ → ℕ → Machine
start o input capacity = record { code = o.code; capacity = capacity; segments = segments_from 0 o.kinds o.words; tasks = map task_at o.entries; input = input }

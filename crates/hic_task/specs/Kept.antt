-- What a task and the segments keep, and what they stand for in the machine of plain arrays.
use Rattle.std.specs.Prelude.{◌≡◌, ℕ, ◌≤◌, List, [], ◌∷◌, ◌++◌, length, flat_map, Option, Some, None}
use Rattle.hic_word.specs.declared.Word.{Word}
use Rattle.hic_word.specs.Values.{Ref, pairs}
use Rattle.hic_word.specs.Holds.{Holds}
use Rattle.hic_word.specs.InMemory.{ChangesFor, WordIn}
use Rattle.hic_word.specs.Memory.{Memory, line_at, width}
use Rattle.hic_word.specs.Stands.{WordsFor}
use Rattle.iter_regs.specs.declared.opened.Open.{Open}
use Rattle.iter_regs.specs.Iters.{iter_words}
use Rattle.seg_cursor.specs.Trails.{CursorFor}
use Rattle.segment_map.specs.declared.Segment.{Segment as Stored}
use Rattle.hic_plain.specs.Machine.{Iter, Segment, Task}
use Rattle.hic_task.specs.declared.task.Task.{Task as Kept}

-- ---- words

-- the words of a task's registers, and those of its iterator registers
abbrev pub task_words : Kept → List Word
task_words k = k.regs ++ flat_map iter_words k.iters

-- the most words that a machine holds: 256 roots, and for each of 16 tasks 8 registers and 4 iterator registers with a
-- snapshot and 64 buffered words
abbrev pub most_held : ℕ
most_held = 4544

-- the memory holds these words among others, few in all
pub record HoldsFew (m : Memory) (words : List Word) : Type 0 where
  pub others : List Word
  pub holds : Holds (width m) m (words ++ others)
  pub few : length (words ++ others) ≤ most_held

-- ---- what they stand for

-- a segment has the kind and the array of the plain one
pub record SegmentFor (m : Memory) (s : Stored) (S : Segment) : Type 0 where
  pub kind : s.kind ≡ S.kind
  pub root : WordIn m s.root (Ref (pairs S.array))

abbrev pub SegmentsFor : Memory → List Stored → List Segment → Type 0
SegmentsFor m [] [] = Unit {0}
SegmentsFor m [] (S ∷ Ss) = ⊥
SegmentsFor m (s ∷ ss) [] = ⊥
SegmentsFor m (s ∷ ss) (S ∷ Ss) = SegmentFor m s S × SegmentsFor m ss Ss

-- an open iterator register has what the plain one has, and its cursor is true of the snapshot
pub record OpenFor (m : Memory) (r : Open) (R : Iter) : Type 0 where
  pub segment : r.segment ≡ R.segment
  pub position : r.position ≡ R.position
  pub cursor : CursorFor m r.cursor R.snapshot
  pub buffered : ChangesFor (width m) (line_at m) r.pairs R.buffered

abbrev pub IterFor : Memory → Option Open → Option Iter → Type 0
IterFor m None None = Unit {0}
IterFor m None (Some R) = ⊥
IterFor m (Some r) None = ⊥
IterFor m (Some r) (Some R) = OpenFor m r R

abbrev pub ItersFor : Memory → List (Option Open) → List (Option Iter) → Type 0
ItersFor m [] [] = Unit {0}
ItersFor m [] (R ∷ Rs) = ⊥
ItersFor m (r ∷ rs) [] = ⊥
ItersFor m (r ∷ rs) (R ∷ Rs) = IterFor m r R × ItersFor m rs Rs

-- a task has what the plain one has
pub record TaskFor (m : Memory) (k : Kept) (T : Task) : Type 0 where
  pub runs : k.runs ≡ T.runs
  pub pc : k.pc ≡ T.pc
  pub regs : WordsFor (width m) (line_at m) k.regs T.regs
  pub iters : ItersFor m k.iters T.iters

-- What a machine holds, and what it stands for.
use Rattle.std.specs.Prelude.{◌≡◌, ℕ, List, [], ◌∷◌, ◌++◌, flat_map, Option, Some, None}
use Rattle.hic_isa.specs.declared.instr.Instr.{Instr}
use Rattle.hic_word.specs.declared.Word.{Word}
use Rattle.hic_word.specs.Values.{AreValues, Value, arrays_of}
use Rattle.hic_word.specs.Balanced.{IsBalanced}
use Rattle.hic_word.specs.Holds.{Holds}
use Rattle.hic_word.specs.Memory.{Memory, line_at, width}
use Rattle.hic_word.specs.Stands.{WordsFor}
use Rattle.iter_regs.specs.declared.opened.Open.{Open}
use Rattle.iter_regs.specs.Iters.{words_of}
use Rattle.segment_map.specs.declared.Segment.{Segment as Stored}
use Rattle.segment_map.specs.Segments.{roots}
use Rattle.hic_plain.specs.Machine.{Machine, Task, held}
use Rattle.hic_plain.specs.Valid.{IsMachine}
use Rattle.hic_task.specs.declared.task.Task.{Task as Kept}
use Rattle.hic_task.specs.Kept.{SegmentsFor, TaskFor, task_words}

-- the words that are held: the segments' roots, and those of the tasks
abbrev pub held_words : List Stored → List Kept → List Word
held_words ss ks = roots ss ++ flat_map task_words ks

abbrev pub TasksFor : Memory → List Kept → List Task → Type 0
TasksFor m [] [] = Unit {0}
TasksFor m [] (T ∷ Ts) = ⊥
TasksFor m (k ∷ ks) [] = ⊥
TasksFor m (k ∷ ks) (T ∷ Ts) = TaskFor m k T × TasksFor m ks Ts

-- the memory holds exactly the words of the segments and the tasks, and these stand for a valid machine of plain arrays
pub record MachineFor (m : Memory) (code : List Instr) (segments : List Stored) (input : List ℕ) (tasks : List Kept) (P : Machine) : Type 0 where
  pub holds : Holds (width m) m (held_words segments tasks)
  pub code_is : P.code ≡ code
  pub capacity : P.capacity ≡ m.layout.cap
  pub segments_for : SegmentsFor m segments P.segments
  pub tasks_for : TasksFor m tasks P.tasks
  pub input_is : input ≡ P.input
  pub valid : IsMachine P

-- the memory is balanced for words that stand for values whose arrays are the held ones, in order
pub record KeepsHeld (m : Memory) (P : Machine) : Type 0 where
  pub words : List Word
  pub values : List Value
  pub balanced : IsBalanced (width m) m words
  pub stand : WordsFor (width m) (line_at m) words values
  pub valid : AreValues values
  pub arrays : arrays_of values ≡ held P

-- ---- the same words in the order of the held arrays

abbrev pub snapshot_words : List (Option Open) → List Word
snapshot_words [] = []
snapshot_words (None ∷ rs) = snapshot_words rs
snapshot_words (Some r ∷ rs) = r.cursor.root ∷ snapshot_words rs

abbrev pub waiting_words : List (Option Open) → List Word
waiting_words [] = []
waiting_words (None ∷ rs) = waiting_words rs
waiting_words (Some r ∷ rs) = words_of r.pairs ++ waiting_words rs

-- a task's registers, then its snapshots, then its buffered words
abbrev pub ordered_words : Kept → List Word
ordered_words k = k.regs ++ (snapshot_words k.iters ++ waiting_words k.iters)

abbrev pub all_ordered : List Stored → List Kept → List Word
all_ordered ss ks = roots ss ++ flat_map ordered_words ks

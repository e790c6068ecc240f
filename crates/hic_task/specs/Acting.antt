-- What the rows of instructions promise of a task and of what all tasks share.
use Rattle.std.specs.Prelude.{◌≡◌, ◌↔◌, ℕ, ◌-◌, ◌^◌, ◌<◌, true, List, [], ◌∷◌, ◌++◌, Option, Some, None, Result, Ok, Err, OnErr, IsTrue, slice_get, slice_set}
use Rattle.hic_isa.specs.declared.instr.Instr.{Instr}
use Rattle.hic_word.specs.Values.{Array, IsArray, Value, Number, Ref}
use Rattle.hic_word.specs.Exchanges.{Reshapes}
use Rattle.hic_word.specs.Memory.{Memory}
use Rattle.line_room.specs.Room.{LacksRoomFor}
use Rattle.segment_map.specs.Segments.{roots}
use Rattle.hic_plain.specs.declared.turn.Trap.{Trap}
use Rattle.hic_plain.specs.declared.turn.Turn.{Turn}
use Rattle.hic_plain.specs.declared.turn.Turn.TheVariants as turns
use Rattle.hic_plain.specs.Full.{full}
use Rattle.hic_plain.specs.Machine.{Machine, Segment, Task}
use Rattle.hic_plain.specs.Step.{act}
use Rattle.hic_plain.specs.Turns.{after}
use Rattle.hic_plain.specs.Valid.{IsMachine}
use Rattle.hic_task.specs.declared.done.Done.{Done}
use Rattle.hic_task.specs.declared.done.Done.TheVariants as done
use Rattle.hic_task.specs.declared.shared.Shared.{Shared}
use Rattle.hic_task.specs.declared.task.Task.{Task as Kept}
use Rattle.hic_task.specs.Kept.{HoldsFew, SegmentsFor, TaskFor, task_words}

-- ---- before a row

-- a valid machine whose task t, which runs, is T, as the words of k stand for it; the memory lacks room for an array exactly
-- where the machine has none
pub record CanAct (m : Memory) (k : Kept) (P : Machine) (t : ℕ) (T : Task) : Type 0 where
  pub valid : IsMachine P
  pub there : slice_get P.tasks t ≡ Some T
  pub runs : T.runs ≡ true
  pub task_for : TaskFor m k T
  pub room : (A : Array) → IsArray A → LacksRoomFor m (A ∷ []) ↔ IsTrue (full P A)

-- what all tasks share stands for what the plain machine has
pub record SharedFor (m : Memory) (shared : Shared) (P : Machine) : Type 0 where
  pub segments_for : SegmentsFor m shared.segments P.segments
  pub input : shared.input ≡ P.input

-- the task is one of some machine, and can go on to the next instruction
pub record IsReady (m : Memory) (k : Kept) : Type 0 where
  pub held : HoldsFew m (task_words k)
  pub machine : Machine
  pub number : ℕ
  pub task : Task
  pub can_act : CanAct m k machine number task
  pub next : k.pc < 2 ^ 32 - 1

-- the same with the segments' roots among what is held
pub record IsReadyWith (m : Memory) (shared : Shared) (k : Kept) : Type 0 where
  pub held : HoldsFew m (roots shared.segments ++ task_words k)
  pub machine : Machine
  pub number : ℕ
  pub task : Task
  pub can_act : CanAct m k machine number task
  pub shared_for : SharedFor m shared machine
  pub next : k.pc < 2 ^ 32 - 1

-- ---- after a row

-- the turn that a row's answer tells, with the bytes that were printed last
abbrev pub turn_of : Result Done Trap → List ℕ → Turn
turn_of (Ok done.Went) printed = turns.Went
turn_of (Ok done.Printed) printed = turns.Out printed
turn_of (Ok done.Halted) printed = turns.Halted
turn_of (Err trap) printed = turns.Trapped trap

-- the task is left as the row of the instruction says, and nothing else is changed
pub record Acted (n : Memory) (k : Kept) (P : Machine) (t : ℕ) (T : Task) (i : Instr) (turn : Turn) : Type 0 where
  pub left : Task
  pub task_for : TaskFor n k left
  pub is : act P t T i ≡ after P t left turn

-- the task and what all share are left as the row of the instruction says
pub record ActedWith (n : Memory) (shared : Shared) (k : Kept) (P : Machine) (t : ℕ) (T : Task) (i : Instr) (turn : Turn) : Type 0 where
  pub left : Task
  pub segments : List Segment
  pub task_for : TaskFor n k left
  pub segments_for : SegmentsFor n shared.segments segments
  pub is : act P t T i ≡ (record P { segments = segments; tasks = slice_set P.tasks t left; input = shared.input }, turn)

-- what a row on the task alone promises
pub record ActsAlone (m n : Memory) (old new : Kept) (i : Instr) (result : Result Done Trap) : Type 0 where
  pub acts : (printed : List ℕ) (P : Machine) (t : ℕ) (T : Task) → CanAct m old P t T → Acted n new P t T i (turn_of result printed)
  pub reshapes : Reshapes m n (task_words old) (task_words new)
  pub trapped : OnErr result (n ≡ m)

-- what a row promises of the task and of what all share
pub record Acts (m n : Memory) (before after : Shared) (old new : Kept) (number : ℕ) (i : Instr) (result : Result Done Trap) : Type 0 where
  pub acts : (P : Machine) (T : Task) → CanAct m old P number T → SharedFor m before P → ActedWith n after new P number T i (turn_of result after.printed)
  pub reshapes : Reshapes m n (roots before.segments ++ task_words old) (roots after.segments ++ task_words new)
  pub trapped : OnErr result (n ≡ m)

-- ---- words and what they stand for, told apart

-- the number, if it is one
abbrev pub number_of : Value → Option ℕ
number_of (Number n) = Some n
number_of (Ref H) = None

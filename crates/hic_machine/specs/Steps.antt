-- What a step of a machine does.
use Rattle.std.specs.Prelude.{◌≡◌, ℕ, true, List, Some, slice_get}
use Rattle.hic_isa.specs.declared.instr.Instr.{Instr}
use Rattle.hic_word.specs.declared.Word.{Word}
use Rattle.hic_word.specs.Memory.{Memory}
use Rattle.segment_map.specs.declared.Segment.{Segment as Stored}
use Rattle.hic_plain.specs.declared.turn.Turn.{Turn}
use Rattle.hic_plain.specs.declared.turn.Turn.TheVariants.{Halted, Out, Trapped, Went}
use Rattle.hic_plain.specs.Machine.{Machine, Task}
use Rattle.hic_plain.specs.Step.{step}
use Rattle.hic_task.specs.declared.shared.Shared.{Shared}
use Rattle.hic_task.specs.declared.task.Task.{Task as Kept}
use Rattle.hic_task.specs.Looks.{looks_for, looks_of}
use Rattle.hic_task.specs.OnNumbers.{RowIsMade}
use Rattle.hic_machine.specs.Held.{MachineFor}

-- task t is there and runs
pub record Runs (P : Machine) (t : ℕ) : Type 0 where
  pub task : Task
  pub there : slice_get P.tasks t ≡ Some task
  pub runs : task.runs ≡ true

-- the words stand for this machine, which keeps `one` as task t, and it runs
pub record IsKept (m : Memory) (code : List Instr) (shared : Shared) (one : Kept) (t : ℕ) (ks : List Kept) (P : Machine) : Type 0 where
  pub there : slice_get ks t ≡ Some one
  pub stands : MachineFor m code shared.segments shared.input ks P
  pub runs : Runs P t

-- what is left stands for what the plain machine's step leaves
pub record Stepped (n : Memory) (code : List Instr) (segments : List Stored) (input : List ℕ) (tasks : List Kept) (P : Machine) (t : ℕ) (turn : Turn) : Type 0 where
  pub left : Machine
  pub stands : MachineFor n code segments input tasks left
  pub is : step P t ≡ (left, turn)

-- what is true after a trap
abbrev pub OnTrap : Turn → Type 0 → Type 0
OnTrap Went P = Unit {0}
OnTrap (Out bytes) P = Unit {0}
OnTrap Halted P = Unit {0}
OnTrap (Trapped trap) P = P

-- the most looks of the next step of task t, where one call of `intern` takes `probe` at most
abbrev pub step_looks : ℕ → Machine → ℕ → ℕ
step_looks probe P t = looks_for (slice_get P.tasks t) (λ task. looks_for (slice_get P.code task.pc) (λ i. looks_of probe P task i))

-- there is an instruction at pc, and its row is made on numbers alone
abbrev pub IsMadeAt : List Instr → (old new : List Word) → (pc next t : ℕ) → Type 0
IsMadeAt code old new pc next t = (i : Instr) × (slice_get code pc ≡ Some i) × RowIsMade old new pc next t i

-- The states that the machine of plain arrays can come to.
use Rattle.std.specs.Prelude.{◌≡◌, ◌<◌, ◌≤◌, ◌^◌, ℕ, true, false, List, length, IfSome, slice_get}
use Rattle.std.specs.List.{AllByRecursion}
use Rattle.hic_isa.specs.Spelling.{IsInstr}
use Rattle.hic_word.specs.Changes.{AreChanges}
use Rattle.hic_word.specs.Values.{AreValues, IsArray}
use Rattle.hic_object.specs.Parts.{IsObject, Parts, most_instructions, most_segments, most_tasks}
use Rattle.hic_plain.specs.Limits.{iterator_count, most_buffered, offset_count, register_count}
use Rattle.hic_plain.specs.Full.{IsWithinCapacity}
use Rattle.hic_plain.specs.Machine.{Iter, Task, Machine, no_words, all_closed, start}
use Rattle.hic_plain.specs.Run.{run}
use Rattle.hic_plain.specs.Step.{step}

-- an open iterator register where there are so many segments
pub record IsIter (segments : ℕ) (r : Iter) : Type 0 where
  pub segment : IfSome r.segment (λ s. s < segments)
  pub snapshot : IsArray r.snapshot
  pub position : r.position < offset_count
  pub buffered : AreChanges 0 r.buffered
  pub count : length r.buffered ≤ most_buffered

-- a task holds nothing
pub record HoldsNothing (t : Task) : Type 0 where
  pub regs : t.regs ≡ no_words
  pub iters : t.iters ≡ all_closed

-- a task where there are so many segments; one that has halted holds nothing
pub record IsTask (segments : ℕ) (t : Task) : Type 0 where
  pub pc : t.pc < 2 ^ 32
  pub eight : length t.regs ≡ register_count
  pub regs : AreValues t.regs
  pub four : length t.iters ≡ iterator_count
  pub iters : AllByRecursion (λ i. IfSome i (IsIter segments)) t.iters
  pub halted : t.runs ≡ false → HoldsNothing t

-- a machine
pub record IsMachine (m : Machine) : Type 0 where
  pub code_count : length m.code ≤ most_instructions
  pub code : AllByRecursion IsInstr m.code
  pub segment_count : length m.segments ≤ most_segments
  pub segments : AllByRecursion (λ s. IsArray s.array) m.segments
  pub task_count : length m.tasks ≤ most_tasks
  pub tasks : AllByRecursion (IsTask (length m.segments)) m.tasks
  pub input : AllByRecursion (λ byte. byte < 256) m.input

-- a machine begins valid
abbrev pub StartsAreValid : Type 0
StartsAreValid = (o : Parts) (input : List ℕ) (capacity : ℕ) → IsObject o → AllByRecursion (λ byte. byte < 256) input → IsMachine (start o input capacity)

-- a step of a task that runs leaves a valid machine valid
abbrev pub StepsKeepValid : Type 0
StepsKeepValid = (m : Machine) (t : ℕ) → IsMachine m → IfSome (slice_get m.tasks t) (λ task. task.runs ≡ true) → IsMachine (step m t).0

-- Only a step that makes a new array may need more lines than there are: after a step there is still room for what is
-- held, if there was before.
abbrev pub StepsKeepRoom : Type 0
StepsKeepRoom = (m : Machine) (t : ℕ) → IsMachine m → IfSome (slice_get m.tasks t) (λ task. task.runs ≡ true) → IsWithinCapacity m → IsWithinCapacity (step m t).0

-- So is each machine that a run comes to, whatever the schedule: the last state of a run of any number of steps.
abbrev pub RunsStayValid : Type 0
RunsStayValid = (m : Machine) (entries : List ℕ) (n : ℕ) → IsMachine m → IsWithinCapacity m → IsMachine (run m entries n).last × IsWithinCapacity (run m entries n).last

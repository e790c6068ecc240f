-- A whole run of the machine of plain arrays.
use Rattle.std.specs.Prelude.{ℕ, zero, suc, ◌+◌, List, [], ◌∷◌, ◌++◌, Option, Some, None, slice_get, if◌then◌else◌}
use Rattle.hic_plain.specs.declared.turn.End.{End}
use Rattle.hic_plain.specs.declared.turn.End.TheVariants as ends
use Rattle.hic_plain.specs.declared.turn.Trap.{Trap}
use Rattle.hic_plain.specs.declared.turn.Turn.{Turn}
use Rattle.hic_plain.specs.declared.turn.Turn.TheVariants.{Went, Out, Halted, Trapped}
use Rattle.hic_plain.specs.Machine.{Machine, Task}
use Rattle.hic_plain.specs.Step.{step}
use Rattle.task_sched.specs.Pick.{Pick, NoTask, Picked, pick}

-- the numbers of the tasks that run, in rising order
abbrev pub running_from : ℕ → List Task → List ℕ
running_from i [] = []
running_from i (t ∷ ts) = if t.runs then i ∷ running_from (i + 1) ts else running_from (i + 1) ts

abbrev pub running : Machine → List ℕ
running m = running_from 0 m.tasks

-- what was written, how the run ended, the last state and the number of steps
pub record Ran : Type 0 where
  pub out : List ℕ
  pub end : End
  pub last : Machine
  pub steps : ℕ

abbrev pub ended : End → Machine → Ran
ended end m = record { out = []; end = end; last = m; steps = 0 }

-- a step that wrote these bytes, and then a run
abbrev pub stepped : List ℕ → Ran → Ran
stepped bytes r = record { out = bytes ++ r.out; end = r.end; last = r.last; steps = r.steps + 1 }

abbrev pub pc_of : Option Task → ℕ
pc_of None = 0
pc_of (Some task) = task.pc

-- a trap ends the run, with the task and where it was
abbrev pub trapped_at : Machine → ℕ → Trap → Ran
trapped_at m t trap = ended (ends.Trapped trap t (pc_of (slice_get m.tasks t))) m

-- what follows a step of task t from m
abbrev pub after_turn : Machine → ℕ → Machine × Turn → (Machine → Ran) → Ran
after_turn m t (new, Went) rest = stepped [] (rest new)
after_turn m t (new, Out bytes) rest = stepped bytes (rest new)
after_turn m t (new, Halted) rest = stepped [] (rest new)
after_turn m t (new, Trapped trap) rest = stepped [] (trapped_at m t trap)

-- the turn of the task that is picked
abbrev pub turn : Machine → Pick → (ℕ → List ℕ → Machine → Ran) → Ran
turn m NoTask rest = ended ends.Halted m
turn m (Picked t entries) rest = after_turn m t (step m t) (rest t entries)

-- no step is left
abbrev pub spent : Machine → Pick → Ran
spent m NoTask = ended ends.Halted m
spent m (Picked t entries) = ended ends.Budget m

-- the run from m with these entries of the schedule, the task that ran last and n steps at most
unfoldable pub go : Machine → List ℕ → Option ℕ → ℕ → Ran
go m entries last zero = spent m (pick (running m) entries last)
go m entries last (suc n) = turn m (pick (running m) entries last) (λ t rest new. go new rest (Some t) n)

abbrev pub run : Machine → List ℕ → ℕ → Ran
run m entries n = go m entries None n

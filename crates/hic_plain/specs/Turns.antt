-- What the rows of instructions are made of: what is read of a task, what is checked, and what a turn leaves.
use Rattle.std.specs.Prelude.{ℕ, zero, suc, ◌+◌, Bool, true, false, List, [], ◌∷◌, Option, Some, None, slice_get, slice_set, slice_index_or}
use Rattle.hic_word.specs.Values.{Value, Number, Ref, Array, array}
use Rattle.hic_plain.specs.declared.turn.Trap.{Trap}
use Rattle.hic_plain.specs.declared.turn.Trap.TheVariants as trap
use Rattle.hic_plain.specs.declared.turn.Turn.{Turn}
use Rattle.hic_plain.specs.declared.turn.Turn.TheVariants.{Went, Out, Trapped}
use Rattle.hic_plain.specs.Machine.{Machine, Segment, Task, Iter, no_words, all_closed}

-- ---- a task and its registers

abbrev pub reg : Task → ℕ → Value
reg task r = slice_index_or task.regs r (Number 0)

abbrev pub with_reg : Task → ℕ → Value → Task
with_reg task r v = record task { regs = slice_set task.regs r v }

abbrev pub iter : Task → ℕ → Option Iter
iter task i = slice_index_or task.iters i None

abbrev pub with_open : Task → ℕ → Iter → Task
with_open task i r = record task { iters = slice_set task.iters i (Some r) }

abbrev pub with_closed : Task → ℕ → Task
with_closed task i = record task { iters = slice_set task.iters i None }

-- on to the next instruction
abbrev pub next : Task → Task
next task = record task { pc = task.pc + 1 }

-- a task that has halted holds nothing
abbrev pub halted : Task → Task
halted task = record (next task) { runs = false; regs = no_words; iters = all_closed }

-- ---- segments

abbrev pub segment : Machine → ℕ → Option Segment
segment m n = slice_get m.segments n

-- the array of segment n is A
abbrev pub put_array : List Segment → ℕ → Array → List Segment
put_array [] n A = []
put_array (s ∷ ss) zero A = record s { array = A } ∷ ss
put_array (s ∷ ss) (suc n) A = s ∷ put_array ss n A

-- a segment gets a new array, if there is one
abbrev pub put_new : List Segment → ℕ → Option Array → List Segment
put_new ss n None = ss
put_new ss n (Some A) = put_array ss n A

-- ---- what a turn leaves

-- the machine after a turn of task t, which leaves that task so
abbrev pub after : Machine → ℕ → Task → Turn → Machine × Turn
after m t task turn = (record m { tasks = slice_set m.tasks t task }, turn)

-- the task goes on
abbrev pub goes_on : Machine → ℕ → Task → Machine × Turn
goes_on m t task = after m t (next task) Went

-- register r of task t is v, and the task goes on
abbrev pub sets : Machine → ℕ → Task → ℕ → Value → Machine × Turn
sets m t task r v = goes_on m t (with_reg task r v)

-- iterator register i is open so, or closed, and the task goes on
abbrev pub opens : Machine → ℕ → Task → ℕ → Iter → Machine × Turn
opens m t task i r = goes_on m t (with_open task i r)

abbrev pub closes : Machine → ℕ → Task → ℕ → Machine × Turn
closes m t task i = goes_on m t (with_closed task i)

-- the task goes on at this instruction
abbrev pub jumps : Machine → ℕ → Task → ℕ → Machine × Turn
jumps m t task pc = after m t (record task { pc = pc }) Went

abbrev pub jumps_if : Bool → Machine → ℕ → Task → ℕ → Machine × Turn
jumps_if true m t task pc = jumps m t task pc
jumps_if false m t task pc = goes_on m t task

-- the task writes these bytes and goes on
abbrev pub prints : Machine → ℕ → Task → List ℕ → Machine × Turn
prints m t task bytes = after m t (next task) (Out bytes)

-- ---- what is checked: a trap leaves the machine as it is

abbrev pub traps : Machine → Trap → Machine × Turn
traps m trap = (m, Trapped trap)

-- what is done with a number
abbrev pub with_number : Machine → Value → (ℕ → Machine × Turn) → Machine × Turn
with_number m (Number n) does = does n
with_number m (Ref H) does = traps m trap.BadType

-- what is done with the array that is referenced
abbrev pub with_array : Machine → Value → (Array → Machine × Turn) → Machine × Turn
with_array m (Number n) does = traps m trap.BadType
with_array m (Ref H) does = does (array H)

-- what is done with a segment
abbrev pub with_segment : Machine → Option Segment → (Segment → Machine × Turn) → Machine × Turn
with_segment m None does = traps m trap.Segment
with_segment m (Some s) does = does s

-- what is done with an iterator register that is open
abbrev pub with_iter : Machine → Option Iter → (Iter → Machine × Turn) → Machine × Turn
with_iter m None does = traps m trap.Closed
with_iter m (Some r) does = does r

-- what is done with the number of the segment that an iterator register was opened on
abbrev pub with_own : Machine → Option ℕ → (ℕ → Machine × Turn) → Machine × Turn
with_own m None does = traps m trap.Detached
with_own m (Some n) does = does n

-- what is done unless this trap comes
abbrev pub traps_if : Bool → Machine → Trap → Machine × Turn → Machine × Turn
traps_if true m trap done = traps m trap
traps_if false m trap done = done

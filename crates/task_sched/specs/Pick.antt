-- Which task runs next.
use Rattle.std.specs.Prelude.{ℕ, ◌+◌, List, [], ◌∷◌, filter, find, Option, Some, None, nat_le, ◌==◌, if◌then◌else◌}
use Rattle.std.specs.Int.{bit_at}
use Rattle.std.specs.List.{list_any, range_with_len}
use Rattle.task_sched.specs.Limits.{most_tasks}

-- the tasks whose bit is set, in rising order
unfoldable pub tasks_in : ℕ → List ℕ
tasks_in running = filter (λ task. bit_at running task == 1) (range_with_len 0 most_tasks)

-- what is picked: no task, or a task with the entries that it leaves
pub data Pick : Type 0 where
  NoTask : Pick
  Picked : (task : ℕ) → (rest : List ℕ) → Pick

-- what a call has picked that gives this task, or none, and leaves these entries
abbrev pub pick_of : Option ℕ → List ℕ → Pick
pick_of None rest = NoTask
pick_of (Some task) rest = Picked task rest

-- the first entry that names a running task, with the entries after it
abbrev pub pick_entry : List ℕ → List ℕ → Pick
pick_entry running [] = NoTask
pick_entry running (entry ∷ rest) = if list_any (λ task. task == entry) running then Picked entry rest else pick_entry running rest

-- the least running task that is not below `low`
abbrev pub least_from : ℕ → List ℕ → Option ℕ
least_from low running = find (λ task. nat_le low task) running

-- this task, or else the least of all
abbrev pub or_least : Option ℕ → List ℕ → Option ℕ
or_least (Some task) running = Some task
or_least None running = least_from 0 running

-- the least running task above the one that ran last, or the least of all
abbrev pub in_turn : List ℕ → Option ℕ → Option ℕ
in_turn running None = least_from 0 running
in_turn running (Some last) = or_least (least_from (last + 1) running) running

-- the entry that was picked, or else the task whose turn it is, with no entry left
abbrev pub or_turn : Pick → Option ℕ → Pick
or_turn (Picked task rest) turn = Picked task rest
or_turn NoTask (Some task) = Picked task []
or_turn NoTask None = NoTask

-- the pick among the running tasks, in rising order: by the entries that are left, and after them in turn
abbrev pub pick : List ℕ → List ℕ → Option ℕ → Pick
pick running entries last = or_turn (pick_entry running entries) (in_turn running last)

-- Steps of one task in a row: picks made one after another, while the same tasks run.
use Rattle.std.specs.Prelude.{ℕ, zero, suc, List, [], ◌∷◌, drop, min, Option, Some, None, option_and_then, ◌==◌, if◌then◌else◌}
use Rattle.std.specs.List.{list_any, prefix_len}
use Rattle.task_sched.specs.Limits.{most_count}
use Rattle.task_sched.specs.Order.{Order}
use Rattle.task_sched.specs.Pick.{Pick, NoTask, Picked, pick}

-- what a pick of this task leaves; None where another one is picked, or none
abbrev pub left_by : ℕ → Pick → Option Order
left_by task NoTask = None
left_by task (Picked picked rest) = if picked == task then Some (record { entries = rest; last = Some task }) else None

-- what so many picks leave, one after another, where each is of this task; None where one of them is not
unfoldable pub left_in_row : List ℕ → ℕ → ℕ → Order → Option Order
left_in_row running task zero order = Some order
left_in_row running task (suc more) order = option_and_then (left_in_row running task more) (left_by task (pick running order.entries order.last))

-- so many entries are passed, and this task ran last
abbrev pub passed : ℕ → ℕ → Order → Order
passed task made order = record { entries = drop made order.entries; last = Some task }

-- the entries from the first one on that names a running task
abbrev pub from_running : List ℕ → List ℕ → List ℕ
from_running running [] = []
from_running running (entry ∷ rest) = if list_any (λ task. task == entry) running then entry ∷ rest else from_running running rest

-- the entries in front that name no running task are passed
abbrev pub skipped : List ℕ → Order → Order
skipped running order = record { entries = from_running running order.entries; last = order.last }

-- how many entries in front name this task
abbrev pub front_count : ℕ → List ℕ → ℕ
front_count task entries = prefix_len (λ entry. entry == task) entries

-- how many steps a task makes in turn: without an end where it runs alone
abbrev pub turn_count : List ℕ → ℕ
turn_count (only ∷ []) = most_count
turn_count running = 1

-- how many steps of this task come in a row, as far as they are counted: by the entries that are left, and after them in turn
abbrev pub row_count : List ℕ → ℕ → List ℕ → ℕ
row_count running task [] = turn_count running
row_count running task (entry ∷ rest) = min most_count (front_count task (entry ∷ rest))

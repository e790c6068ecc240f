-- Worked rows of the definitions.
use Rattle.std.specs.Prelude.{◌≡◌, ℕ, List, [], ◌∷◌, ◌++◌, codes, Some, None, refl}
use Rattle.task_sched.specs.declared.error.SchedError.TheVariants.{BadItem, BadTask, TooMany}
use Rattle.task_sched.specs.declared.item.Item.{Item}
use Rattle.task_sched.specs.Faults.{piece_fault, sched_fault}
use Rattle.task_sched.specs.Items.{item_of, entries}
use Rattle.task_sched.specs.InRow.{left_in_row, passed, row_count, skipped}
use Rattle.task_sched.specs.Order.{Order}
use Rattle.task_sched.specs.Pick.{NoTask, Picked, pick, tasks_in}

-- a piece and the line feed at its end
abbrev line : List ℕ → List ℕ
line piece = piece ++ 10 ∷ []

abbrev item : ℕ → ℕ → Item
item task count = record { task = task; count = count }

-- items
task_alone : item_of (codes "3") ≡ Some (item 3 1)
task_alone = refl

two_digits : item_of (codes "07*12") ≡ Some (item 7 12)
two_digits = refl

ten_digits : item_of (codes "0*0000000001") ≡ Some (item 0 1)
ten_digits = refl

most : item_of (codes "0*4294967295") ≡ Some (item 0 4294967295)
most = refl

too_many_times : item_of (codes "0*4294967296") ≡ None
too_many_times = refl

no_times : item_of (codes "0*0") ≡ None
no_times = refl

three_digits : item_of (codes "000") ≡ None
three_digits = refl

eleven_digits : item_of (codes "0*00000000001") ≡ None
eleven_digits = refl

signed : item_of (codes "+1") ≡ None
signed = refl

spaced : item_of (codes " 0") ≡ None
spaced = refl

no_count : item_of (codes "1*") ≡ None
no_count = refl

no_task : item_of (codes "*1") ≡ None
no_task = refl

two_stars : item_of (codes "1*1*1") ≡ None
two_stars = refl

-- entries
entries_in_order : entries (line (codes "0*2") ++ line [] ++ line (codes "1") ++ codes "0") ≡ 0 ∷ 0 ∷ 1 ∷ 0 ∷ []
entries_in_order = refl

-- faults: the first one, in its line; an empty piece counts as a line
no_fault : sched_fault (line (codes "0*2") ++ codes "1") 2 ≡ None
no_fault = refl

fault_in_line : sched_fault (line (codes "0") ++ line [] ++ line (codes "3") ++ codes "x") 2 ≡ Some (BadTask 3)
fault_in_line = refl

no_item_of_no_task : sched_fault (codes "3*0") 2 ≡ Some (BadItem 1)
no_item_of_no_task = refl

-- the 65,536th item is taken, and the one after it is one too many, unless its task is wrong
last_item : piece_fault 2 65537 65535 (codes "1") ≡ None
last_item = refl

item_too_many : piece_fault 2 65537 65536 (codes "1") ≡ Some (TooMany 65537)
item_too_many = refl

wrong_task_first : piece_fault 2 65537 65536 (codes "2") ≡ Some (BadTask 65537)
wrong_task_first = refl

-- picks
running_tasks : tasks_in 32773 ≡ 0 ∷ 2 ∷ 15 ∷ []
unfolding tasks_in
running_tasks = refl

picks_entry : pick (0 ∷ 1 ∷ []) (0 ∷ 0 ∷ 1 ∷ []) (Some 0) ≡ Picked 0 (0 ∷ 1 ∷ [])
picks_entry = refl

passes_ended : pick (1 ∷ 2 ∷ []) (0 ∷ 0 ∷ 2 ∷ 0 ∷ []) None ≡ Picked 2 (0 ∷ [])
passes_ended = refl

goes_round : pick (0 ∷ 2 ∷ 3 ∷ []) [] (Some 2) ≡ Picked 3 []
goes_round = refl

starts_again : pick (1 ∷ 2 ∷ []) (0 ∷ []) (Some 2) ≡ Picked 1 []
starts_again = refl

starts_at_least : pick (2 ∷ 3 ∷ []) [] None ≡ Picked 2 []
starts_at_least = refl

stays : pick (2 ∷ []) [] (Some 2) ≡ Picked 2 []
stays = refl

nobody_runs : pick [] (0 ∷ []) None ≡ NoTask
nobody_runs = refl

-- rows
abbrev order : List ℕ → ℕ → Order
order entries last = record { entries = entries; last = Some last }

two_in_row : left_in_row (0 ∷ 1 ∷ []) 0 2 (order (0 ∷ 0 ∷ 1 ∷ []) 1) ≡ Some (order (1 ∷ []) 0)
unfolding left_in_row
two_in_row = refl

third_differs : left_in_row (0 ∷ 1 ∷ []) 0 3 (order (0 ∷ 0 ∷ 1 ∷ []) 1) ≡ None
unfolding left_in_row
third_differs = refl

ended_between : left_in_row (0 ∷ []) 0 3 (order (1 ∷ 0 ∷ 1 ∷ 0 ∷ []) 1) ≡ Some (order [] 0)
unfolding left_in_row
ended_between = refl

turns_differ : left_in_row (0 ∷ 2 ∷ []) 0 2 (order [] 2) ≡ None
unfolding left_in_row
turns_differ = refl

ended_in_front : skipped (0 ∷ []) (order (1 ∷ 2 ∷ 0 ∷ 1 ∷ []) 1) ≡ order (0 ∷ 1 ∷ []) 1
ended_in_front = refl

two_passed : passed 0 2 (order (0 ∷ 0 ∷ 0 ∷ 1 ∷ []) 1) ≡ order (0 ∷ 1 ∷ []) 0
two_passed = refl

counts_front : row_count (0 ∷ 1 ∷ []) 0 (0 ∷ 0 ∷ 1 ∷ 0 ∷ []) ≡ 2
counts_front = refl

counts_without_end : row_count (2 ∷ []) 2 [] ≡ 18446744073709551615
counts_without_end = refl

counts_a_turn : row_count (0 ∷ 2 ∷ []) 2 [] ≡ 1
counts_a_turn = refl

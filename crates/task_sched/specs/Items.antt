-- The items of a schedule's text, and the entries that they stand for.
use Rattle.std.specs.Prelude.{ℕ, ◌<◌, ◌≤◌, ◌+◌, ◌^◌, Bool, ◌&&◌, List, length, take, drop, position, replicate, flat_map, filter_map, Option, Some, None, nat_le, nat_lt, ◌==◌, if◌then◌else◌}
use Rattle.std.specs.Char.{is_ascii_digit}
use Rattle.std.specs.List.{list_all}
use Rattle.std.specs.Str.Parse.{digits_value}
use Rattle.task_sched.specs.declared.item.Item.{Item}
use Rattle.task_sched.specs.Limits.{most_tasks}
use Rattle.text_lines.specs.Pieces.{pieces}

-- the number that these digits write: decimal digits, at least one and no more than `most`
abbrev pub number : ℕ → List ℕ → Option ℕ
number most digits = if (nat_le 1 (length digits) && nat_le (length digits) most) && list_all is_ascii_digit digits then Some (digits_value 10 digits) else None

-- 42 is '*'
abbrev pub is_star : ℕ → Bool
is_star byte = byte == 42

-- so many entries of this task, from 1 to 4,294,967,295
abbrev pub item_from : Option ℕ → Option ℕ → Option Item
item_from (Some task) (Some count) = if nat_le 1 count && nat_lt count (2 ^ 32) then Some (record { task = task; count = count }) else None
item_from _ _ = None

-- the item of a piece whose first star stands here: `t*n`, n entries of task t; without a star `t`, one entry
abbrev pub item_at : List ℕ → Option ℕ → Option Item
item_at piece None = item_from (number 2 piece) (Some 1)
item_at piece (Some star) = item_from (number 2 (take star piece)) (number 10 (drop (star + 1) piece))

-- the item that a piece is
abbrev pub item_of : List ℕ → Option Item
item_of piece = item_at piece (position is_star piece)

-- the items among the pieces, in order; an empty piece is none
abbrev pub items_in : List (List ℕ) → List Item
items_in pieces = filter_map item_of pieces

-- the entries of an item
abbrev pub entries_of : Item → List ℕ
entries_of item = replicate item.count item.task

-- the entries of a text, as numbers of tasks
abbrev pub entries : List ℕ → List ℕ
entries text = flat_map entries_of (items_in (pieces text))

-- the entries of what is left of the items from this place on
abbrev pub entries_from : ℕ → List Item → List ℕ
entries_from place items = flat_map entries_of (drop place items)

-- an item that is left: of a task that a machine may have, and with an entry at least
abbrev pub IsLeft : Item → Type 0
IsLeft item = (item.task < most_tasks) × (1 ≤ item.count)

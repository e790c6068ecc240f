-- What is wrong with a schedule's text.
use Rattle.std.specs.Prelude.{ℕ, ◌+◌, List, [], ◌∷◌, ◌++◌, length, Option, Some, None, nat_le, if◌then◌else◌}
use Rattle.task_sched.specs.declared.error.SchedError.{SchedError}
use Rattle.task_sched.specs.declared.error.SchedError.TheVariants.{BadItem, BadTask, TooMany}
use Rattle.task_sched.specs.declared.item.Item.{Item}
use Rattle.task_sched.specs.Limits.{most_items}
use Rattle.task_sched.specs.Items.{item_of, items_in}
use Rattle.text_lines.specs.Pieces.{pieces}

-- the fault of an item in this line, of so many tasks and after so many earlier items; None stands for a piece that is no item
abbrev pub item_fault : ℕ → ℕ → ℕ → Option Item → Option SchedError
item_fault tasks line earlier None = Some (BadItem line)
item_fault tasks line earlier (Some item) = if nat_le tasks item.task then Some (BadTask line) else (if nat_le most_items earlier then Some (TooMany line) else None)

-- the fault of a piece; an empty one has none
abbrev pub piece_fault : ℕ → ℕ → ℕ → List ℕ → Option SchedError
piece_fault tasks line earlier [] = None
piece_fault tasks line earlier (byte ∷ bytes) = item_fault tasks line earlier (item_of (byte ∷ bytes))

-- the first of the two that is there
abbrev pub or_else : {A : Type 0} → Option A → Option A → Option A
or_else None other = other
or_else (Some x) other = Some x

-- the first fault of pieces that stand after these
abbrev pub first_fault : ℕ → List (List ℕ) → List (List ℕ) → Option SchedError
first_fault tasks before [] = None
first_fault tasks before (piece ∷ rest) = or_else (piece_fault tasks (length before + 1) (length (items_in before)) piece) (first_fault tasks (before ++ piece ∷ []) rest)

-- the first fault of a text, for so many tasks
abbrev pub sched_fault : List ℕ → ℕ → Option SchedError
sched_fault text tasks = first_fault tasks [] (pieces text)

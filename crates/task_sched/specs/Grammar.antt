-- Which texts are schedules, whatever their first fault would be.
use Rattle.std.specs.Prelude.{◌≡◌, ℕ, ◌<◌, ◌≤◌, ◌⊎◌, List, [], length, All, IsSomeAnd}
use Rattle.task_sched.specs.Limits.{most_items}
use Rattle.task_sched.specs.Items.{item_of, items_in}
use Rattle.text_lines.specs.Pieces.{pieces}

-- a piece is empty, or an item of one of so many tasks
abbrev pub IsPiece : ℕ → List ℕ → Type 0
IsPiece tasks piece = (piece ≡ []) ⊎ IsSomeAnd (item_of piece) (λ item. item.task < tasks)

-- every piece is one, and there are not too many items
pub record IsSchedule (text : List ℕ) (tasks : ℕ) : Type 0 where
  pub all : All (IsPiece tasks) (pieces text)
  pub few : length (items_in (pieces text)) ≤ most_items

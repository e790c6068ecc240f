-- What a call on a memory promises: which words it holds in place of others, and which lines stay.
use Rattle.std.specs.Prelude.{◌≡◌, ℕ, ◌+◌, ◌≤◌, List, ◌++◌, Some, IsSome}
use Rattle.hic_word.specs.declared.Word.{Word}
use Rattle.hic_word.specs.Memory.{Memory, count_at, line_at, most_holds, width}
use Rattle.hic_word.specs.Holds.{Holds}
use Rattle.hic_word.specs.Standing.{IsWithin}

-- the memory holds these words among others
abbrev pub HoldsAmong : Memory → List Word → Type 0
HoldsAmong m words = (others : List Word) × Holds (width m) m (words ++ others)

-- whatever else the old memory holds, the new one holds with `taken` where the old one does with `given_up`
abbrev pub PassesHolds : (old new : Memory) (given_up taken : List Word) → Type 0
PassesHolds old new given_up taken = (others : List Word) → Holds (width old) old (given_up ++ others) → Holds (width new) new (taken ++ others)

-- an id that has a line in both memories has the same line in both
abbrev pub KeepsLines : (old new : Memory) → Type 0
KeepsLines old new = (id : ℕ) (line later : List Word) → line_at old id ≡ Some line → line_at new id ≡ Some later → line ≡ later

-- some words are held no more, and others are held in their place; no line comes
pub record Exchanges (old new : Memory) (given_up taken : List Word) : Type 0 where
  pub holds : PassesHolds old new given_up taken
  pub lines : IsWithin (line_at new) (line_at old)
  pub layout : new.layout ≡ old.layout

-- the same where lines may come
pub record Reshapes (old new : Memory) (given_up taken : List Word) : Type 0 where
  pub holds : PassesHolds old new given_up taken
  pub lines : KeepsLines old new
  pub layout : new.layout ≡ old.layout

-- the count of each live id has room for n holds more
abbrev pub HasRoomFor : ℕ → Memory → Type 0
HasRoomFor n m = (id : ℕ) → IsSome (line_at m id) → count_at m id + n ≤ most_holds

-- no count rises by more than n
abbrev pub CountsRise : ℕ → (old new : Memory) → Type 0
CountsRise n old new = (id : ℕ) → count_at new id ≤ count_at old id + n

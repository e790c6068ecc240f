-- A memory that holds a list of words.
use Rattle.std.specs.Prelude.{◌≡◌, ℕ, ◌<◌, ◌≤◌, List, Some, IsSome}
use Rattle.hic_word.specs.declared.Word.{Word}
use Rattle.hic_word.specs.Lists.{times}
use Rattle.hic_word.specs.Names.{named_id, names_in}
use Rattle.hic_word.specs.Memory.{Memory, count_at, line_at, most_holds}
use Rattle.hic_word.specs.Balanced.{IsBalanced}

-- the memory is balanced for H, and each id that H names is live, as it is where each word of H stands for something
pub record Holds (w : ℕ) (m : Memory) (H : List Word) : Type 0 where
  pub balanced : IsBalanced w m H
  pub named : (id : ℕ) → 1 ≤ times id (names_in H) → IsSome (line_at m id)

-- the id that a word names, if any, is live
abbrev pub IsLive : Memory → Word → Type 0
IsLive m x = (id : ℕ) → named_id x ≡ Some id → IsSome (line_at m id)

-- the id that a word names, if any, can have one hold more
abbrev pub HasRoom : Memory → Word → Type 0
HasRoom m x = (id : ℕ) → named_id x ≡ Some id → count_at m id < most_holds

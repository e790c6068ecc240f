-- A memory on the way from one that holds words to one that holds fewer: holds are given up, and lines that nobody
-- names any more leave.
use Rattle.std.specs.Prelude.{◌≡◌, ℕ, ◌+◌, ◌≤◌, List, Some, IsSome}
use Rattle.hic_word.specs.declared.Word.{Word}
use Rattle.hic_word.specs.Lists.{times}
use Rattle.hic_word.specs.Names.{names_in}
use Rattle.hic_word.specs.Memory.{Memory, count_at, line_at, live_names}
use Rattle.hic_word.specs.Standing.{IsWithin}

-- H is held, P are words whose holds are still to be given up: the lines are lines of the old memory, each count is the
-- number of names in live lines, in P and in H, the dead ids are those with count 0, and all that is named is live
pub record IsFreeing (old m : Memory) (H P : List Word) : Type 0 where
  pub layout : m.layout ≡ old.layout
  pub lines : IsWithin (line_at m) (line_at old)
  pub counted : (id : ℕ) (line : List Word) → line_at m id ≡ Some line → count_at m id ≡ times id (live_names m) + (times id (names_in P) + times id (names_in H))
  pub dead : (id : ℕ) → 1 ≤ times id m.dead → count_at m id ≡ 0
  pub zero : (id : ℕ) (line : List Word) → line_at m id ≡ Some line → count_at m id ≡ 0 → 1 ≤ times id m.dead
  pub named : (id : ℕ) → 1 ≤ times id (live_names m) + (times id (names_in P) + times id (names_in H)) → IsSome (line_at m id)

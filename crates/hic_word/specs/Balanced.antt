-- A memory that has exactly what a list of words names.
use Rattle.std.specs.Prelude.{◌≡◌, ℕ, ◌+◌, ◌≤◌, List, [], Some}
use Rattle.hic_word.specs.declared.Word.{Word}
use Rattle.hic_word.specs.Lists.{times}
use Rattle.hic_word.specs.Entries.{LineValue}
use Rattle.hic_word.specs.Canon.{IsMade}
use Rattle.hic_word.specs.Names.{names_in}
use Rattle.hic_word.specs.Memory.{Memory, line_at, count_at, live_names}
use Rattle.hic_word.specs.Stands.{IdFor, Unique}

-- no two ids have one line, each live line stands for a line value that `enc` makes, none is dead, and each live id has
-- a count of at least 1 that is the number of its names in the live lines and in H
pub record IsBalanced (w : ℕ) (m : Memory) (H : List Word) : Type 0 where
  pub unique : Unique (line_at m)
  pub stands : (id : ℕ) (line : List Word) → line_at m id ≡ Some line → (L : LineValue) × IdFor w (line_at m) id L × IsMade w L
  pub no_dead : m.dead ≡ []
  pub used : (id : ℕ) (line : List Word) → line_at m id ≡ Some line → 1 ≤ count_at m id
  pub counted : (id : ℕ) (line : List Word) → line_at m id ≡ Some line → count_at m id ≡ times id (live_names m) + times id (names_in H)

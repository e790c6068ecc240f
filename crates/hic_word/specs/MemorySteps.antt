-- What the calls of a line memory make of it.
use Rattle.std.specs.Prelude.{◌≡◌, ◌≢◌, ℕ, ◌+◌, ◌-◌, Bool, true, false, eqb, List, [], ◌∷◌, Some, MatchOption}
use Rattle.std.specs.FinMap as map
use Rattle.hic_word.specs.declared.Word.{Word}
use Rattle.hic_word.specs.Names.{names_in}
use Rattle.hic_word.specs.Memory.{Layout, Memory, line_at, count_at}

-- a memory without a line
abbrev pub empty_memory : Layout → Memory
empty_memory layout = record { lines = map.empty; counts = map.empty; dead = []; layout = layout }

-- the memory with this count of an id
abbrev pub with_count : Memory → ℕ → ℕ → Memory
with_count m id n = record m { counts = map.insert m.counts id n }

-- one hold more on an id
abbrev pub with_hold : Memory → ℕ → Memory
with_hold m id = with_count m id (count_at m id + 1)

-- the memory with this count of an id, which is put in front of the dead if the count is 0
abbrev pub with_less : Bool → Memory → ℕ → ℕ → Memory
with_less true m id n = record m { counts = map.insert m.counts id n; dead = id ∷ m.dead }
with_less false m id n = with_count m id n

-- one hold less on an id; an id that had one alone is dead
abbrev pub without_hold : Memory → ℕ → Memory
without_hold m id = with_less (eqb (count_at m id) 1) m id (count_at m id - 1)

-- one hold less on each of these ids
abbrev pub without_holds : Memory → List ℕ → Memory
without_holds m [] = m
without_holds m (id ∷ ids) = without_holds (without_hold m id) ids

-- a new line under an id, with one hold
abbrev pub with_line : Memory → ℕ → List Word → Memory
with_line m id line = record m { lines = map.insert m.lines id line; counts = map.insert m.counts id 1 }

-- the line of an id has left; these are the dead that remain
abbrev pub without_line : Memory → ℕ → List ℕ → Memory
without_line m id dead = record m { lines = map.remove m.lines id; counts = map.remove m.counts id; dead = dead }

-- the first dead id, whose line this is, has left
abbrev pub Pops : Memory → List Word → Memory → Type 0
Pops old line new = (id : ℕ) × (dead : List ℕ) × (old.dead ≡ id ∷ dead) × (line_at old id ≡ Some line) × (new ≡ without_line old id dead)

-- no live line has these words
abbrev pub IsNew : Memory → List Word → Type 0
IsNew m line = (id : ℕ) → line_at m id ≢ Some line

-- the id has the line and one hold more, which is the caller's. The caller's holds on what a new line names pass to
-- the line; those on what a line names that was there are given up
abbrev pub Interns : Memory → List Word → ℕ → Memory → Type 0
Interns old line id new = MatchOption (line_at old id)
    (IsNew old line × (new ≡ with_line old id line))
    (λ there. (there ≡ line) × (new ≡ without_holds (with_hold old id) (names_in line)))

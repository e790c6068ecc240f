-- A memory of lines, as it is seen.
use Rattle.std.specs.Prelude.{ℕ, ◌-◌, ◌^◌, List, Option, unwrap_or, flat_map}
use Rattle.std.specs.Ordering.{nat_cmp}
use Rattle.std.specs.FinMap.{FinMap}
use Rattle.std.specs.FinMap as map
use Rattle.hic_word.specs.declared.Word.{Word}
use Rattle.hic_word.specs.Names.{names_in}

-- what a store never changes: the most lines that it has, and the most looks of one intern
pub record Layout : Type 0 where
  pub cap : ℕ
  pub probe : ℕ

-- the words of the lines by id, the counts of the live ids, the ids with count 0 in the order to be popped, the layout
pub record Memory : Type 0 where
  pub lines : FinMap nat_cmp (List Word)
  pub counts : FinMap nat_cmp ℕ
  pub dead : List ℕ
  pub layout : Layout

-- the greatest count of holds on a line
abbrev pub most_holds : ℕ
most_holds = 2 ^ 32 - 1

-- how many words a line of a memory has
abbrev pub width : Memory → ℕ
width m = 4

-- the words of the line of a live id
abbrev pub line_at : Memory → ℕ → Option (List Word)
line_at m id = map.get m.lines id

-- the count of an id, 0 where it has none
abbrev pub count_at : Memory → ℕ → ℕ
count_at m id = unwrap_or (map.get m.counts id) 0

-- the ids that the words of lines name
abbrev pub names_of : List (ℕ × List Word) → List ℕ
names_of es = flat_map (λ e. names_in e.1) es

-- the ids that the words of the live lines name
abbrev pub live_names : Memory → List ℕ
live_names m = names_of (map.entries m.lines)

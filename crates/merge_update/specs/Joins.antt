-- Words that are joined, and what they stand for.
use Rattle.std.specs.Prelude.{◌≡◌, Bool, true, false, Option, Some, None}
use Rattle.hic_word.specs.declared.Word.{Word}
use Rattle.hic_word.specs.Values.{IsValue, Value}
use Rattle.hic_word.specs.InMemory.{ChangesFor, WordIn}
use Rattle.hic_word.specs.Memory.{Memory, line_at, width}
use Rattle.hic_word.specs.Stands.{Unique}
use Rattle.segment_map.specs.Merging.{Changes}
use Rattle.write_buf.specs.WordPairs.{WordPairs}

-- no two ids have one line
abbrev pub HasNoEqualLines : Memory → Type 0
HasNoEqualLines m = Unique (line_at m)

-- the word stands for a valid value
abbrev pub ValidIn : Memory → Word → Value → Type 0
ValidIn m word value = IsValue value × WordIn m word value

-- a word for the value, and none for none
abbrev pub WordOrNone : Memory → Option Word → Option Value → Type 0
WordOrNone m None None = Unit {0}
WordOrNone m None (Some value) = ⊥
WordOrNone m (Some word) None = ⊥
WordOrNone m (Some word) (Some value) = WordIn m word value

-- the pairs stand for the joined changes
abbrev pub PairsFor : Memory → WordPairs → Changes → Type 0
PairsFor m pairs changes = ChangesFor (width m) (line_at m) pairs changes

-- where all were joined the pairs stand for them; else one conflicts
abbrev pub JoinsFor : Memory → Bool → WordPairs → Option Changes → Type 0
JoinsFor m true pairs None = ⊥
JoinsFor m true pairs (Some changes) = PairsFor m pairs changes
JoinsFor m false pairs joins = joins ≡ None

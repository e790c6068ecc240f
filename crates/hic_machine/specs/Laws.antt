-- The lines and the counts of the memory of every machine.
use Rattle.std.specs.Prelude.{◌≡◌, ℕ, ◌≤◌, List, Some}
use Rattle.hic_word.specs.declared.Word.{Word}
use Rattle.hic_word.specs.BalanceLaws.{Corresponds}
use Rattle.hic_word.specs.Memory.{Memory, count_at, line_at, width}
use Rattle.hic_plain.specs.Machine.{Machine, held}

-- the greatest count: the four words of each of 1,048,576 lines, and the 4,544 words that a machine holds
abbrev pub most_count : ℕ
most_count = 4198848

abbrev pub CountsAreLow : Memory → Type 0
CountsAreLow m = (id : ℕ) (line : List Word) → line_at m id ≡ Some line → count_at m id ≤ most_count

-- the live ids are, one to one, the distinct lines of the held arrays, each with its count
abbrev pub HasHeldLines : Memory → Machine → Type 0
HasHeldLines m P = Corresponds (width m) m (held P)

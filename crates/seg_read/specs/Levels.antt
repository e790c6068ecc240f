-- How many levels of lines lie below an entry, which no way down from it reads more of; and how many lie on the way to an offset.
use Rattle.std.specs.Prelude.{ℕ, zero, suc, ◌+◌, ◌/◌, ◌%◌, ◌^◌, max, ltb, cond, [], ◌∷◌}
use Rattle.hic_word.specs.Values.{Array}
use Rattle.hic_word.specs.Parts.{part}
use Rattle.hic_word.specs.Heights.{height}
use Rattle.hic_word.specs.Canon.{enc}
use Rattle.hic_word.specs.Entries.{Entries, Entry, Inner, Leaf, LineValue, More, Named, NoEntry, Pack, Zero}

abbrev mutual
  -- none below an entry that names no line, else those of the line that it names: a path takes none
  pub levels : Entry → ℕ
  levels Zero = 0
  levels (Pack ns) = 0
  levels (Named L p) = levels_of L

  -- one of a leaf, and of an inner line one more than below the entry of its that has most
  pub levels_of : LineValue → ℕ
  levels_of (Leaf vs) = 1
  levels_of (Inner es) = 1 + levels_in es

  -- the most below any of the entries
  pub levels_in : Entries → ℕ
  levels_in NoEntry = 0
  levels_in (More e es) = max (levels e) (levels_in es)

-- one for an entry that names a line with an empty path: the line is the part's own
abbrev pub own_line : Entry → ℕ
own_line Zero = 0
own_line (Pack ns) = 0
own_line (Named L []) = 1
own_line (Named L (q ∷ p)) = 0

-- the lines on the way down from an array's part of height h to an offset in it: the part's own, and those on the way in
-- the part of it where the offset lies
abbrev pub lines_to : ℕ → ℕ → Array → ℕ → ℕ
lines_to w zero A i = 0
lines_to w (suc k) A i = own_line (enc w (suc k) A) + lines_to w k (part w A (suc k) (i / w ^ k)) (i % w ^ k)

-- the lines on the way from an array's root to an offset, and none where the offset lies past the root's height
abbrev pub lines_on_way : ℕ → Array → ℕ → ℕ
lines_on_way w A i = cond (ltb i (w ^ height w A)) (lines_to w (height w A) A i) 0

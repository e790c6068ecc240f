-- What plain numbers, entries and line values are.
use Rattle.std.specs.Prelude.{ℕ, List, [], ◌∷◌, Option, Some, None}
use Rattle.hic_word.specs.Entries as entries
use Rattle.plain_form.specs.Value.{values_of}
use Rattle.plain_form.specs.declared.form.Numbers.{Numbers, NoNumber, ANumber'}
use Rattle.plain_form.specs.declared.form.Entry.{Entry, Zero, Pack, Named'}
use Rattle.plain_form.specs.declared.form.LineValue.{LineValue, Leaf, Inner}
use Rattle.plain_form.specs.declared.form.Entries.{Entries, NoEntry, More'}

-- the list of the numbers
abbrev pub numbers_of : Numbers → List ℕ
numbers_of NoNumber = []
numbers_of (ANumber' number pointer rest) = number ∷ numbers_of rest

-- the list of the numbers, if there are any
abbrev pub numbers_if : Option Numbers → Option (List ℕ)
numbers_if (Some numbers) = Some (numbers_of numbers)
numbers_if None = None

abbrev mutual
  -- the entry
  pub entry_of : Entry → entries.Entry
  entry_of Zero = entries.Zero
  entry_of (Pack numbers) = entries.Pack (numbers_of numbers)
  entry_of (Named' pointer line path) = entries.Named (line_of line) (numbers_of path)

  -- the line value
  pub line_of : LineValue → entries.LineValue
  line_of (Leaf values) = entries.Leaf (values_of values)
  line_of (Inner all) = entries.Inner (entries_of all)

  -- the entries of the line value
  pub entries_of : Entries → entries.Entries
  entries_of NoEntry = entries.NoEntry
  entries_of (More' entry pointer rest) = entries.More (entry_of entry) (entries_of rest)

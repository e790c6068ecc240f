-- What is read in a line that a part was opened to; above the leaves `parts_of` tells it.
use Rattle.std.specs.Prelude.{◌≡◌, ℕ, List, [], Some}
use Rattle.hic_word.specs.declared.Word.{Word}
use Rattle.hic_word.specs.Values.{Array}
use Rattle.hic_word.specs.Entries.{LineValue, Named}
use Rattle.hic_word.specs.Parts.{values}
use Rattle.hic_word.specs.Canon.{enc}
use Rattle.hic_word.specs.Stands.{IdFor, LineFor, Lookup, WordsFor}

-- the line at an id stands for what the id stands for
abbrev pub LinesAreStored : Type 0
LinesAreStored = (w : ℕ) (m : Lookup) (id : ℕ) (L : LineValue) (line : List Word) → IdFor w m id L → m id ≡ Some line → LineFor w m line L

-- the line of a lowest part stands for the part's values
abbrev pub LeavesHaveValues : Type 0
LeavesHaveValues = (w : ℕ) (m : Lookup) (A : Array) (L : LineValue) (line : List Word) → enc w 1 A ≡ Named L [] → LineFor w m line L → WordsFor w m line (values w 0 A)

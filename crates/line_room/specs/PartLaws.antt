-- Laws on the lines of an array and of its parts.
use Rattle.std.specs.Prelude.{◌≡◌, ◌↔◌, ◌⊎◌, ℕ, ◌-◌, ◌<◌, ◌≤◌, List, [], ◌∷◌, length}
use Rattle.hic_word.specs.Width.{IsWidth}
use Rattle.hic_word.specs.Lists.{In}
use Rattle.hic_word.specs.Values.{Array, IsArray}
use Rattle.hic_word.specs.Entries.{LineValue, Named}
use Rattle.hic_word.specs.Parts.{part}
use Rattle.hic_word.specs.Heights.{height}
use Rattle.hic_word.specs.Canon.{IsPart, enc, root_entry}
use Rattle.hic_word.specs.Lines.{lines}

-- the line that a root names is a line of the array
abbrev pub RootsHaveLines : Type 0
RootsHaveLines = (w : ℕ) (A : Array) (L : LineValue) (p : List ℕ) → IsWidth w → IsArray A → root_entry w A ≡ Named L p → In L (lines w (A ∷ []))

-- the line that the entry of a part names is a line of the array, if the parts are those of the array's own height
abbrev pub EntriesHaveLines : Type 0
EntriesHaveLines = (w h q : ℕ) (A : Array) (L : LineValue) (p : List ℕ) → IsWidth w → 2 ≤ h → q < w → IsPart w h A → height w A ≡ h
    → enc w (h - 1) (part w A h q) ≡ Named L p → In L (lines w (A ∷ []))

-- the lines that a part has as an array by itself are lines of the array
abbrev pub PartsHaveLines : Type 0
PartsHaveLines = (w h q : ℕ) (A : Array) (L : LineValue) → IsWidth w → 2 ≤ h → q < w → IsPart w h A → In L (lines w (part w A h q ∷ []))
    → In L (lines w (A ∷ []))

-- the lines of arrays are those of the first and those of the others
abbrev pub LinesAreOfEach : Type 0
LinesAreOfEach = (w : ℕ) (A : Array) (R : List Array) (L : LineValue) → In L (lines w (A ∷ R)) ↔ (In L (lines w (A ∷ [])) ⊎ In L (lines w R))

-- arrays have as many lines in whatever order, and however often each of them stands there
abbrev pub LinesInAnyOrder : Type 0
LinesInAnyOrder = (w : ℕ) (R S : List Array) → ((A : Array) → In A R ↔ In A S) → length (lines w R) ≡ length (lines w S)

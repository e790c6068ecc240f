-- Laws on the canonical form of arrays.
use Rattle.std.specs.Prelude.{◌≡◌, ◌≢◌, ℕ, suc, ◌+◌, ◌-◌, ◌*◌, ◌^◌, ◌<◌, ◌≤◌, List, [], ◌∷◌, map, flat_map, length, replicate, Some}
use Rattle.std.specs.List.{range_with_len}
use Rattle.hic_word.specs.Lists.{AllBelow}
use Rattle.hic_word.specs.Width.{IsWidth, greatest, longest, pack_limit}
use Rattle.hic_word.specs.Values.{Array, IsArray, IsBelow, at}
use Rattle.hic_word.specs.Entries.{Entry, Inner, LineValue, Named, Pack, Zero, inner}
use Rattle.hic_word.specs.Parts.{part, slices}
use Rattle.hic_word.specs.Heights.{height}
use Rattle.hic_word.specs.Canon.{IsMade, IsPart, enc, joined, root, sole, root_entry}
use Rattle.hic_word.specs.Needed.{IsNeeded, height_of}
use Rattle.hic_word.specs.Lines.{children, line_of_entry, reach, visit, visit_from, visits}

-- the least height, at least 1, that has room for each offset; 0 for the empty array
pub record IsHeight (w h : ℕ) (A : Array) : Type 0 where
  pub empty : A ≡ [] → h ≡ 0
  pub positive : A ≢ [] → 1 ≤ h
  pub low : h ≤ greatest w
  pub room : IsBelow (w ^ h) A
  pub least : (j : ℕ) → 1 ≤ j → IsBelow (w ^ j) A → h ≤ j

abbrev pub HeightsAreLeast : Type 0
HeightsAreLeast = (w : ℕ) (A : Array) → IsWidth w → IsArray A → IsHeight w (height w A) A

-- the slices that make the entry of an array of height h are its parts
abbrev pub SlicesAreParts : Type 0
SlicesAreParts = (w h : ℕ) (A : Array) → slices w 0 (w ^ (h - 1)) A ≡ map (part w A h) (range_with_len 0 w)

-- the entries of the parts of an array of height h
abbrev pub part_entries : ℕ → ℕ → Array → List Entry
part_entries w h A = map (λ q. enc w (h - 1) (part w A h q)) (range_with_len 0 w)

-- the entry of an array that is not empty, of a height above 1, is joined from those of its parts
abbrev pub PartsAreJoined : Type 0
PartsAreJoined = (w h : ℕ) (A : Array) → 2 ≤ h → A ≢ [] → enc w h A ≡ joined (sole (part_entries w h A)) (part_entries w h A)

-- a part past the last offset is empty: in lines of 8 words at height 11 those are parts 4 to 7
abbrev pub HighPartsAreEmpty : Type 0
HighPartsAreEmpty = (w h q : ℕ) (A : Array) → IsArray A → 2 ^ 32 ≤ q * w ^ (h - 1) → part w A h q ≡ []

-- a path that `enc` makes has at most 31, 15 or 10 numbers
abbrev pub PathsAreShort : Type 0
PathsAreShort = (w h : ℕ) (A : Array) (L : LineValue) (p : List ℕ) → IsWidth w → IsPart w h A → enc w h A ≡ Named L p → length p ≤ longest w

-- a path that `enc` makes has numbers below the width
abbrev pub PathsArePlaces : Type 0
PathsArePlaces = (w h : ℕ) (A : Array) (L : LineValue) (p : List ℕ) → IsWidth w → IsPart w h A → enc w h A ≡ Named L p → AllBelow w p

-- packed numbers that `enc` makes are as many as a line has words, and small
abbrev pub PacksAreSmall : Type 0
PacksAreSmall = (w h : ℕ) (A : Array) (ns : List ℕ) → IsWidth w → IsPart w h A → enc w h A ≡ Pack ns → (length ns ≡ w) × AllBelow (pack_limit w) ns

-- the entry of a part, one level up, where all other parts are empty: a line's path has one number more, packed numbers
-- have a line
abbrev pub raised : ℕ → Entry → Entry
raised w Zero = Zero
raised w (Pack ns) = Named (Inner (inner (Pack ns ∷ replicate (w - 1) Zero))) []
raised w (Named L p) = Named L (0 ∷ p)

-- a part that is the first part of a higher one has that one's entry, raised
abbrev pub EntriesAreRaised : Type 0
EntriesAreRaised = (w h : ℕ) (A : Array) → IsWidth w → IsPart w h A → enc w (suc h) A ≡ raised w (enc w h A)

-- a part of a part of height h is a part of height h - 1, with the values from its first offset on
pub record PartIs (w h q : ℕ) (A : Array) : Type 0 where
  pub is_part : IsPart w (h - 1) (part w A h q)
  pub values : (i : ℕ) → i < w ^ (h - 1) → at (part w A h q) i ≡ at A (q * w ^ (h - 1) + i)

abbrev pub PartsAreParts : Type 0
PartsAreParts = (w h q : ℕ) (A : Array) → 2 ≤ h → IsPart w h A → PartIs w h q A

-- a line value that `enc` makes is needed
abbrev pub LinesAreNeeded : Type 0
LinesAreNeeded = (w : ℕ) (L : LineValue) → IsWidth w → IsMade w L → IsNeeded w L

-- the height of a part is that of the line value that its entry names, and the path's length
abbrev pub LinesTellHeights : Type 0
LinesTellHeights = (w h : ℕ) (A : Array) (L : LineValue) (p : List ℕ) → IsWidth w → IsPart w h A → enc w h A ≡ Named L p → h ≡ length p + height_of L

-- arrays with one root are one
abbrev pub RootsTellArrays : Type 0
RootsTellArrays = (w : ℕ) (A B : Array) → IsWidth w → IsArray A → IsArray B → root w A ≡ root w B → A ≡ B

-- the visit of an array has levels enough: more change nothing, and with as many again below the first line value it is the same
pub record IsWhole (w : ℕ) (A : Array) : Type 0 where
  pub enough : (f : ℕ) → reach A ≤ f → visit_from w f (line_of_entry (root_entry w A)) ≡ visit w A
  pub step : (L : LineValue) → line_of_entry (root_entry w A) ≡ Some L → visit w A ≡ L ∷ flat_map (visits w (reach A)) (children w L)

abbrev pub VisitsAreWhole : Type 0
VisitsAreWhole = (w : ℕ) (A : Array) → IsWidth w → IsArray A → IsWhole w A

-- Pieces of an array, the words that stand for them, and the lines that are reached from a root.
use Rattle.std.specs.Prelude.{◌≡◌, ◌≢◌, ℕ, zero, suc, ◌+◌, ◌*◌, ◌/◌, ◌^◌, ◌<◌, ◌≤◌, Bool, true, false, List, [], Some}
use Rattle.hic_word.specs.declared.Kind.TheVariants.{Node}
use Rattle.hic_word.specs.declared.Word.{Word}
use Rattle.hic_word.specs.Values.{Array, Number, at}
use Rattle.hic_word.specs.Parts.{slice}
use Rattle.hic_word.specs.Names.{Names, named_id}
use Rattle.hic_word.specs.Stands.{Lookup, WordFor}
use Rattle.seg_canon.specs.Parts.{PartFor, whole_part}
use Rattle.seg_read.specs.Founds.{word_in}

-- how many words a line has, and an array how many parts of the height below
abbrev pub line_width : ℕ
line_width = 4

-- an array cut into pieces of line_width ^ h offsets: piece n, each offset lowered by those before it
abbrev pub piece : ℕ → Array → ℕ → Array
piece h A n = slice (n * line_width ^ h) (line_width ^ h) A

-- one piece of a height has both offsets
abbrev pub IsJoined : (height a b : ℕ) → Type 0
IsJoined height a b = a / line_width ^ height ≡ b / line_width ^ height

-- no word of an array from a up to but not including b
abbrev pub IsBlank : Array → ℕ → ℕ → Type 0
IsBlank A a b = (j : ℕ) → a ≤ j → j < b → at A j ≡ Number 0

-- piece n of a height has a word that is not 0
abbrev pub HasValue : Array → ℕ → ℕ → Type 0
HasValue A h n = (j : ℕ) × (j / line_width ^ h ≡ n) × (at A j ≢ Number 0)

-- a word stands for piece n of a height: at height 0 for the value at offset n, above as the entry of the piece
abbrev pub PieceFor : Lookup → ℕ → Word → Array → ℕ → Type 0
PieceFor m zero x A n = WordFor line_width m x (at A n)
PieceFor m (suc k) x A n = PartFor 4 m (whole_part (suc k) x) (piece (suc k) A n)

-- four words stand for the quarters, of height h, of piece n of the height above
abbrev pub ArePieces : Lookup → ℕ → List Word → Array → ℕ → Type 0
ArePieces m h words A n = (q : ℕ) → q < line_width → PieceFor m h (word_in words q) A (n * line_width + q)

-- an entry names a line by a path that is not empty
abbrev pub IsPath : Word → Type 0
IsPath entry = (entry.kind ≡ Node) × (1 ≤ entry.bits / 2 ^ 59)

-- what opening piece n of height h + 1 gives: nothing where it is empty, else the words of its quarters
abbrev pub OpensTo : Lookup → Bool → List Word → ℕ → Array → ℕ → Type 0
OpensTo m false words h A n = piece (suc h) A n ≡ []
OpensTo m true words h A n = (piece (suc h) A n ≢ []) × ArePieces m h words A n

-- an id is reached from a root: the root names it, or a line that is reached does
pub data IsReached (m : Lookup) (root : Word) : ℕ → Type 0 where
  Named : {id : ℕ} → named_id root ≡ Some id → IsReached m root id
  Further : {id next : ℕ} {line : List Word} → IsReached m root id → m id ≡ Some line → Names next line
      → IsReached m root next

-- each id that some words name is reached
abbrev pub AreReached : Lookup → Word → List Word → Type 0
AreReached m root words = (id : ℕ) → Names id words → IsReached m root id

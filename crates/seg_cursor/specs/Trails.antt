-- What a cursor keeps, and when that is true of a memory.
use Rattle.std.specs.Prelude.{◌≡◌, ◌≢◌, ◌⊎◌, ℕ, suc, ◌+◌, ◌-◌, ◌*◌, ◌/◌, ◌%◌, ◌^◌, ◌<◌, ◌≤◌, List, [], ◌∷◌, get_or, Option, Some, None}
use Rattle.hic_word.specs.declared.Kind.TheVariants.{Num}
use Rattle.hic_word.specs.declared.Word.{Word}
use Rattle.hic_word.specs.Values.{Array, IsBelow, Number, at}
use Rattle.hic_word.specs.InMemory.{RootIn}
use Rattle.hic_word.specs.Memory.{Memory, line_at}
use Rattle.hic_word.specs.Stands.{Lookup, WordFor, word_of}
use Rattle.line_mem.specs.Looks.{LooksUpTo}
use Rattle.seg_read.specs.Founds.{word_in}
use Rattle.seg_read.specs.Levels.{lines_to}
use Rattle.seg_cursor.specs.Pieces.{AreReached, ArePieces, HasValue, IsBlank, IsJoined, PieceFor, line_width, piece}

-- a line on a way: its words stand for the quarters, of height h, of piece n, and what they name is reached from the
-- root
pub record LineKept (m : Lookup) (root : Word) (A : Array) (h : ℕ) (words : List Word) (n : ℕ) : Type 0 where
  pub pieces : ArePieces m h words A n
  pub reached : AreReached m root words

-- the lines, by the height of their quarters, from the height `end` on, are those on the way to offset i
abbrev pub AreKept : Lookup → Word → Array → List (List Word) → ℕ → ℕ → Type 0
AreKept m root A lines end i = (h : ℕ) → end ≤ h → h < root.height
    → LineKept m root A h (get_or lines h []) (i / line_width ^ suc h)

-- the way to offset i ends at a height: at the word, or above it at an empty piece
abbrev pub IsEnded : Array → ℕ → ℕ → Type 0
IsEnded A end i = (end ≡ 0) ⊎ (piece end A (i / line_width ^ end) ≡ [])

-- the lines are kept on the way to the last offset, which ends at the height `end`; nothing is kept where there was
-- none
abbrev pub KeptFor : Lookup → Word → Array → List (List Word) → ℕ → Option ℕ → Type 0
KeptFor m root A lines end None = Unit {0}
KeptFor m root A lines end (Some i) = IsEnded A end i × AreKept m root A lines end i

-- on the way to offset i down to a height: the entry there, and the lines above
pub record OnWay (m : Lookup) (root : Word) (A : Array) (lines : List (List Word)) (i h : ℕ) (x : Word) : Type 0 where
  pub stands : PieceFor m h x A (i / line_width ^ h)
  pub reached : AreReached m root (x ∷ [])
  pub kept : AreKept m root A lines h i

-- the lines on the way from the piece of a height that has offset i down to i
abbrev pub lines_below : Array → ℕ → ℕ → ℕ
lines_below A i h = lines_to line_width h (piece h A (i / line_width ^ h)) (i % line_width ^ h)

-- a way to offset i begins at an entry of a height, or the word there is 0 and the lines kept lie on its way too
abbrev pub Starts : Lookup → Word → Array → List (List Word) → ℕ → ℕ → Option (Word × ℕ) → Type 0
Starts m root A lines end i None = (at A i ≡ Number 0) × KeptFor m root A lines end (Some i)
Starts m root A lines end i (Some found) = OnWay m root A lines i found.1 found.0

-- the first quarter with a word past the way to offset i: its height and its place in the line
pub record LaterAt (A : Array) (lines : List (List Word)) (end top i h place : ℕ) : Type 0 where
  pub from : end ≤ h
  pub high : h < top
  pub past : i / line_width ^ h % line_width < place
  pub low : place < line_width
  pub some : word_in (get_or lines h []) place ≢ word_of Num 0 0
  pub blank : IsBlank A i ((i / line_width ^ suc h * line_width + place) * line_width ^ h)

-- none where there is no word at all past offset i
abbrev pub LaterFor : Array → List (List Word) → (end top i : ℕ) → Option (ℕ × ℕ) → Type 0
LaterFor A lines end top i None = (j : ℕ) → i ≤ j → at A j ≡ Number 0
LaterFor A lines end top i (Some found) = LaterAt A lines end top i found.0 found.1

-- the first word of piece n of a height, with the lines on the way to it kept
pub record IsFirstOf (A : Array) (h n i : ℕ) : Type 0 where
  pub within : i / line_width ^ h ≡ n
  pub some : at A i ≢ Number 0
  pub blank : IsBlank A (n * line_width ^ h) i

abbrev pub FirstFor : Lookup → Word → Array → List (List Word) → (h n : ℕ) → ℕ × Word → Type 0
FirstFor m root A lines h n found = WordFor line_width m found.1 (at A found.0) × IsFirstOf A h n found.0
    × AreKept m root A lines 0 found.0

-- a way to offset i that was gone down, from the height `begin` to the height `end`, with at most a look for each
-- height
pub record Walked (A : Array) (top : ℕ) (last : Option ℕ) (i end old new : ℕ) : Type 0 where
  pub begin : ℕ
  pub high : begin ≤ top
  pub near : (p : ℕ) → last ≡ Some p → (k : ℕ) → 1 ≤ k → IsJoined k p i → suc begin ≤ k
  pub low : end ≤ begin
  pub more : old ≤ new
  pub looks : new + end ≤ old + begin
  pub some : end < begin → HasValue A (suc end) (i / line_width ^ suc end)

-- a way to offset i, or none, where the word there is known
abbrev pub Walks : Array → ℕ → Option ℕ → ℕ → (end old new : ℕ) → Type 0
Walks A top last i end old new = (new ≡ old) ⊎ Walked A top last i end old new

-- the lines are kept on the way to an offset whose word is 0, in an array of a height
pub record IsZeroAt (m : Lookup) (root : Word) (A : Array) (lines : List (List Word)) (end top i : ℕ) : Type 0 where
  pub below : IsBelow (line_width ^ top) A
  pub height : root.height ≡ top
  pub kept : KeptFor m root A lines end (Some i)
  pub zero : at A i ≡ Number 0

-- the next word that is not 0 past offset i: the height at whose pieces the two offsets part is that of the looks
pub record Past (m : Lookup) (root : Word) (A : Array) (lines : List (List Word)) (end top i old new : ℕ) (found : ℕ × Word) : Type 0 where
  pub height : ℕ
  pub from : end ≤ height
  pub high : height < top
  pub apart : i / line_width ^ height < found.0 / line_width ^ height
  pub joined : IsJoined (suc height) i found.0
  pub blank : IsBlank A i found.0
  pub some : at A found.0 ≢ Number 0
  pub word : WordFor line_width m found.1 (at A found.0)
  pub kept : AreKept m root A lines 0 found.0
  pub looks : LooksUpTo height old new

-- none, without a look, where there is no word at all
abbrev pub PastFor : Lookup → Word → Array → List (List Word) → (end top i old new : ℕ) → Option (ℕ × Word) → Type 0
PastFor m root A lines end top i old new None = (new ≡ old) × ((j : ℕ) → i ≤ j → at A j ≡ Number 0)
PastFor m root A lines end top i old new (Some found) = Past m root A lines end top i old new found

-- ---- cursors

-- what a cursor is seen as: its root, the offset that it went to last, the height at which the way there ends, and
-- the lines
pub record Trail : Type 0 where
  pub root : Word
  pub last : Option ℕ
  pub end : ℕ
  pub lines : List (List Word)

-- no line where there is no last offset
abbrev pub shown : Option ℕ → List (List Word) → List (List Word)
shown None lines = []
shown (Some i) lines = lines

-- on a root, with nothing kept
abbrev pub fresh : Word → Trail
fresh root = record { root = root; last = None; end = 0; lines = [] }

-- a cursor is true of a memory: its root stands for the array, and the lines are those on the way to the last offset
pub record CursorFor (m : Memory) (c : Trail) (A : Array) : Type 0 where
  pub root_for : RootIn m c.root A
  pub kept : KeptFor (line_at m) c.root A c.lines c.end c.last

-- from `old` to `new` looks, where the last offset was p: at most a look for each height at which p and i lie in two
-- pieces
abbrev pub JoinLooks : (p i old new : ℕ) → Type 0
JoinLooks p i old new = (k : ℕ) → 1 ≤ k → IsJoined k p i → LooksUpTo (k - 1) old new

-- the same for a search: none where it finds none
abbrev pub NearLooks : ℕ → Option (ℕ × Word) → (old new : ℕ) → Type 0
NearLooks p None old new = new ≡ old
NearLooks p (Some found) old new = JoinLooks p found.0 old new

abbrev pub offset_of : Option (ℕ × Word) → Option ℕ
offset_of None = None
offset_of (Some found) = Some found.0

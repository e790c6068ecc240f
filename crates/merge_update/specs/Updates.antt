-- What a commit and an mcas are given, and what becomes of the segment and the memory.
use Rattle.std.specs.Prelude.{◌≡◌, ℕ, ◌+◌, ◌*◌, max, min, Bool, true, false, List, [], ◌∷◌, Option, Some, None, length, slice_get}
use Rattle.hic_isa.specs.declared.instr.SegKind.{SegKind}
use Rattle.hic_word.specs.declared.Word.{Word}
use Rattle.hic_word.specs.Values.{Array}
use Rattle.hic_word.specs.Differences.{differ}
use Rattle.hic_word.specs.Heights.{height}
use Rattle.hic_word.specs.InMemory.{CanApply, RootIn}
use Rattle.hic_word.specs.Memory.{Memory}
use Rattle.line_mem.specs.Looks.{LooksUpTo}
use Rattle.line_room.specs.Room.{LacksRoomFor}
use Rattle.seg_write.specs.Charges.{LooksFew}
use Rattle.segment_map.specs.declared.Segment.{Segment}
use Rattle.segment_map.specs.declared.merged.Merged.{Merged}
use Rattle.segment_map.specs.Merging.{Updated, most_differing}
use Rattle.segment_map.specs.Segments.{with_root}

-- ---- what a call is given

-- the segment of this number has this kind, and its root stands for this array
pub record SegmentFor (m : Memory) (segments : List Segment) (vsid : ℕ) (kind : SegKind) (A : Array) : Type 0 where
  pub segment : Segment
  pub there : slice_get segments vsid ≡ Some segment
  pub of_kind : segment.kind ≡ kind
  pub root_for : RootIn m segment.root A

-- the writes over a snapshot, and the segment that they are for, stand for these arrays
pub record CommitFor (m : Memory) (segments : List Segment) (vsid : ℕ) (root : Word) (words : List (ℕ × Word)) (kind : SegKind) (snapshot writes present : Array) : Type 0 where
  pub segment_for : SegmentFor m segments vsid kind present
  pub writes_for : CanApply m root words snapshot writes

-- the base and mine, and the segment that they are for, stand for these arrays
pub record McasFor (m : Memory) (segments : List Segment) (vsid : ℕ) (root mine_root : Word) (kind : SegKind) (base mine present : Array) : Type 0 where
  pub segment_for : SegmentFor m segments vsid kind present
  pub base_for : RootIn m root base
  pub mine_for : RootIn m mine_root mine

-- ---- what becomes of it

-- the segment has the new array; where there is none, nothing is changed
abbrev pub HasNew : (old new : Memory) (before after : List Segment) → ℕ → Option Array → Type 0
HasNew old new before after vsid None = (after ≡ before) × (new ≡ old)
HasNew old new before after vsid (Some A) = (root : Word) × (after ≡ with_root before vsid root) × RootIn new root A

-- the answer is that of the table, and the segment has its array
pub record Updates (old new : Memory) (before after : List Segment) (vsid : ℕ) (answer : Merged) (row : Updated) : Type 0 where
  pub tells : answer ≡ row.answer
  pub has : HasNew old new before after vsid row.array

-- there is a new array, and its lines find no room
abbrev pub LacksRoomForNew : Memory → Option Array → Type 0
LacksRoomForNew m None = ⊥
LacksRoomForNew m (Some A) = LacksRoomFor m (A ∷ [])

-- ---- looks

-- the greatest height of arrays; 0 without any
abbrev pub greatest : ℕ → List Array → ℕ
greatest w [] = 0
greatest w (A ∷ As) = max (height w A) (greatest w As)

-- that of arrays and of a new one, if there is one
abbrev pub greatest_with : ℕ → List Array → Option Array → ℕ
greatest_with w As None = greatest w As
greatest_with w As (Some A) = greatest w (A ∷ As)

-- the greatest height of the arrays that a call reads or gives
abbrev pub greatest_height : ℕ → List Array → Updated → ℕ
greatest_height w As row = greatest_with w As row.array

-- what n changes are read for, where the present array is another: the old word at each offset, and the present one
abbrev pub read_looks : Bool → ℕ → ℕ → ℕ
read_looks true n h = 0
read_looks false n h = 2 * n * h

-- from `old` to `new` looks for the commit of n writes: whether the snapshot is the present array, the greatest height
abbrev pub CommitLooks : Bool → ℕ → ℕ → ℕ → (old new : ℕ) → Type 0
CommitLooks current n h probe old new = (between : ℕ) × LooksUpTo (read_looks current n h) old between × LooksFew n h probe between new

-- how many differing offsets are found: it ends with the first of too many
abbrev pub found : (base mine : Array) → ℕ
found base mine = min (length (differ base mine)) (most_differing + 1)

-- from `old` to `new` looks for the mcas of n differing offsets: whether the base is the present array, whether the
-- segment merges, the greatest height. Else none; else those that find the offsets, two for each level and offset, and
-- those that read the old word and the present one at each, before the changes are put in
abbrev pub McasLooks : Bool → Bool → ℕ → ℕ → ℕ → (old new : ℕ) → Type 0
McasLooks true merging n h probe old new = new ≡ old
McasLooks false false n h probe old new = new ≡ old
McasLooks false true n h probe old new = (between : ℕ) × LooksUpTo (4 * n * h) old between × LooksFew n h probe between new

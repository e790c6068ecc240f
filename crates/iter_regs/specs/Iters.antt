-- Iterator registers: what they keep, what it stands for, and what the calls make of it.
use Rattle.std.specs.Prelude.{◌≡◌, ◌+◌, ◌*◌, ◌^◌, ◌<◌, ◌≤◌, ℕ, Bool, true, false, List, [], ◌∷◌, map, Option, Some, None, IfSome, Result, Ok, Err, nat_lt}
use Rattle.std.specs.Option.{is_some}
use Rattle.hic_word.specs.declared.Word.{Word}
use Rattle.hic_word.specs.Values.{Array, is_zero}
use Rattle.hic_word.specs.View.{next_of}
use Rattle.hic_word.specs.Changes.{with}
use Rattle.hic_word.specs.Memory.{Memory}
use Rattle.hic_word.specs.InMemory.{CanApply}
use Rattle.write_buf.specs.WordPairs.{IsFullOfOthers, WordPairs, with_pair, word_at}
use Rattle.line_mem.specs.Looks.{LooksUpTo}
use Rattle.seg_read.specs.Levels.{lines_on_way}
use Rattle.seg_cursor.specs.Trails.{CursorFor, JoinLooks, Trail, fresh}
use Rattle.iter_regs.specs.declared.refusal.IterRefusal.{IterRefusal}
use Rattle.iter_regs.specs.declared.refusal.IterRefusal.TheVariants.{BufferFull, Closed, Offset}
use Rattle.iter_regs.specs.declared.opened.Open.{Open}

-- ---- what is kept

-- a register that is open or closed
abbrev pub open_if : Bool → Open → Option Open
open_if true r = Some r
open_if false r = None

-- the words of pairs, in the order of their offsets
abbrev pub words_of : WordPairs → List Word
words_of pairs = map (λ pair. pair.1) pairs

abbrev pub buffered_words : Open → List Word
buffered_words r = words_of r.pairs

-- the words for which holds are kept: the snapshot and the buffered words
abbrev pub open_words : Open → List Word
open_words r = r.cursor.root ∷ buffered_words r

abbrev pub iter_words : Option Open → List Word
iter_words None = []
iter_words (Some r) = open_words r

-- ---- what it stands for

-- an open register stands for a snapshot A with the pairs L over it, and its cursor keeps lines of A
pub record OpenFor (m : Memory) (r : Open) (A L : Array) : Type 0 where
  pub can_apply : CanApply m r.cursor.root r.pairs A L
  pub cursor : CursorFor m r.cursor A

-- a closed register, or an open one that stands for something
abbrev pub CanRead : Memory → Option Open → Type 0
CanRead m None = Unit {0}
CanRead m (Some r) = (A : Array) × (L : Array) × OpenFor m r A L

-- what is read: the snapshot with the pairs in it
abbrev pub view : Array → Array → Array
view A L = with A L

-- ---- what the calls answer

-- what a call tells of an open register, and `Closed` of a closed one
abbrev pub of_open : {X : Type 0} → Option Open → (Open → X) → Result X IterRefusal
of_open None tells = Err Closed
of_open (Some r) tells = Ok (tells r)

-- `Closed` of a closed register, and of an open one an answer of which this is true
abbrev pub Answers : {X : Type 0} → Option Open → Result X IterRefusal → (Open → X → Type 0) → Type 0
Answers None (Ok x) IsTold = ⊥
Answers None (Err e) IsTold = e ≡ Closed
Answers (Some r) (Ok x) IsTold = IsTold r x
Answers (Some r) (Err e) IsTold = ⊥

-- what `store` answers: `Closed` of a closed register, and of an open one `BufferFull` exactly where 64 other offsets are
-- buffered
abbrev pub StoreAnswers : Option Open → Result (Unit {0}) IterRefusal → Type 0
StoreAnswers None result = result ≡ Err Closed
StoreAnswers (Some r) (Ok done) = ¬ IsFullOfOthers r.pairs r.position
StoreAnswers (Some r) (Err e) = (e ≡ BufferFull) × IsFullOfOthers r.pairs r.position

-- this is true of the register if it is open
abbrev pub ForOpen : Option Open → (Open → Type 0) → Type 0
ForOpen None IsSo = Unit {0}
ForOpen (Some r) IsSo = IsSo r

abbrev pub one_if : Bool → ℕ
one_if true = 1
one_if false = 0

-- a buffered word takes no look, any other at most so many
abbrev pub way_unless : Option Word → ℕ → ℕ
way_unless None n = n
way_unless (Some word) n = 0

-- those of the lines on the way to the position
abbrev pub load_looks : ℕ → Open → Array → ℕ
load_looks w r A = way_unless (word_at r.pairs r.position) (lines_on_way w A r.position)

-- the looks of a load are at most as many as the snapshot's height
abbrev pub LoadLooks : Option Open → (old new : ℕ) → Type 0
LoadLooks None old new = new ≡ old
LoadLooks (Some r) old new = LooksUpTo (way_unless (word_at r.pairs r.position) r.cursor.root.height) old new

-- the looks of a search over a snapshot of height h: one search, and one more for each value 0 among the pairs
abbrev pub zeros : Array → ℕ
zeros [] = 0
zeros (p ∷ L) = one_if (is_zero p.1) + zeros L

abbrev pub search_looks : ℕ → Array → ℕ
search_looks h L = 2 * h * (zeros L + 1)

abbrev pub SearchLooks : Memory → Option Open → (old new : ℕ) → Type 0
SearchLooks m None old new = new ≡ old
SearchLooks m (Some r) old new = (A L : Array) → OpenFor m r A L → LooksUpTo (search_looks r.cursor.root.height L) old new

-- from where the cursor went to p last, to what is found: none where nothing is
abbrev pub FoundLooks : ℕ → Option ℕ → (old new : ℕ) → Type 0
FoundLooks p None old new = new ≡ old
FoundLooks p (Some i) old new = JoinLooks p i old new

-- of a register without buffered pairs whose cursor went last to the offset p from which it is searched, or to the one
-- before it
abbrev pub SearchNear : Memory → Open → ℕ → (old new : ℕ) → Type 0
SearchNear m r from old new = r.pairs ≡ [] → (p : ℕ) → r.cursor.last ≡ Some p → p ≤ from → from ≤ p + 1
    → (A L : Array) → OpenFor m r A L → FoundLooks p (next_of (view A L) from) old new

-- ---- what the calls make of a register

-- open on an array, at position 0, with nothing buffered and nothing kept of a way
abbrev pub attached : Option ℕ → Word → Open
attached segment root = record { segment = segment; cursor = fresh root; position = 0; pairs = [] }

-- the answer of `seek`, and the register after it: whether the offset is low, the register, the offset
abbrev pub sought : Bool → Open → ℕ → Result (Unit {0}) IterRefusal × Option Open
sought true r offset = (Ok tt, Some (record r { position = offset }))
sought false r offset = (Err Offset, Some r)

abbrev pub seeks : Option Open → ℕ → Result (Unit {0}) IterRefusal × Option Open
seeks None offset = (Err Closed, None)
seeks (Some r) offset = sought (nat_lt offset (2 ^ 32)) r offset

-- the same register, but for where its cursor stands
pub record SameButCursor (m : Memory) (old new : Open) : Type 0 where
  pub segment : new.segment ≡ old.segment
  pub position : new.position ≡ old.position
  pub pairs : new.pairs ≡ old.pairs
  pub root : new.cursor.root ≡ old.cursor.root
  pub cursor : (A : Array) → CursorFor m old.cursor A → CursorFor m new.cursor A

-- a register after `load`
abbrev pub Stays : Memory → Option Open → Option Open → Type 0
Stays m None after = after ≡ None
Stays m (Some r) after = (s : Open) × (after ≡ Some s) × SameButCursor m r s

-- its cursor stays where a word is buffered, and goes to the position where none is
abbrev pub ReadsAt : Option Word → ℕ → (old new : Trail) → Type 0
ReadsAt (Some word) i old new = new ≡ old
ReadsAt None i old new = new.last ≡ Some i

abbrev pub ReadsBy : Option Open → Option Open → Type 0
ReadsBy None after = Unit {0}
ReadsBy (Some r) after = IfSome after (λ s. ReadsAt (word_at r.pairs r.position) r.position r.cursor s.cursor)

-- the register at the offset that a search found: it stays where there is none
abbrev pub went_to : Open → Option ℕ → Open
went_to r None = r
went_to r (Some offset) = record r { position = offset }

-- the answer of a search that found an offset or none, and the register after it
abbrev pub Searched : Memory → Open → Option ℕ → Result Bool IterRefusal × Option Open → Type 0
Searched m r found after = (s : Open) × (after ≡ (Ok (is_some found), Some s)) × SameButCursor m (went_to r found) s

-- the answer and the register after a search of the view from n above the position on
abbrev pub Searches : Memory → Option Open → ℕ → Result Bool IterRefusal × Option Open → Type 0
Searches m None n after = after ≡ (Err Closed, None)
Searches m (Some r) n after = (A L : Array) → OpenFor m r A L → Searched m r (next_of (view A L) (r.position + n)) after

-- without buffered pairs its cursor goes to what is found, or to nowhere; asked from past the last offset it stays
pub record SearchesBy (m : Memory) (r : Open) (from : ℕ) (after : Trail) : Type 0 where
  pub found : r.pairs ≡ [] → from < 2 ^ 32 → (A L : Array) → OpenFor m r A L → after.last ≡ next_of (view A L) from
  pub past : 2 ^ 32 ≤ from → after ≡ r.cursor

-- nothing is buffered any more
abbrev pub emptied : Option Open → Option Open
emptied None = None
emptied (Some r) = Some (record r { pairs = [] })

-- another snapshot, and nothing buffered or kept of a way
abbrev pub renewed : Option Open → Word → Option Open
renewed None root = None
renewed (Some r) root = Some (record r { cursor = fresh root; pairs = [] })

-- a word is buffered at the position
abbrev pub with_stored : Open → Word → Open
with_stored r word = record r { pairs = with_pair r.pairs r.position word }

abbrev pub stored : Option Open → Word → Option Open
stored None word = None
stored (Some r) word = Some (with_stored r word)

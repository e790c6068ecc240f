-- Reading an object file from left to right, with the first fault that is met.
use Rattle.std.specs.Prelude.{◌≡◌, ◌≢◌, ℕ, zero, suc, ◌*◌, ◌-◌, Bool, true, ◌&&◌, ◌||◌, ◌==◌, nat_lt, nat_le, if◌then◌else◌, List, [], ◌∷◌, ◌++◌, length, take, drop, slice_get, codes, bytes_eq, Option, Some, None, Result, Ok, Err}
use Rattle.std.specs.Int.{Width, w8, w16, w32, w64, byte_len, from_le_bytes}
use Rattle.hic_isa.specs.declared.instr.Instr.{Instr}
use Rattle.hic_isa.specs.declared.instr.SegKind.{SegKind}
use Rattle.hic_isa.specs.declared.instr.SegKind.TheVariants.{Plain, Merge}
use Rattle.hic_isa.specs.Decoding.{instr_at}
use Rattle.hic_object.specs.declared.error.CountName.{CountName}
use Rattle.hic_object.specs.declared.error.CountName.TheVariants as names
use Rattle.hic_object.specs.declared.error.ObjectError.{ObjectError}
use Rattle.hic_object.specs.declared.error.ObjectError.TheVariants.{Magic, Version, Count, Entry, BadKind, BadData, Code, Short, Long, OutOfMemory}
use Rattle.hic_object.specs.declared.object.DataRec.{DataRec}
use Rattle.hic_object.specs.Parts.{Parts, parts, most_tasks, most_segments, most_instructions, most_records}

-- What a function returned, seen by view, is what reading gives, unless memory ran out.
abbrev pub Gives : {X Y : Type 0} → (X → Y) → Result X ObjectError → Result Y ObjectError → Type 0
Gives view (Ok x) read = read ≡ Ok (view x)
Gives view (Err e) read = e ≢ OutOfMemory → read ≡ Err e

-- A field is read as a value and the bytes after it.
abbrev pub Reader : Type 0 → Type 0
Reader X = List ℕ → Result (X × List ℕ) ObjectError

abbrev pub onward : {X Y : Type 0} → Result (X × List ℕ) ObjectError → (X → Reader Y) → Result (Y × List ℕ) ObjectError
onward (Ok x) f = f x.0 x.1
onward (Err e) f = Err e

-- one field after the other
infixl 10 ◌>>=◌
abbrev pub ◌>>=◌ : {X Y : Type 0} → Reader X → (X → Reader Y) → Reader Y
r >>= f = λ bytes. onward (r bytes) f

-- no bytes, and this value
abbrev pub gives : {X : Type 0} → X → Reader X
gives x = λ bytes. Ok (x, bytes)

-- no bytes, and the value that there is, or else this fault
abbrev pub given : {X : Type 0} → Option X → ObjectError → Reader X
given (Some x) fault = gives x
given None fault = λ bytes. Err fault

-- no bytes, and this value where it passes the test, or else this fault
abbrev pub tested : {X : Type 0} → Bool → ObjectError → X → Reader X
tested test fault x = given (if test then Some x else None) fault

-- so many bytes
abbrev pub field_at : ℕ → Reader (List ℕ)
field_at n = λ bytes. if nat_lt (length bytes) n then Err Short else Ok (take n bytes, drop n bytes)

abbrev pub number_at : Width → Reader ℕ
number_at w = field_at (byte_len w) >>= λ bytes. gives (from_le_bytes w bytes)

-- so many items, of which each is read after those before it
unfoldable pub items_at : {X : Type 0} → (List X → Reader X) → ℕ → List X → Reader (List X)
items_at item zero before = gives before
items_at item (suc n) before = item before >>= λ x. items_at item n (before ++ x ∷ [])

-- what is read in a field of so many bytes, once the whole field is there
abbrev pub kept : {X : Type 0} → Result (X × List ℕ) ObjectError → Reader X
kept (Ok x) = gives x.0
kept (Err e) = λ bytes. Err e

unfoldable pub within_at : {X : Type 0} → ℕ → Reader X → Reader X
within_at n r = field_at n >>= λ bytes. kept (r bytes)

-- ---- the head

unfoldable pub magic_at : Reader (List ℕ)
magic_at = field_at 4 >>= λ bytes. tested (bytes_eq bytes (codes "HICP")) Magic bytes

unfoldable pub version_at : Reader ℕ
version_at = number_at w8 >>= λ n. tested (n == 1) Version n

unfoldable pub count_at : CountName → Width → ℕ → ℕ → Reader ℕ
count_at at w low high = number_at w >>= λ n. tested (nat_le low n && nat_le n high) (Count at) n

pub record Counts : Type 0 where
  pub tasks : ℕ
  pub segments : ℕ
  pub code : ℕ
  pub words : ℕ

abbrev pub counts : ℕ → ℕ → ℕ → ℕ → Counts
counts tasks segments code words = record { tasks = tasks; segments = segments; code = code; words = words }

unfoldable pub counts_at : Reader Counts
counts_at = do
  tasks ← count_at names.Tasks w8 1 most_tasks
  segments ← count_at names.Segments w16 0 most_segments
  code ← count_at names.Code w32 1 most_instructions
  words ← count_at names.Words w32 0 most_records
  gives (counts tasks segments code words)

-- ---- the items, with their numbers from 0

-- the entry of a task, below the number of instructions
unfoldable pub entry_at : ℕ → List ℕ → Reader ℕ
entry_at code before = number_at w32 >>= λ n. tested (nat_lt n code) (Entry (length before)) n

abbrev pub kind_from : ℕ → Option SegKind
kind_from zero = Some Plain
kind_from (suc zero) = Some Merge
kind_from (suc (suc n)) = None

unfoldable pub kind_at : List SegKind → Reader SegKind
kind_at before = number_at w8 >>= λ n. given (kind_from n) (BadKind (length before))

-- a record stands above another by segment, then by offset
abbrev pub is_above : DataRec → DataRec → Bool
is_above low high = nat_lt low.segment high.segment || (low.segment == high.segment && nat_lt low.offset high.offset)

abbrev pub is_above_last : Option DataRec → DataRec → Bool
is_above_last None d = true
is_above_last (Some low) d = is_above low d

-- a record may stand next after the one before it
unfoldable pub is_next : ℕ → Option DataRec → DataRec → Bool
is_next segments before d = (nat_lt d.segment segments && nat_le 1 d.value) && is_above_last before d

-- segment, offset and value
unfoldable pub fields_at : Reader DataRec
fields_at = do
  segment ← number_at w16
  offset ← number_at w32
  value ← number_at w64
  gives (record { segment = segment; offset = offset; value = value })

abbrev pub last : {X : Type 0} → List X → Option X
last xs = slice_get xs (length xs - 1)

unfoldable pub data_at : ℕ → List DataRec → Reader DataRec
data_at segments before = fields_at >>= λ d. tested (is_next segments (last before) d) (BadData (length before)) d

unfoldable pub instruction_at : List Instr → Reader Instr
instruction_at before = field_at 8 >>= λ bytes. given (instr_at bytes) (Code (length before))

-- ---- the whole

unfoldable pub body_at : Counts → Reader Parts
body_at n = do
  entries ← within_at (4 * n.tasks) (items_at (entry_at n.code) n.tasks [])
  kinds ← within_at n.segments (items_at kind_at n.segments [])
  words ← items_at (data_at n.segments) n.words []
  code ← items_at instruction_at n.code []
  gives (parts entries kinds words code)

unfoldable pub parts_at : Reader Parts
parts_at = magic_at >>= λ _. version_at >>= λ _. counts_at >>= body_at

-- all of the bytes
abbrev pub ended : {X : Type 0} → Result (X × List ℕ) ObjectError → Result X ObjectError
ended (Ok x) = if length x.1 == 0 then Ok x.0 else Err Long
ended (Err e) = Err e

-- the object that the bytes spell, or the first fault
unfoldable pub object_at : List ℕ → Result Parts ObjectError
object_at bytes = ended (parts_at bytes)

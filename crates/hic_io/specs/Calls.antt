-- What one call of a host does, and what calls without a fault do in a row.
use Rattle.std.specs.Prelude.{◌≡◌, ◌≢◌, ◌⊎◌, ◌<◌, ◌≤◌, ◌+◌, ◌-◌, ◌^◌, ℕ, false, ◌||◌, List, [], length, take, Result, is_some, IsTrue, IfSome, MatchResult, IsSome, option_and_then, None}
use Rattle.std.specs.FinMap as map
use Rattle.std.specs.Io.KnownBytes.{prepend_known, append_known, IsAtEnd}
use Rattle.hic_io.specs.HostState.{HostState, IsCalm, one_more, had_fault}
use Rattle.hic_io.specs.declared.writing.Side.{Side}
use Rattle.hic_io.specs.declared.writing.Side.TheVariants.{Output, Error}

-- a count is greater than before, or stands at its last value
abbrev pub Rose : ℕ → ℕ → Type 0
Rose before now = (before < now) ⊎ (now ≡ 2 ^ 64 - 1)

-- a count rose exactly where this holds, and else it stays
pub record RoseIff (P : Type 0) (before now : ℕ) : Type 0 where
  pub rose : P → Rose before now
  pub stays : (P → ⊥) → now ≡ before

-- the same things are told
pub record TellsAlike (old new : HostState) : Type 0 where
  pub files : is_some new.files ≡ is_some old.files
  pub left : is_some new.left ≡ is_some old.left
  pub out : is_some new.out ≡ is_some old.out
  pub err : is_some new.err ≡ is_some old.err

-- what holds of each call, whether it fails or not
pub record IsCall (old new : HostState) : Type 0 where
  pub files : new.files ≡ old.files
  pub calls : new.calls ≡ one_more old.calls
  pub late : new.late ≡ (old.late || had_fault old.read_faults old.write_faults)
  pub sound : new.sound ≡ old.sound
  pub told : TellsAlike old new

-- no fault came between
pub record IsQuiet (old new : HostState) : Type 0 where
  pub files : new.files ≡ old.files
  pub read_faults : new.read_faults ≡ old.read_faults
  pub write_faults : new.write_faults ≡ old.write_faults
  pub sound : new.sound ≡ old.sound
  pub in_time : IsCalm old → new.late ≡ false

-- the named file is open from its start
pub record Opened (old new : HostState) (name : List ℕ) : Type 0 where
  pub quiet : IsQuiet old new
  pub left : new.left ≡ option_and_then (λ files. map.get files name) old.files
  pub found : IfSome old.files (λ files. IsSome (map.get files name))
  pub out : new.out ≡ old.out
  pub err : new.err ≡ old.err
  pub room : new.room ≡ old.room

-- these bytes were taken from the open file, without a fault
pub record Took (old new : HostState) (bytes : List ℕ) : Type 0 where
  pub quiet : IsQuiet old new
  pub left : old.left ≡ prepend_known bytes new.left
  pub out : new.out ≡ old.out
  pub err : new.err ≡ old.err
  pub room : new.room ≡ old.room

-- the outputs took these bytes, without a fault
pub record Wrote (old new : HostState) (to_out to_err : List ℕ) : Type 0 where
  pub quiet : IsQuiet old new
  pub left : new.left ≡ old.left
  pub out : new.out ≡ append_known old.out to_out
  pub err : new.err ≡ append_known old.err to_err
  pub room : IsTrue old.sound → new.room + (length to_out + length to_err) ≡ old.room

-- what the output and the error side take of bytes that go to one side
abbrev pub on_output : Side → List ℕ → List ℕ
on_output Output bytes = bytes
on_output Error bytes = []

abbrev pub on_error : Side → List ℕ → List ℕ
on_error Output bytes = []
on_error Error bytes = bytes

-- one side took these bytes, without a fault
abbrev pub WroteTo : Side → HostState → HostState → List ℕ → Type 0
WroteTo side old new bytes = Wrote old new (on_output side bytes) (on_error side bytes)

-- no byte was taken or written
pub record KeepsBytes (old new : HostState) : Type 0 where
  pub left : new.left ≡ old.left
  pub out : new.out ≡ old.out
  pub err : new.err ≡ old.err
  pub room : new.room ≡ old.room

-- a fault of an `open_file` or a `read`
pub record FailsToRead (old new : HostState) : Type 0 where
  pub bytes : KeepsBytes old new
  pub later : old.read_faults ≤ new.read_faults
  pub rose : Rose old.read_faults new.read_faults
  pub write_faults : new.write_faults ≡ old.write_faults

-- a fault of a write
pub record FailsToWrite (old new : HostState) : Type 0 where
  pub bytes : KeepsBytes old new
  pub later : old.write_faults ≤ new.write_faults
  pub rose : Rose old.write_faults new.write_faults
  pub read_faults : new.read_faults ≡ old.read_faults

-- `open_file`: a sound host fails only where no file has the name
pub record Opens {E : Type 0} (old new : HostState) (name : List ℕ)
    (result : Result (Unit {0}) E) : Type 0 where
  pub call : IsCall old new
  pub gives : MatchResult result
      (λ _. Opened old new name)
      (λ _. FailsToRead old new × (IsTrue old.sound → IfSome old.files (λ files. map.get files name ≡ None)))

-- `read` into `buf`: it gives no byte only at the end or with no room, and a sound host never fails
pub record Reads {E : Type 0} (old new : HostState) (result : Result ℕ E) (buf : List ℕ) : Type 0 where
  pub call : IsCall old new
  pub gives : MatchResult result
      (λ n. (n ≤ length buf) × Took old new (take n buf) × (n ≡ 0 → 0 < length buf → IsAtEnd old.left))
      (λ _. FailsToRead old new × (IsTrue old.sound → ⊥))

-- a write to one side: it takes no byte only of an empty piece,
-- and a sound host fails only where no room is left for a piece
pub record Writes {E : Type 0} (side : Side) (old new : HostState) (bytes : List ℕ)
    (result : Result ℕ E) : Type 0 where
  pub call : IsCall old new
  pub gives : MatchResult result
      (λ n. (n ≤ length bytes) × WroteTo side old new (take n bytes) × (n ≡ 0 → bytes ≡ []))
      (λ _. FailsToWrite old new × (IsTrue old.sound → (bytes ≢ []) × (old.room ≡ 0)))

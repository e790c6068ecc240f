-- What reading a whole file does.
use Rattle.std.specs.Prelude.{◌≡◌, ◌≢◌, ◌<◌, ◌≤◌, ◌+◌, ◌⊎◌, ◌↔◌, ℕ, false, List, [], length, Some, IfSome, IsSomeAnd, IsSome, Result, Err, IfOk, IsErrOf, Vec}
use Rattle.std.specs.FinMap as map
use Rattle.hic_io.specs.HostState.{HostState, IsCalm}
use Rattle.hic_io.specs.Calls.{Opened, Took, IsCall, FailsToRead}
use Rattle.hic_io.specs.declared.reading.ReadRefusal.{ReadRefusal}
use Rattle.hic_io.specs.declared.reading.ReadRefusal.TheVariants.{Fault, TooLong}

-- the told files have this name
abbrev pub HasFile : HostState → List ℕ → Type 0
HasFile s name = IsSomeAnd s.files (λ files. IsSome (map.get files name))

-- these are the bytes of the file, where files are told
abbrev pub IsFile : HostState → List ℕ → List ℕ → Type 0
IsFile s name bytes = IfSome s.files (λ files. map.get files name ≡ Some bytes)

-- the file has more bytes than `max`, where files are told
abbrev pub IsLonger : HostState → List ℕ → ℕ → Type 0
IsLonger s name max = IfSome s.files (λ files. IsSomeAnd (map.get files name) (λ bytes. max < length bytes))

-- what reading leaves, with or without a fault
pub record OnlyReads (old new : HostState) : Type 0 where
  pub files : new.files ≡ old.files
  pub out : new.out ≡ old.out
  pub err : new.err ≡ old.err
  pub sound : new.sound ≡ old.sound
  pub room : new.room ≡ old.room
  pub write_faults : new.write_faults ≡ old.write_faults
  pub in_time : IsCalm old → new.late ≡ false

-- the file was opened, and these are its first bytes
pub record ReadSoFar (old new : HostState) (name bytes : List ℕ) : Type 0 where
  pub middle : HostState
  pub opened : Opened old middle name
  pub took : Took middle new bytes

-- a call failed, before the file was open or after these bytes of it were read
pub record ReadToFault (old new : HostState) (name bytes : List ℕ) : Type 0 where
  pub before : HostState
  pub read : ((before ≡ old) × (bytes ≡ [])) ⊎ ReadSoFar old before name bytes
  pub call : IsCall before new
  pub fails : FailsToRead before new

-- these bytes of the file were read, and the answer fits them: too long exactly with one byte more than `max`
pub record ReadsFile {A : Type 0} (old new : HostState) (name : List ℕ) (max : ℕ)
    (result : Result (Vec ℕ A) ReadRefusal) : Type 0 where
  pub bytes : List ℕ
  pub most : length bytes ≤ max + 1
  pub ok : IfOk result (λ v. v.items ≡ bytes)
  pub too_long : IsErrOf result TooLong ↔ (length bytes ≡ max + 1)
  pub fault : IsErrOf result Fault → ReadToFault old new name bytes
  pub no_fault : result ≢ Err Fault → ReadSoFar old new name bytes

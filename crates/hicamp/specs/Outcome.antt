-- What a run of the program leaves of a host, beside what was asked.
use Rattle.std.specs.Prelude.{◌≡◌, ◌≢◌, ◌≤◌, ◌+◌, ◌⊎◌, ◌++◌, ℕ, false, List, length, IsTrue, Option, Some, None, IfSome, IsSome}
use Rattle.std.specs.FinMap as map
use Rattle.std.specs.Io.KnownBytes.{append_known}
use Rattle.hic_io.specs.HostState.{HostState, Files, IsCalm}
use Rattle.hic_io.specs.Calls.{RoseIff}
use Rattle.hic_io.specs.WholeFile.{OnlyReads}
use Rattle.hic_object.specs.Parts.{Parts}
use Rattle.hicamp.specs.Asked.{Answer, asked_of_file, asked_of_schedule, asked_of_input}
use Rattle.hic_plain.specs.Machine.{Machine}
use Rattle.hicamp.specs.Limits.{most_bytes}
use Rattle.hicamp.specs.declared.files.FileKind.{FileKind}
use Rattle.command_line.specs.Asked.{Asked, Run, Runs, Lists, Assembles, Disassembles, Demonstrates}
use Rattle.hicamp.specs.declared.status.Status.{Status}
use Rattle.hicamp.specs.declared.status.Status.TheVariants as status
use Rattle.hicamp.specs.declared.status.Status.TheVariants.{Usage, ReadFault, WriteFault, NoMemory}

-- ---- what was written

-- the bytes written to each side and the status are those of the answer
pub record Answers (old new : HostState) (got : Status) (a : Answer) : Type 0 where
  pub out : new.out ≡ append_known old.out a.out
  pub err : new.err ≡ append_known old.err a.err
  pub status : got ≡ a.status

-- what a side took is a front of these bytes
pub record TookFront (old new : Option (List ℕ)) (bytes : List ℕ) : Type 0 where
  pub front : List ℕ
  pub rest : List ℕ
  pub split : front ++ rest ≡ bytes
  pub took : new ≡ append_known old front

-- each side took a front of what the answer has for it
pub record TookFronts (old new : HostState) (a : Answer) : Type 0 where
  pub out : TookFront old.out new.out a.out
  pub err : TookFront old.err new.err a.err

-- nothing was written
pub record WroteNothing (old new : HostState) : Type 0 where
  pub out : new.out ≡ old.out
  pub err : new.err ≡ old.err

-- ---- faults and want of memory

-- the status tells neither a fault of the host nor want of memory
pub record IsUnbroken (got : Status) : Type 0 where
  pub no_read_fault : got ≢ ReadFault
  pub no_write_fault : got ≢ WriteFault
  pub some_memory : got ≢ NoMemory

-- status 6 is told exactly where the count of read faults rose
abbrev pub TellsReadFault : HostState → HostState → Status → Type 0
TellsReadFault old new got = RoseIff (got ≡ ReadFault) old.read_faults new.read_faults

-- status 7 is told exactly where the count of write faults rose
abbrev pub TellsWriteFault : HostState → HostState → Status → Type 0
TellsWriteFault old new got = RoseIff (got ≡ WriteFault) old.write_faults new.write_faults

-- after a read fault, and where memory ran out, nothing was written
abbrev pub IsSilent : HostState → HostState → Status → Type 0
IsSilent old new got = (got ≡ ReadFault) ⊎ (got ≡ NoMemory) → WroteNothing old new

-- no fault is told
pub record TellsNoFault (got : Status) : Type 0 where
  pub no_read_fault : got ≢ ReadFault
  pub no_write_fault : got ≢ WriteFault

-- the machine that is handed out: with the whole of an answer its last one, and none after a fault or want of memory
pub record Leaves (got : Status) (last : Option Machine) (a : Answer) : Type 0 where
  pub whole : IsUnbroken got → last ≡ a.last
  pub broken : (IsUnbroken got → ⊥) → last ≡ None

-- a status before a run: a file is refused, or a fault or want of memory is told
abbrev pub IsEarly : Status → Type 0
IsEarly status.Refused = Unit {0}
IsEarly status.ReadFault = Unit {0}
IsEarly status.WriteFault = Unit {0}
IsEarly status.NoMemory = Unit {0}
IsEarly got = ⊥

-- a status after a run: how it ended, or that a write failed or memory was wanted
abbrev pub IsRunStatus : Status → Type 0
IsRunStatus status.Done = Unit {0}
IsRunStatus status.Trapped = Unit {0}
IsRunStatus status.Budget = Unit {0}
IsRunStatus status.WriteFault = Unit {0}
IsRunStatus status.NoMemory = Unit {0}
IsRunStatus got = ⊥

-- no call of the host came after a fault
abbrev pub EndsInTime : HostState → HostState → Type 0
EndsInTime old new = IsCalm old → new.late ≡ false

-- there is room for both sides of the answer
abbrev pub HasRoomFor : HostState → Answer → Type 0
HasRoomFor s a = length a.out + length a.err ≤ s.room

-- ---- what the words name

-- the files have one that is named, if it is
abbrev pub HasFile : Option (List ℕ) → Files → Type 0
HasFile None files = Unit {0}
HasFile (Some name) files = IsSome (map.get files name)

-- the files have every one that a run names
abbrev pub HasFiles : Run → Files → Type 0
HasFiles r files = IsSome (map.get files r.program) × HasFile r.schedule files × HasFile r.input files

-- the files have every one that the words name
abbrev pub HasNamed : Option Asked → Files → Type 0
HasNamed None files = Unit {0}
HasNamed (Some (Runs r)) files = HasFiles r files
HasNamed (Some (Lists r)) files = HasFiles r files
HasNamed (Some (Assembles source)) files = IsSome (map.get files source)
HasNamed (Some (Disassembles program)) files = IsSome (map.get files program)
HasNamed (Some (Demonstrates d)) files = Unit {0}

-- usage is told exactly where the words are refused, if the message on it is written and there is memory to read them
abbrev pub TellsUsage : Option Asked → Status → Type 0
TellsUsage None got = (got ≡ Usage) ⊎ (got ≡ WriteFault) ⊎ (got ≡ NoMemory)
TellsUsage (Some r) got = got ≢ Usage

-- ---- what is left after each part

-- the answer is given as a whole, or a fault or want of memory left a front of it
pub record Gives (old new : HostState) (got : Status) (a : Answer) : Type 0 where
  pub whole : IsUnbroken got → Answers old new got a
  pub front : TookFronts old new a

-- what is left after an answer that reads no file: it is given, or a write failed, or memory was wanted before any byte
pub record Fulfils (old new : HostState) (got : Status) (a : Answer) : Type 0 where
  pub gives : Gives old new got a
  pub no_read_fault : got ≢ ReadFault
  pub read_faults : new.read_faults ≡ old.read_faults
  pub write_fault : TellsWriteFault old new got
  pub no_memory : got ≡ NoMemory → WroteNothing old new
  pub in_time : EndsInTime old new
  pub sound : IsTrue old.sound → HasRoomFor old a → got ≢ WriteFault

-- what is left after an answer that depends on the files, and needs some of them
pub record Serves (old new : HostState) (got : Status) (asks : Files → Answer) (Needs : Files → Type 0) : Type 0 where
  pub gives : IfSome old.files (λ files. Gives old new got (asks files))
  pub read_fault : TellsReadFault old new got
  pub write_fault : TellsWriteFault old new got
  pub silent : IsSilent old new got
  pub in_time : EndsInTime old new
  pub sound : IsTrue old.sound → IfSome old.files (λ files. Needs files → HasRoomFor old (asks files) → TellsNoFault got)

-- files were read, without a fault
pub record HasRead (old new : HostState) : Type 0 where
  pub only : OnlyReads old new
  pub read_faults : new.read_faults ≡ old.read_faults

-- after a file was read, what is asked goes on with its bytes
pub record ReadsBytes (old new : HostState) (kind : FileKind) (name bytes : List ℕ) : Type 0 where
  pub read : HasRead old new
  pub limit : length bytes ≤ most_bytes kind
  pub goes_on : IfSome old.files (λ files. (next : List ℕ → Answer) → asked_of_file kind (map.get files name) next ≡ next bytes)

-- after a program or a source was read, what is asked goes on with its object
pub record ReadsObject (asks : Option (List ℕ) → (Parts → Answer) → Answer) (old new : HostState) (name : List ℕ) (o : Parts) : Type 0 where
  pub read : HasRead old new
  pub goes_on : IfSome old.files (λ files. (next : Parts → Answer) → asks (map.get files name) next ≡ next o)

-- after the schedule was read, for so many tasks, what is asked goes on with these entries
pub record ReadsSchedule (old new : HostState) (name : Option (List ℕ)) (tasks : ℕ) (entries : List ℕ) : Type 0 where
  pub read : HasRead old new
  pub goes_on : IfSome old.files (λ files. (next : List ℕ → Answer) → asked_of_schedule name tasks files next ≡ next entries)

-- after the input was read, what is asked goes on with these bytes
pub record ReadsInput (old new : HostState) (name : Option (List ℕ)) (input : List ℕ) : Type 0 where
  pub read : HasRead old new
  pub goes_on : IfSome old.files (λ files. (next : List ℕ → Answer) → asked_of_input name files next ≡ next input)

-- there is nothing of a kind to go on with: it is refused, whatever would follow, or memory was wanted
pub data Refuses (T : Type 0) (old new : HostState) (got : Status) (asks : (T → Answer) → Answer) : Type 0 where
  WantsMemory : got ≡ NoMemory → new ≡ old → Refuses T old new got asks
  Refused : (x : Answer) → Fulfils old new got x → ((next : T → Answer) → asks next ≡ x) → Refuses T old new got asks

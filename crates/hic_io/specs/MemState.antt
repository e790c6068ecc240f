-- What a host in memory holds, and what its calls do to it.
use Rattle.std.specs.Prelude.{◌≡◌, ◌==◌, ◌-◌, ◌^◌, ◌<◌, ◌++◌, ℕ, zero, suc, Bool, true, false, List, [], ◌∷◌, length, take, drop, min, Option, Some, None, Result, Ok, IsOk, IsErr, MatchOption}
use Rattle.std.specs.List.{list_any}
use Rattle.std.specs.FinMap as map
use Rattle.hic_io.specs.HostState.{HostState, Files}
use Rattle.hic_io.specs.Counts.{no_call, with_call, with_read_fault, with_write_fault, AreInRange}
use Rattle.hic_io.specs.declared.counts.Counts.{Counts}

-- `failing` has the numbers of the calls that are to fail, `most` is the most bytes of one call,
-- and `room` is what both sides together still take
pub record MemState : Type 0 where
  pub files : Files
  pub left : List ℕ
  pub out : List ℕ
  pub err : List ℕ
  pub failing : List ℕ
  pub most : ℕ
  pub room : ℕ
  pub counts : Counts

abbrev pub is_empty : List ℕ → Bool
is_empty [] = true
is_empty (x ∷ xs) = false

-- it tells everything, and is sound where no call is to fail
abbrev pub host_state : MemState → HostState
host_state m = record {
  files = Some m.files;
  left = Some m.left;
  out = Some m.out;
  err = Some m.err;
  read_faults = m.counts.read_faults;
  write_faults = m.counts.write_faults;
  calls = m.counts.calls;
  late = m.counts.late;
  sound = is_empty m.failing;
  room = m.room;
}

-- no file, nothing written, no failing call and no limit of a call
abbrev pub fresh_state : ℕ → MemState
fresh_state room = record {
  files = map.empty;
  left = [];
  out = [];
  err = [];
  failing = [];
  most = 2 ^ 32 - 1;
  room = room;
  counts = no_call;
}

-- one more file, in place of one of that name
abbrev pub with_file : MemState → List ℕ → List ℕ → MemState
with_file m name bytes = record m { files = map.insert m.files name bytes }

-- the next call is one of those that are to fail
abbrev pub is_listed : MemState → Bool
is_listed m = list_any (λ call. call == m.counts.calls) m.failing

-- a call is counted
abbrev pub counted : MemState → MemState
counted m = record m { counts = with_call m.counts }

abbrev pub read_fault : MemState → MemState
read_fault m = record m { counts = with_read_fault (with_call m.counts) }

abbrev pub write_fault : MemState → MemState
write_fault m = record m { counts = with_write_fault (with_call m.counts) }

-- what there is, unless the call fails
abbrev pub unless : {A : Type 0} → Bool → Option A → Option A
unless true answer = None
unless false answer = answer

-- the bytes that an `open_file` finds, or None where it fails
abbrev pub opened_bytes : MemState → List ℕ → Option (List ℕ)
opened_bytes m name = unless (is_listed m) (map.get m.files name)

-- how many bytes a `read` into a buffer of this size gives, or None where it fails
abbrev pub read_count : MemState → ℕ → Option ℕ
read_count m size = unless (is_listed m) (Some (min size (min (length m.left) m.most)))

-- a piece that is not empty meets no room
abbrev pub lacks_room : ℕ → List ℕ → Bool
lacks_room room [] = false
lacks_room zero (x ∷ xs) = true
lacks_room (suc n) (x ∷ xs) = false

-- how many of the bytes a write takes, or None where it fails
abbrev pub write_count : MemState → List ℕ → Option ℕ
write_count m bytes =
    unless (is_listed m) (unless (lacks_room m.room bytes) (Some (min (length bytes) (min m.most m.room))))

-- `open_file` fails exactly where `opened_bytes` has none, and else leaves those bytes
pub record MemOpens {E : Type 0} (old new : MemState) (name : List ℕ)
    (result : Result (Unit {0}) E) : Type 0 where
  pub exact : MatchOption (opened_bytes old name)
      (IsErr result × (new ≡ read_fault old))
      (λ bytes. IsOk result × (new ≡ record (counted old) { left = bytes }))

-- `read` fails exactly where `read_count` has none, and then leaves the buffer;
-- else it moves so many bytes to its front, and leaves what is behind them
pub record MemReads {E : Type 0} (old new : MemState) (before : List ℕ) (result : Result ℕ E)
    (buf : List ℕ) : Type 0 where
  pub exact : MatchOption (read_count old (length buf))
      (IsErr result × (new ≡ read_fault old) × (buf ≡ before))
      (λ n. (result ≡ Ok n) × (buf ≡ take n old.left ++ drop n before)
      × (new ≡ record (counted old) { left = drop n old.left }))

-- `write_out` fails exactly where `write_count` has none, and else appends so many bytes
pub record MemWritesOut {E : Type 0} (old new : MemState) (bytes : List ℕ)
    (result : Result ℕ E) : Type 0 where
  pub exact : MatchOption (write_count old bytes)
      (IsErr result × (new ≡ write_fault old))
      (λ n. (result ≡ Ok n)
      × (new ≡ record (counted old) { out = old.out ++ take n bytes; room = old.room - n }))

-- `write_err`: the same on the error side
pub record MemWritesErr {E : Type 0} (old new : MemState) (bytes : List ℕ)
    (result : Result ℕ E) : Type 0 where
  pub exact : MatchOption (write_count old bytes)
      (IsErr result × (new ≡ write_fault old))
      (λ n. (result ≡ Ok n)
      × (new ≡ record (counted old) { err = old.err ++ take n bytes; room = old.room - n }))

-- the counts fit, and a call takes at least a byte
pub record IsInRange (m : MemState) : Type 0 where
  pub counts : AreInRange m.counts
  pub takes : 0 < m.most

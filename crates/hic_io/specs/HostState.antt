-- What a host is seen as: its files, its two outputs and its counts.
use Rattle.std.specs.Prelude.{◌≡◌, ◌+◌, ◌-◌, ◌^◌, min, ◌||◌, nat_lt, ℕ, Bool, false, List, Option}
use Rattle.std.specs.Ordering.{nat_cmp}
use Rattle.std.specs.Cmp.Lexicographic.{slice_cmp}
use Rattle.std.specs.FinMap as map

-- a finite map from name to bytes
abbrev pub Files : Type 0
Files = map.FinMap (slice_cmp nat_cmp) (List ℕ)

-- What a host may tell is None where it does not tell it: its files, the bytes left of the open file,
-- and the bytes that each output took. `late` says that a call came after a fault.
-- A host that is `sound` fails only for want of a file or of room.
-- `room` is how many bytes its two outputs together still take.
pub record HostState : Type 0 where
  pub files : Option Files
  pub left : Option (List ℕ)
  pub out : Option (List ℕ)
  pub err : Option (List ℕ)
  pub read_faults : ℕ
  pub write_faults : ℕ
  pub calls : ℕ
  pub late : Bool
  pub sound : Bool
  pub room : ℕ

-- one more, up to the last value of a count, where it stands still
abbrev pub one_more : ℕ → ℕ
one_more n = min (n + 1) (2 ^ 64 - 1)

-- a fault came, by the two counts
abbrev pub had_fault : (read_faults write_faults : ℕ) → Bool
had_fault read_faults write_faults = nat_lt 0 read_faults || nat_lt 0 write_faults

-- no fault so far, and no call after one
pub record IsCalm (s : HostState) : Type 0 where
  pub reads : s.read_faults ≡ 0
  pub writes : s.write_faults ≡ 0
  pub in_time : s.late ≡ false

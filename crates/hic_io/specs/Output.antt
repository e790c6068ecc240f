-- What writing to one side and buffered output do.
use Rattle.std.specs.Prelude.{◌≡◌, ◌<◌, ℕ, List, [], ◌++◌, length, take, drop}
use Rattle.hic_io.specs.HostState.{HostState}
use Rattle.hic_io.specs.Calls.{Rose, Wrote, WroteTo, IsCall, FailsToWrite}
use Rattle.hic_io.specs.declared.writing.Side.{Side}
use Rattle.hic_io.specs.declared.writing.Side.TheVariants.{Output}

-- a side took these bytes, and then a write failed
pub record WroteThenFailed (side : Side) (old new : HostState) (bytes : List ℕ) : Type 0 where
  pub before : HostState
  pub wrote : WroteTo side old before bytes
  pub call : IsCall before new
  pub fails : FailsToWrite before new

-- a side took a front of these bytes and not all, and then a write failed
pub record WrotePart (side : Side) (old new : HostState) (bytes : List ℕ) : Type 0 where
  pub count : ℕ
  pub short : count < length bytes
  pub front : WroteThenFailed side old new (take count bytes)
  pub rose : Rose old.write_faults new.write_faults

-- without a fault, the output took the front of these bytes, up to those that are kept
pub record Puts (old new : HostState) (bytes kept : List ℕ) : Type 0 where
  pub gone : List ℕ
  pub split : gone ++ kept ≡ bytes
  pub wrote : Wrote old new gone []

-- with a write fault, the output took a front of what was kept and put;
-- of what was kept the rest is still kept, and of what was put nothing is
pub record KeepsUnwritten (old new : HostState) (kept put kept_now : List ℕ) : Type 0 where
  pub part : WrotePart Output old new (kept ++ put)
  pub keeps : kept_now ≡ drop part.count kept

-- What a `RealHost` is seen as, which holds its counts alone.
use Rattle.std.specs.Prelude.{false, None}
use Rattle.hic_io.specs.HostState.{HostState}
use Rattle.hic_io.specs.declared.counts.Counts.{Counts}

-- it tells no bytes, and is not sound
abbrev pub untold : Counts → HostState
untold c = record {
  files = None;
  left = None;
  out = None;
  err = None;
  read_faults = c.read_faults;
  write_faults = c.write_faults;
  calls = c.calls;
  late = c.late;
  sound = false;
  room = 0;
}

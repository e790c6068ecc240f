use Rattle.std.proofs.Common.{length, ◌+◌, ◌-◌, ◌≤◌, take}
use Rattle.hic_io.specs.Calls.{WroteTo}
use Rattle.hic_io.proofs.writing.write_front.Given as goal

abbrev pub invariant-loop-done : goal.invariant-loop-done
invariant-loop-done g l = record {
  in_range : l.done ≤ length l.bytes;
  wrote : WroteTo l.side (g.H.Host.state l.fn.host) (g.H.Host.state l.host) (take l.done l.bytes);
  calls : (g.H.Host.state l.host).calls ≤ (g.H.Host.state l.fn.host).calls + l.done;
}

abbrev pub decreases-loop-done : goal.decreases-loop-done
decreases-loop-done g l = length l.bytes - l.done

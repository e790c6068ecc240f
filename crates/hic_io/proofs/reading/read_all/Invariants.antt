use Rattle.std.proofs.Common.{◌≤◌, ◌-◌, ◌+◌, vec_len}
use Rattle.hic_io.specs.WholeFile.{ReadSoFar}
use Rattle.hic_io.proofs.reading.read_all.Given as goal

abbrev pub invariant-loop-bytes : goal.invariant-loop-bytes
invariant-loop-bytes g l = record {
  room : vec_len l.bytes ≤ l.max;
  calls : (g.H.Host.state l.host).calls ≤ (g.H.Host.state l.fn.host).calls + (vec_len l.bytes + 1);
  so_far : ReadSoFar (g.H.Host.state l.fn.host) (g.H.Host.state l.host) l.name l.bytes.items;
}

abbrev pub decreases-loop-bytes : goal.decreases-loop-bytes
decreases-loop-bytes g l = l.max - vec_len l.bytes

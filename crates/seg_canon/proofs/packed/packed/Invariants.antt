use Rattle.std.proofs.Common.{◌-◌}
use Rattle.seg_canon.proofs.Packing.{IsPackedFrom}
use Rattle.seg_canon.proofs.packed.packed.Given as goal

abbrev pub invariant-loop-done : goal.invariant-loop-done
invariant-loop-done g l = IsPackedFrom g.row.W l.words (g.row.W - l.done) l.bits

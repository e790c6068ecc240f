use Rattle.std.proofs.Common.{◌≡◌, length}
use Rattle.seg_canon.proofs.Packing.{AreUnpacked}
use Rattle.seg_canon.proofs.packed.unpack.Given as goal

abbrev pub invariant-loop-place : goal.invariant-loop-place
invariant-loop-place g l = record {
  long : length l.words ≡ g.row.W;
  done : AreUnpacked g.row.W l.entry.bits l.words l.place;
}

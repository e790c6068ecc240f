use Rattle.std.proofs.Common.{◌≡◌, length, take}
use Rattle.hic_machine.proofs.opening.kinds_of.Given as goal

abbrev pub invariant-loop-segment : goal.invariant-loop-segment
invariant-loop-segment l = record {
  kinds : l.kinds.items ≡ take l.segment l.object.kinds;
  count : l.segment-end ≡ length l.object.kinds;
}

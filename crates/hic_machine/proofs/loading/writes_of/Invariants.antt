use Rattle.std.proofs.Common.{◌≡◌, take}
use Rattle.hic_machine.specs.Loads.{AreLeft, writes_from}
use Rattle.hic_machine.proofs.loading.writes_of.Given as goal

abbrev pub invariant-loop-segment : goal.invariant-loop-segment
invariant-loop-segment l = record {
  writes : l.writes.items ≡ take l.segment (writes_from 0 l.object.kinds l.object.words);
  left : AreLeft l.object.words l.segment l.at;
}

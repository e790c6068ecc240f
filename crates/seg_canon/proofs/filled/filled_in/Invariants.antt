use Rattle.std.proofs.Common.{◌≤◌}
use Rattle.seg_canon.proofs.Filling.{IsFilled, told}
use Rattle.seg_canon.proofs.filled.filled_in.Given as goal

abbrev pub invariant-loop-place : goal.invariant-loop-place
invariant-loop-place g l = record {
  few : l.filled ≤ l.place;
  places : IsFilled l.words l.place (told l.filled l.last);
}

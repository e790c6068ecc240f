use Rattle.std.proofs.Common.{◌≡◌}
use Rattle.std.specs.FinMap as map
use Rattle.ref_counts.proofs.GivenUp.{GivesUp}
use Rattle.ref_counts.proofs.release.Given as goal

abbrev pub invariant-loop-line : goal.invariant-loop-line
invariant-loop-line g l = record {
  gives_up : GivesUp (g.M.HoldCounts.memory l.fn.mem) (g.M.HoldCounts.memory l.mem) l.fn.word;
  looks : l.steps ≡ l.fn.steps;
}

abbrev pub decreases-loop-line : goal.decreases-loop-line
decreases-loop-line g l = map.len (g.M.HoldCounts.memory l.mem).lines

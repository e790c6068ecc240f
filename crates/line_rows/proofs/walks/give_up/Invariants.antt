use Rattle.std.specs.FinMap as map
use Rattle.ref_counts.proofs.GivenUp.{GivesUp}
use Rattle.line_rows.proofs.walks.give_up.Given as goal

abbrev pub invariant-loop-line : goal.invariant-loop-line
invariant-loop-line g l = GivesUp (g.M.HoldCounts.memory l.fn.mem) (g.M.HoldCounts.memory l.mem) l.fn.word

abbrev pub decreases-loop-line : goal.decreases-loop-line
decreases-loop-line g l = map.len (g.M.HoldCounts.memory l.mem).lines

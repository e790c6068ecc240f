use Rattle.line_rows.specs.Kept.{AreKept}
use Rattle.line_rows.proofs.walks.walk.Given as goal

abbrev pub invariant-loop : goal.invariant-loop
invariant-loop g l = AreKept (g.M.HoldCounts.memory l.mem) l.words

abbrev pub invariant-loop-at : goal.invariant-loop-at
invariant-loop-at g l = AreKept (g.M.HoldCounts.memory l.mem) l.words

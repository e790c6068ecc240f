use Rattle.seg_read.proofs.Descending.{GoesDown}
use Rattle.seg_read.proofs.reading.read.Given as goal

abbrev pub invariant-loop-height : goal.invariant-loop-height
invariant-loop-height g l = GoesDown (g.M.HoldCounts.memory l.mem) l.fn.root l.offset l.height l.entry l.fn.steps l.steps

abbrev pub decreases-loop-height : goal.decreases-loop-height
decreases-loop-height g l = l.height

use Rattle.seg_read.specs.Founds.{AreZero}
use Rattle.seg_cursor.proofs.row.Row.next_place.Given as goal

-- the words before the place are 0
abbrev pub invariant-loop-place : goal.invariant-loop-place
invariant-loop-place l = AreZero l.self l.from l.place

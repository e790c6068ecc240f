use Rattle.hic_word.specs.Values.{Array}
use Rattle.hic_word.specs.InMemory.{RootIn}
use Rattle.seg_cursor.specs.Trails.{CursorFor}
use Rattle.form_rows.proofs.cursors.agreeing.Given as goal

abbrev pub invariant-loop-turn : goal.invariant-loop-turn
invariant-loop-turn g l = (A : Array) → RootIn (g.M.HoldCounts.memory l.mem) l.root A → CursorFor (g.M.HoldCounts.memory l.mem) l.cursor A

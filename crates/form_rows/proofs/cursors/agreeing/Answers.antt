use Rattle.form_rows.proofs.FirstCursor.{first_cursor}
use Rattle.form_rows.proofs.cursors.agreeing.Goals as goal

pub loop-turn-init : goal.loop-turn-init
loop-turn-init g c = λ A r. first_cursor r c.set.ensures

pub agrees-requires : goal.agrees-requires
agrees-requires g c = let (A, r) = c.requires in (A, r, c.loop-turn.invariant A r)

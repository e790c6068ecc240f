use Rattle.std.proofs.Common.{◌∙◌}
use Rattle.hic_word.specs.Values.{Ref, pairs}
use Rattle.hic_word.proofs.callers.Holds.{exchanges_reshapes}
use Rattle.hic_plain.specs.Turns.{next, with_reg}
use Rattle.hic_plain.proofs.RowLaws.{snap_closed, snap_of}
use Rattle.hic_task.proofs.IterRows.{closed_row, refused, snapshot_at}
use Rattle.hic_task.proofs.Rows.{went}
use Rattle.hic_task.proofs.task.Task.snap.Goals as goal

pub returns-in-Err-clause-row : goal.returns-in-Err-clause-row
returns-in-Err-clause-row g c =
    let (none, is) = refused _ c.iter.result.now c.in-Err.ensures in
    closed_row c.args.b c.iter.result.now c.iter.ensures none (c.trap_of.ensures ∙ is) (λ P t T e. snap_closed P t T c.args.a c.args.b e)

pub set-requires-clause-word : goal.set-requires-clause-word
set-requires-clause-word g c =
    let (Q, at, stands) = snapshot_at c.args.b c.iter.result.now c.iter.ensures c.requires.can_act c.in-Ok.ensures in
    (Ref (pairs Q.snapshot), stands)

pub returns-in-Ok-clause-row : goal.returns-in-Ok-clause-row
returns-in-Ok-clause-row g c = went (exchanges_reshapes c.set.ensures.exchanges) (λ P t T can.
    let (Q, at, stands) = snapshot_at c.args.b c.iter.result.now c.iter.ensures can c.in-Ok.ensures in
    (next (with_reg T c.args.a (Ref (pairs Q.snapshot))), c.set.ensures.task T (Ref (pairs Q.snapshot)) can.task_for stands, snap_of P t T c.args.a c.args.b Q at))

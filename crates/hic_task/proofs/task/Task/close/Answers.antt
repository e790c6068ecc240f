use Rattle.std.proofs.Common.{None, refl}
use Rattle.hic_plain.proofs.RowLaws.{close_closed, close_of}
use Rattle.hic_task.proofs.IterRows.{closed_after, closed_row, held_at, is_read, none_told, open_at, place, put_row, told}
use Rattle.hic_task.proofs.task.Task.close.Goals as goal

pub returns-then-not-is_open-clause-row : goal.returns-then-not-is_open-clause-row
returns-then-not-is_open-clause-row g c =
    closed_row c.args.a c.iter.result.now c.iter.ensures (none_told c.iter.result.now c.is_open.ensures c.if-not-is_open.true) refl (λ P t T e. close_closed P t T c.args.a e)

pub close-requires : goal.close-requires
close-requires g c = held_at (place c.get.result c.index-self-get.result c.requires c.get.ensures.number c.get.ensures.bound)

pub returns-in-Ok-clause-row : goal.returns-in-Ok-clause-row
returns-in-Ok-clause-row g c =
    let p = place c.get.result c.index-self-get.result c.requires c.get.ensures.number c.get.ensures.bound in
    let (q, opened, is) = told _ _ c.in-Ok.ensures.answer in
    let (exchange, stands) = closed_after _ c.close.ensures.none c.close.ensures.exchanges in
    put_row p c.close.new.self exchange (λ P t T can.
    let (Q, at, for) = open_at c.args.a _ (is_read p) q can opened in
    (None, stands, close_of P t T c.args.a Q at))

use Rattle.std.proofs.Common.{Err, Some, ap, subst, sym, ◌∙◌}
use Rattle.hic_isa.specs.declared.instr.Instr.TheVariants.{Store}
use Rattle.iter_regs.specs.Iters.{stored as put_in}
use Rattle.hic_plain.specs.Iters.{stored}
use Rattle.hic_plain.specs.Turns.{reg}
use Rattle.hic_plain.proofs.RowLaws.{store_of}
use Rattle.hic_task.specs.Acting.{ActsAlone}
use Rattle.hic_task.proofs.IterCalls.{has_room_told, store_done, store_refused, stored_for_plain}
use Rattle.hic_task.proofs.IterRows.{held_at, is_read, open_at, place, put_back_row, put_row, with_iter, word_live, word_room}
use Rattle.hic_task.proofs.task.Task.store.Goals as goal

pub store-requires-clause-held : goal.store-requires-clause-held
store-requires-clause-held g c = held_at (place c.get.result c.index-self-get.result c.requires c.get.ensures.number c.get.ensures.bound)

pub store-requires-clause-live : goal.store-requires-clause-live
store-requires-clause-live g c = word_live c.requires c.args.b c.word-word.result (c.word-word.ensures (g.M.HoldCounts.memory c.args.mem.now))

pub store-requires-clause-room : goal.store-requires-clause-room
store-requires-clause-room g c = word_room c.requires c.args.b c.word-word.result (c.word-word.ensures (g.M.HoldCounts.memory c.args.mem.now)) (g.met.M.LineMem.sound c.args.mem.now)

pub returns-in-Err-clause-row : goal.returns-in-Err-clause-row
returns-in-Err-clause-row g c =
    let m = g.M.HoldCounts.memory c.args.mem.now in
    let k = c.args.self.now in
    let p = place c.get.result c.index-self-get.result c.requires c.get.ensures.number c.get.ensures.bound in
    let (same, memory) = c.in-Err.ensures.unchanged in
    subst (λ n. ActsAlone m n k (with_iter k c.get.result c.store.new.self) (Store c.args.a c.args.b) (Err c.trap_of.result)) (sym memory) (put_back_row p same (store_refused c.args.a c.args.b c.in-Err.refusal _ (is_read p) c.in-Err.ensures.answer c.trap_of.ensures))

pub returns-in-Ok-clause-row : goal.returns-in-Ok-clause-row
returns-in-Ok-clause-row g c =
    let m = g.M.HoldCounts.memory c.args.mem.now in
    let p = place c.get.result c.index-self-get.result c.requires c.get.ensures.number c.get.ensures.bound in
    let (q, opened, room) = store_done _ c.in-Ok.ensures.answer in
    put_row p c.store.new.self c.in-Ok.ensures.exchanges (λ P t T can.
    let (Q, at, for) = open_at c.args.a _ (is_read p) q can opened in
    let v = reg T c.args.b in
    (Some (stored Q v), stored_for_plain for (c.in-Ok.ensures.open ∙ ap (λ o. put_in o c.word-word.result) opened) (c.word-word.ensures m P t T can), store_of P t T c.args.a c.args.b Q at (has_room_told for room)))

use Rattle.std.proofs.Common.{subst, sym, ◌∙◌}
use Rattle.hic_word.specs.Exchanges.{Exchanges}
use Rattle.hic_word.proofs.callers.Holds.{exchanges_reshapes}
use Rattle.hic_plain.specs.Iters.{loaded}
use Rattle.hic_plain.specs.Turns.{next, with_reg}
use Rattle.hic_plain.proofs.RowLaws.{load_closed, load_of}
use Rattle.hic_task.specs.Kept.{HoldsFew, task_words}
use Rattle.hic_task.proofs.IterCalls.{answered, can_read, load_looks_row, load_refused, loaded_for, loaded_task, loaded_words}
use Rattle.hic_task.proofs.IterRows.{closed_row, is_read, open_at, place, put_back_row, valid_at}
use Rattle.hic_task.proofs.Rows.{went}
use Rattle.hic_task.proofs.task.Task.load.Goals as goal

pub load-requires : goal.load-requires
load-requires g c = can_read (place c.get.result c.index-self-get.result c.requires c.get.ensures.number c.get.ensures.bound)

pub returns-in-Err-clause-row : goal.returns-in-Err-clause-row
returns-in-Err-clause-row g c =
    let p = place c.get.result c.index-self-get.result c.requires c.get.ensures.number c.get.ensures.bound in
    let (none, left, is) = load_refused (g.M.HoldCounts.memory c.args.mem.now) c.load.new.self _ c.in-Err.refusal _ c.in-Err.ensures.word c.in-Err.ensures.same in
    put_back_row p (left ∙ sym none) (closed_row c.args.b _ (is_read p) none (c.trap_of.ensures ∙ is) (λ P t T e. load_closed P t T c.args.a c.args.b e))

pub returns-in-Err-clause-looks : goal.returns-in-Err-clause-looks
returns-in-Err-clause-looks g c = λ P t T can.
    let p = place c.get.result c.index-self-get.result c.requires c.get.ensures.number c.get.ensures.bound in
    load_looks_row c.args.b _ (is_read p) can c.in-Err.ensures.looks

pub set-requires-clause-held : goal.set-requires-clause-held
set-requires-clause-held g c =
    let m = g.M.HoldCounts.memory c.args.mem.now in
    let p = place c.get.result c.index-self-get.result c.requires c.get.ensures.number c.get.ensures.bound in
    subst (HoldsFew m) (sym (loaded_words p c.load.new.self c.in-Ok.ensures.same)) c.requires.held

pub set-requires-clause-word : goal.set-requires-clause-word
set-requires-clause-word g c =
    let r = c.requires in
    let p = place c.get.result c.index-self-get.result r c.get.ensures.number c.get.ensures.bound in
    let (q, opened, told) = answered _ _ c.in-Ok.ensures.word in
    let (Q, at, for) = open_at c.args.b _ (is_read p) q r.can_act opened in
    (loaded Q, loaded_for (valid_at r.machine r.number r.task c.args.b Q r.can_act at) for told)

pub returns-in-Ok-clause-row : goal.returns-in-Ok-clause-row
returns-in-Ok-clause-row g c =
    let m = g.M.HoldCounts.memory c.args.mem.now in
    let n = g.M.HoldCounts.memory c.set.new.mem in
    let p = place c.get.result c.index-self-get.result c.requires c.get.ensures.number c.get.ensures.bound in
    let words = loaded_words p c.load.new.self c.in-Ok.ensures.same in
    let (q, opened, told) = answered _ _ c.in-Ok.ensures.word in
    went (exchanges_reshapes (subst (λ ws. Exchanges m n ws (task_words c.set.new.self)) words c.set.ensures.exchanges)) (λ P t T can.
    let (Q, at, for) = open_at c.args.b _ (is_read p) q can opened in
    (next (with_reg T c.args.a (loaded Q)), c.set.ensures.task T (loaded Q) (loaded_task p c.load.new.self c.in-Ok.ensures.same can) (loaded_for (valid_at P t T c.args.b Q can at) for told), load_of P t T c.args.a c.args.b Q at))

pub returns-in-Ok-clause-looks : goal.returns-in-Ok-clause-looks
returns-in-Ok-clause-looks g c = λ P t T can.
    let p = place c.get.result c.index-self-get.result c.requires c.get.ensures.number c.get.ensures.bound in
    let low = load_looks_row c.args.b _ (is_read p) can c.in-Ok.ensures.looks in
    rw c.set.ensures.looks low

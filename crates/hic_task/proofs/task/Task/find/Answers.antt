use Rattle.std.proofs.Common.{subst, sym, ◌≡◌, ◌+◌, ◌∙◌, ap, arith}
use Rattle.hic_plain.specs.Iters.{found_from}
use Rattle.hic_plain.specs.Step.{finds}
use Rattle.hic_plain.proofs.RowLaws.{find_closed, find_of}
use Rattle.hic_task.specs.Kept.{HoldsFew}
use Rattle.hic_task.proofs.IterCalls.{can_read, search_looks_row, search_refused, search_row, searched_words}
use Rattle.hic_task.proofs.IterRows.{closed_row, is_read, place, put_back_row}
use Rattle.hic_task.proofs.task.Task.find.Goals as goal

pub find-requires : goal.find-requires
find-requires g c = can_read (place c.get.result c.index-self-get.result c.requires c.get.ensures.number c.get.ensures.bound)

pub set_number-requires-clause-held : goal.set_number-requires-clause-held
set_number-requires-clause-held g c =
    let m = g.M.HoldCounts.memory c.args.mem.now in
    let p = place c.get.result c.index-self-get.result c.requires c.get.ensures.number c.get.ensures.bound in
    subst (HoldsFew m) (sym (searched_words p 0 c.in-Ok.found c.find.new.self c.in-Ok.ensures.search)) c.requires.held

pub returns-in-Err-clause-row : goal.returns-in-Err-clause-row
returns-in-Err-clause-row g c =
    let p = place c.get.result c.index-self-get.result c.requires c.get.ensures.number c.get.ensures.bound in
    let (none, left, is) = search_refused (g.M.HoldCounts.memory c.args.mem.now) 0 c.find.new.self c.in-Err.refusal _ (can_read p) c.in-Err.ensures.search in
    put_back_row p (left ∙ sym none) (closed_row c.args.b _ (is_read p) none (c.trap_of.ensures ∙ is) (λ P t T e. find_closed P t T c.args.a c.args.b e))

pub returns-in-Err-clause-looks : goal.returns-in-Err-clause-looks
returns-in-Err-clause-looks g c = λ P t T can.
    let p = place c.get.result c.index-self-get.result c.requires c.get.ensures.number c.get.ensures.bound in
    search_looks_row c.args.b _ (is_read p) can c.in-Err.ensures.looks

pub returns-in-Ok-clause-row : goal.returns-in-Ok-clause-row
returns-in-Ok-clause-row g c =
    let p = place c.get.result c.index-self-get.result c.requires c.get.ensures.number c.get.ensures.bound in
    search_row p 0 c.in-Ok.found c.find.new.self c.in-Ok.ensures.search c.args.a c.set_number.ensures.exchanges c.set_number.ensures.task c.from.ensures (λ P t T Q at.
    let e : Q.position ≡ Q.position + 0 = omega arith in
    find_of P t T c.args.a c.args.b Q at ∙ ap (λ o. finds P t T c.args.a c.args.b Q (found_from Q o)) e)

pub returns-in-Ok-clause-looks : goal.returns-in-Ok-clause-looks
returns-in-Ok-clause-looks g c = λ P t T can.
    let p = place c.get.result c.index-self-get.result c.requires c.get.ensures.number c.get.ensures.bound in
    let low = search_looks_row c.args.b _ (is_read p) can c.in-Ok.ensures.looks in
    rw c.set_number.ensures.looks low

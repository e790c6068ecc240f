use Rattle.std.proofs.Common.{[], ◌∷◌, length, refl, inl, arith}
use Rattle.std.proofs.lemmas.Result.{IfOk-weaker}
use Rattle.merge_update.proofs.Readiness.{ready_still, room_to_change, root_kept}
use Rattle.form_rows.specs.Numbers.{numbers}
use Rattle.form_rows.proofs.merges.commit_agrees.Goals as goal

pub commit-answer-requires-clause-held : goal.commit-answer-requires-clause-held
commit-answer-requires-clause-held g c = (c.in-Some.old ∷ [], (c.in_ok-set_present.ensures.ready [] c.in-Some.ensures.held (omega arith)).held)

pub commit-answer-requires-clause-commit : goal.commit-answer-requires-clause-commit
commit-answer-requires-clause-commit g c =
    let ready = (c.in_ok-set_present.ensures.ready [] c.in-Some.ensures.held (omega arith)) in
    (ready.kind, c.in-Some.ensures.root.0, numbers c.args.writes.now, ready.array, (record { segment_for = ready.segment_for; writes_for = record { root_for = (root_kept c.in_ok-set_present.ensures.lines ready (inl refl) c.in-Some.ensures.root.1); changes_for = c.requires.writes.changes _ _; ascend = c.requires.writes.ascend } }))

pub commit-answer-requires-clause-room : goal.commit-answer-requires-clause-room
commit-answer-requires-clause-room g c = room_to_change (length c.args.writes.now) (g.met.M.LineMem.sound c.set_present.new.mem) c.requires.writes.few (c.in_ok-set_present.ensures.ready [] c.in-Some.ensures.held (omega arith))

pub agrees-requires : goal.agrees-requires
agrees-requires g c =
    let ready = (c.in_ok-set_present.ensures.ready [] c.in-Some.ensures.held (omega arith)) in
    (c.in-Some.old ∷ [], ready_still c.commit-answer.result _ ready c.commit-answer.ensures.reshapes (IfOk-weaker c.commit-answer.result _ _ (λ answer updates. updates ready.kind c.in-Some.ensures.root.0 (numbers c.args.writes.now) ready.array (record { segment_for = ready.segment_for; writes_for = record { root_for = (root_kept c.in_ok-set_present.ensures.lines ready (inl refl) c.in-Some.ensures.root.1); changes_for = c.requires.writes.changes _ _; ascend = c.requires.writes.ascend } })) c.commit-answer.ensures.updates) c.commit-answer.ensures.unchanged)

use Rattle.std.proofs.Common.{[], ◌∷◌, refl, inl, inr, arith}
use Rattle.std.proofs.lemmas.Result.{IfOk-weaker}
use Rattle.merge_update.proofs.Readiness.{exchange_for, ready_still, room_to_change, root_kept}
use Rattle.form_rows.proofs.merges.mcas_agrees.Goals as goal

pub mcas-answer-requires-clause-held : goal.mcas-answer-requires-clause-held
mcas-answer-requires-clause-held g c = (c.args.base ∷ c.args.mine ∷ [], (c.in_ok-set_present.ensures.ready (c.args.mine ∷ []) c.requires.held (omega arith)).held)

pub mcas-answer-requires-clause-mcas : goal.mcas-answer-requires-clause-mcas
mcas-answer-requires-clause-mcas g c =
    let ready = (c.in_ok-set_present.ensures.ready (c.args.mine ∷ []) c.requires.held (omega arith)) in
    (ready.kind, c.requires.base.0, c.requires.mine.0, ready.array, (exchange_for ready (root_kept c.in_ok-set_present.ensures.lines ready (inl refl) c.requires.base.1) (root_kept c.in_ok-set_present.ensures.lines ready (inr (inl refl)) c.requires.mine.1)))

pub mcas-answer-requires-clause-room : goal.mcas-answer-requires-clause-room
mcas-answer-requires-clause-room g c = room_to_change 4096 (g.met.M.LineMem.sound c.set_present.new.mem) (omega arith) (c.in_ok-set_present.ensures.ready (c.args.mine ∷ []) c.requires.held (omega arith))

pub agrees-requires : goal.agrees-requires
agrees-requires g c =
    let ready = (c.in_ok-set_present.ensures.ready (c.args.mine ∷ []) c.requires.held (omega arith)) in
    (c.args.base ∷ c.args.mine ∷ [], ready_still c.mcas-answer.result _ ready c.mcas-answer.ensures.reshapes (IfOk-weaker c.mcas-answer.result _ _ (λ answer updates. updates ready.kind c.requires.base.0 c.requires.mine.0 ready.array (exchange_for ready (root_kept c.in_ok-set_present.ensures.lines ready (inl refl) c.requires.base.1) (root_kept c.in_ok-set_present.ensures.lines ready (inr (inl refl)) c.requires.mine.1))) c.mcas-answer.ensures.updates) c.mcas-answer.ensures.unchanged)

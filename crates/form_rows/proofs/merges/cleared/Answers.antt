use Rattle.std.proofs.Common.{[], ◌∷◌, refl, inl, arith}
use Rattle.seg_read.proofs.Examples.{empty_is}
use Rattle.merge_update.proofs.Readiness.{exchange_for, first_stands, first_there, ready_after, room_to_change, root_kept}
use Rattle.form_rows.proofs.merges.cleared.Goals as goal

pub mcas-requires-clause-held : goal.mcas-requires-clause-held
mcas-requires-clause-held g c = (c.in-Some.base ∷ [], (c.in_ok-set_present.ensures.ready [] c.in-Some.ensures.held (omega arith)).held)

pub mcas-requires-clause-mcas : goal.mcas-requires-clause-mcas
mcas-requires-clause-mcas g c = let ready = (c.in_ok-set_present.ensures.ready [] c.in-Some.ensures.held (omega arith)) in (ready.kind, c.in-Some.ensures.root.0, [], ready.array, (exchange_for ready (root_kept c.in_ok-set_present.ensures.lines ready (inl refl) c.in-Some.ensures.root.1) (empty_is _ _ (c.empty.ensures.stands 4 _))))

pub mcas-requires-clause-room : goal.mcas-requires-clause-room
mcas-requires-clause-room g c = room_to_change 4096 (g.met.M.LineMem.sound c.set_present.new.mem) (omega arith) (c.in_ok-set_present.ensures.ready [] c.in-Some.ensures.held (omega arith))

pub segment-requires : goal.segment-requires
segment-requires g c = first_there (ready_after c.in_ok-answer.answer _ (c.in_ok-set_present.ensures.ready [] c.in-Some.ensures.held (omega arith)) c.mcas.ensures.reshapes (c.in_ok-answer.ensures.updates _ _ _ _ (exchange_for (c.in_ok-set_present.ensures.ready [] c.in-Some.ensures.held (omega arith)) (root_kept c.in_ok-set_present.ensures.lines (c.in_ok-set_present.ensures.ready [] c.in-Some.ensures.held (omega arith)) (inl refl) c.in-Some.ensures.root.1) (empty_is _ _ (c.empty.ensures.stands 4 _)))))

pub next_from-requires : goal.next_from-requires
next_from-requires g c = first_stands (ready_after c.in_ok-answer.answer _ (c.in_ok-set_present.ensures.ready [] c.in-Some.ensures.held (omega arith)) c.mcas.ensures.reshapes (c.in_ok-answer.ensures.updates _ _ _ _ (exchange_for (c.in_ok-set_present.ensures.ready [] c.in-Some.ensures.held (omega arith)) (root_kept c.in_ok-set_present.ensures.lines (c.in_ok-set_present.ensures.ready [] c.in-Some.ensures.held (omega arith)) (inl refl) c.in-Some.ensures.root.1) (empty_is _ _ (c.empty.ensures.stands 4 _))))) c.segment.ensures

pub next_from-requires-2 : goal.next_from-requires-2
next_from-requires-2 g c = first_stands (ready_after c.in_ok-answer.answer _ (c.in_ok-set_present.ensures.ready [] c.in-Some.ensures.held (omega arith)) c.mcas.ensures.reshapes (c.in_ok-answer.ensures.updates _ _ _ _ (exchange_for (c.in_ok-set_present.ensures.ready [] c.in-Some.ensures.held (omega arith)) (root_kept c.in_ok-set_present.ensures.lines (c.in_ok-set_present.ensures.ready [] c.in-Some.ensures.held (omega arith)) (inl refl) c.in-Some.ensures.root.1) (empty_is _ _ (c.empty.ensures.stands 4 _))))) c.segment.ensures

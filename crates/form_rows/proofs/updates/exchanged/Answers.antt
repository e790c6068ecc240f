use Rattle.std.proofs.Common.{[], arith}
use Rattle.seg_changes.specs.Rows.{one}
use Rattle.seg_read.proofs.Examples.{empty_is}
use Rattle.merge_update.proofs.Readiness.{exchange_for, ready_after, room_to_change}
use Rattle.form_rows.proofs.updates.exchanged.Goals as goal

pub mcas-requires-clause-held : goal.mcas-requires-clause-held
mcas-requires-clause-held g c = ([], c.in_ok-write.ensures.held)

pub mcas-requires-clause-mcas : goal.mcas-requires-clause-mcas
mcas-requires-clause-mcas g c = (c.in_ok-write.ensures.kind, [], one, c.in_ok-write.ensures.array, (exchange_for c.in_ok-write.ensures (empty_is _ _ (c.empty.ensures.stands 4 _)) (c.mine.ensures _)))

pub mcas-requires-clause-room : goal.mcas-requires-clause-room
mcas-requires-clause-room g c = room_to_change 4096 (g.met.M.LineMem.sound c.write.new.mem) (omega arith) c.in_ok-write.ensures

pub outcome-requires : goal.outcome-requires
outcome-requires g c = ready_after c.in_ok-answer.answer _ c.in_ok-write.ensures c.mcas.ensures.reshapes (c.in_ok-answer.ensures.updates _ _ _ _ (exchange_for c.in_ok-write.ensures (empty_is _ _ (c.empty.ensures.stands 4 _)) (c.mine.ensures _)))

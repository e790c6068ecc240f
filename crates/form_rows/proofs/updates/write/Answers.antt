use Rattle.std.proofs.Common.{[], ◌∷◌, arith}
use Rattle.std.proofs.lemmas.Result.{IfOk-weaker}
use Rattle.hic_word.specs.Values.{Number}
use Rattle.merge_update.proofs.Readiness.{ready_after, room_to_change, write_for}
use Rattle.form_rows.proofs.updates.write.Goals as goal

pub commit-requires-clause-held : goal.commit-requires-clause-held
commit-requires-clause-held g c = ([], c.requires.held)

pub commit-requires-clause-commit : goal.commit-requires-clause-commit
commit-requires-clause-commit g c = (c.requires.kind, [], (c.args.offset, Number c.args.number) ∷ [], c.requires.array, write_for c.requires c.empty.result c.num.result (c.empty.ensures.stands 4 _) (c.num.ensures.stands 4 _) c.ranges.offset.fits c.ranges.number.fits)

pub commit-requires-clause-room : goal.commit-requires-clause-room
commit-requires-clause-room g c = room_to_change 1 (g.met.M.LineMem.sound c.args.mem.now) (omega arith) c.requires

pub returns : goal.returns
returns g c = IfOk-weaker c.commit.result _ _ (λ answer updates. ready_after answer _ c.requires c.commit.ensures.reshapes (updates _ _ _ _ (write_for c.requires c.empty.result c.num.result (c.empty.ensures.stands 4 _) (c.num.ensures.stands 4 _) c.ranges.offset.fits c.ranges.number.fits))) c.commit.ensures.updates

use Rattle.std.proofs.Common.{[], length, arith}
use Rattle.hic_word.specs.Changes.{with}
use Rattle.form_rows.specs.Numbers.{numbers}
use Rattle.form_rows.proofs.NumberChanges.{can_make, counts_have_room}
use Rattle.form_rows.proofs.changed.agrees.Goals as goal

pub apply-requires-clause-apply : goal.apply-requires-clause-apply
apply-requires-clause-apply g c = ([], numbers c.args.first.now, can_make _ c.empty.result c.args.first.now (c.empty.ensures.stands 4 _) c.requires.first)

pub apply-requires-clause-room : goal.apply-requires-clause-room
apply-requires-clause-room g c = counts_have_room (g.M.HoldCounts.memory c.args.mem.now) [] (length c.args.first.now) (g.met.M.LineMem.sound c.args.mem.now) c.requires.held (omega arith) c.requires.first.few

pub is_root-right-requires : goal.is_root-right-requires
is_root-right-requires g c = (with [] (numbers c.args.first.now), c.requires.old, c.in-Ok.ensures.stands [] (numbers c.args.first.now) (can_make _ c.empty.result c.args.first.now (c.empty.ensures.stands 4 _) c.requires.first))

pub changed_agrees-requires-clause-held : goal.changed_agrees-requires-clause-held
changed_agrees-requires-clause-held g c = c.in-Ok.ensures.reshapes.holds [] c.requires.held

pub changed_agrees-requires-clause-root : goal.changed_agrees-requires-clause-root
changed_agrees-requires-clause-root g c = (with [] (numbers c.args.first.now), c.in-Ok.ensures.stands [] (numbers c.args.first.now) (can_make _ c.empty.result c.args.first.now (c.empty.ensures.stands 4 _) c.requires.first), c.requires.old, c.requires.new)

use Rattle.std.proofs.Common.{◌∷◌, length, arith}
use Rattle.hic_word.specs.Changes.{with}
use Rattle.merge_update.proofs.Readiness.{ready_with}
use Rattle.form_rows.specs.Numbers.{numbers}
use Rattle.form_rows.proofs.NumberChanges.{counts_have_room}
use Rattle.form_rows.proofs.merges.set_present.Goals as goal

pub apply-requires-clause-room : goal.apply-requires-clause-room
apply-requires-clause-room g c = let (others, held, few) = c.requires.held in counts_have_room (g.M.HoldCounts.memory c.args.mem.now) (c.args.old ∷ others) (length c.args.between.now) (g.met.M.LineMem.sound c.args.mem.now) held (omega (arith, few)) c.requires.between.few

pub returns-clause-ready : goal.returns-clause-ready
returns-clause-ready g c = λ others held few.
    let (kind, one) = c.requires.segments in
    let (A, stands) = c.requires.old in
    ready_with (g.M.HoldCounts.memory c.apply.new.mem) kind c.args.segments.now c.set.new.self c.in_ok-present.present (with A (numbers c.args.between.now)) (c.args.old ∷ others) one c.set.ensures.segments (c.in_ok-present.ensures.reshapes.holds (c.args.old ∷ others) held)
    (c.in_ok-present.ensures.stands A (numbers c.args.between.now) record { root_for = stands; changes_for = c.requires.between.changes _ _; ascend = c.requires.between.ascend }) (omega (arith, few))

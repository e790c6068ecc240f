use Rattle.std.proofs.Common.{[], ◌∷◌, length, refl, inl, inr, arith}
use Rattle.hic_word.specs.Changes.{with}
use Rattle.ref_counts.proofs.Linked.{turned}
use Rattle.form_rows.specs.Numbers.{numbers}
use Rattle.form_rows.proofs.NumberChanges.{counts_have_room}
use Rattle.form_rows.proofs.Rooting.{root_stays}
use Rattle.form_rows.proofs.merges.written_agrees.Goals as goal

pub apply-requires-clause-room : goal.apply-requires-clause-room
apply-requires-clause-room g c = counts_have_room (g.M.HoldCounts.memory c.made.new.mem) (c.in-Some.base ∷ []) (length c.args.writes.now) (g.met.M.LineMem.sound c.made.new.mem) c.in-Some.ensures.held (omega arith) c.requires.writes.few

pub mcas_agrees-requires-clause-held : goal.mcas_agrees-requires-clause-held
mcas_agrees-requires-clause-held g c = turned (g.M.HoldCounts.memory c.apply.new.mem) c.in_ok-mine.mine c.in-Some.base (c.in_ok-mine.ensures.reshapes.holds (c.in-Some.base ∷ []) c.in-Some.ensures.held)

pub mcas_agrees-requires-clause-base : goal.mcas_agrees-requires-clause-base
mcas_agrees-requires-clause-base g c =
    (c.in-Some.ensures.root.0, root_stays (g.M.HoldCounts.memory c.made.new.mem) (g.M.HoldCounts.memory c.apply.new.mem) (c.in_ok-mine.mine ∷ c.in-Some.base ∷ []) c.in-Some.base c.in-Some.ensures.root.0 c.in_ok-mine.ensures.reshapes.lines (c.in_ok-mine.ensures.reshapes.holds (c.in-Some.base ∷ []) c.in-Some.ensures.held) (inr (inl refl)) c.in-Some.ensures.root.1)

pub mcas_agrees-requires-clause-mine : goal.mcas_agrees-requires-clause-mine
mcas_agrees-requires-clause-mine g c =
    (with c.in-Some.ensures.root.0 (numbers c.args.writes.now), c.in_ok-mine.ensures.stands c.in-Some.ensures.root.0 (numbers c.args.writes.now) record { root_for = c.in-Some.ensures.root.1; changes_for = c.requires.writes.changes _ _; ascend = c.requires.writes.ascend })

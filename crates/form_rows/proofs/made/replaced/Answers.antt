use Rattle.std.proofs.Common.{[], ◌∷◌, length, refl, inl, arith}
use Rattle.hic_word.specs.Changes.{with}
use Rattle.hic_word.proofs.callers.Holds.{fewer_keep}
use Rattle.ref_counts.proofs.Linked.{turned}
use Rattle.form_rows.specs.Numbers.{numbers}
use Rattle.form_rows.proofs.NumberChanges.{counts_have_room}
use Rattle.form_rows.proofs.Rooting.{root_stays}
use Rattle.form_rows.proofs.made.replaced.Goals as goal

pub apply-requires-clause-room : goal.apply-requires-clause-room
apply-requires-clause-room g c = counts_have_room (g.M.HoldCounts.memory c.args.mem.now) (c.args.root ∷ []) (length c.args.changes.now) (g.met.M.LineMem.sound c.args.mem.now) c.requires.held (omega arith) c.requires.changes.few

pub release-requires : goal.release-requires
release-requires g c = (c.in_ok-new.new ∷ [], turned (g.M.HoldCounts.memory c.apply.new.mem) c.in_ok-new.new c.args.root (c.in_ok-new.ensures.reshapes.holds (c.args.root ∷ []) c.requires.held))

pub returns-clause-held : goal.returns-clause-held
returns-clause-held g c = c.release.ensures.exchanges.holds (c.in_ok-new.new ∷ []) (turned (g.M.HoldCounts.memory c.apply.new.mem) c.in_ok-new.new c.args.root (c.in_ok-new.ensures.reshapes.holds (c.args.root ∷ []) c.requires.held))

pub returns-clause-root : goal.returns-clause-root
returns-clause-root g c =
    let (A, root) = c.requires.root in
    let m = g.M.HoldCounts.memory c.apply.new.mem in
    let held = turned m c.in_ok-new.new c.args.root (c.in_ok-new.ensures.reshapes.holds (c.args.root ∷ []) c.requires.held) in
    let stands = c.in_ok-new.ensures.stands A (numbers c.args.changes.now) record { root_for = root; changes_for = c.requires.changes.changes _ _; ascend = c.requires.changes.ascend } in
    (with A (numbers c.args.changes.now), root_stays m (g.M.HoldCounts.memory c.release.new.mem) (c.in_ok-new.new ∷ []) c.in_ok-new.new (with A (numbers c.args.changes.now)) (fewer_keep m (g.M.HoldCounts.memory c.release.new.mem) c.release.ensures.exchanges.lines) (c.release.ensures.exchanges.holds (c.in_ok-new.new ∷ []) held) (inl refl) stands)

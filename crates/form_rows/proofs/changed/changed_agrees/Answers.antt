use Rattle.std.proofs.Common.{[], ◌∷◌, length, refl, inl, inr, arith}
use Rattle.hic_word.specs.Changes.{with}
use Rattle.hic_word.proofs.callers.Holds.{fewer_keep}
use Rattle.ref_counts.proofs.Linked.{turned}
use Rattle.form_rows.specs.Numbers.{numbers}
use Rattle.form_rows.proofs.NumberChanges.{counts_have_room}
use Rattle.form_rows.proofs.Rooting.{root_stays}
use Rattle.form_rows.proofs.changed.changed_agrees.Goals as goal

pub apply-requires-clause-room : goal.apply-requires-clause-room
apply-requires-clause-room g c = counts_have_room (g.M.HoldCounts.memory c.args.mem.now) (c.args.root ∷ []) (length c.args.later.now) (g.met.M.LineMem.sound c.args.mem.now) c.requires.held (omega arith) c.requires.later.few

pub is_root-both-requires : goal.is_root-both-requires
is_root-both-requires g c =
    let (A, root, old, new) = c.requires.root in
    (A, old, root_stays (g.M.HoldCounts.memory c.args.mem.now) (g.M.HoldCounts.memory c.apply.new.mem) (c.in-Ok.new ∷ c.args.root ∷ []) c.args.root A c.in-Ok.ensures.reshapes.lines (c.in-Ok.ensures.reshapes.holds (c.args.root ∷ []) c.requires.held) (inr (inl refl)) root)

pub release-requires : goal.release-requires
release-requires g c = (c.in-Ok.new ∷ [], turned (g.M.HoldCounts.memory c.apply.new.mem) c.in-Ok.new c.args.root (c.in-Ok.ensures.reshapes.holds (c.args.root ∷ []) c.requires.held))

pub is_root-requires-then-live-change-3 : goal.is_root-requires-then-live-change-3
is_root-requires-then-live-change-3 g c =
    let (A, root, old, new) = c.requires.root in
    let m = g.M.HoldCounts.memory c.apply.new.mem in
    let held = turned m c.in-Ok.new c.args.root (c.in-Ok.ensures.reshapes.holds (c.args.root ∷ []) c.requires.held) in
    let stands = c.in-Ok.ensures.stands A (numbers c.args.later.now) record { root_for = root; changes_for = c.requires.later.changes _ _; ascend = c.requires.later.ascend } in
    (with A (numbers c.args.later.now), new, root_stays m (g.M.HoldCounts.memory c.release.new.mem) (c.in-Ok.new ∷ []) c.in-Ok.new (with A (numbers c.args.later.now)) (fewer_keep m (g.M.HoldCounts.memory c.release.new.mem) c.release.ensures.exchanges.lines) (c.release.ensures.exchanges.holds (c.in-Ok.new ∷ []) held) (inl refl) stands)

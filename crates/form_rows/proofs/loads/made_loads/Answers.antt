use Rattle.std.proofs.Common.{[], ◌∷◌, refl, inl, inr, arith}
use Rattle.hic_word.specs.Changes.{with}
use Rattle.ref_counts.proofs.Linked.{turned}
use Rattle.form_rows.specs.Numbers.{numbers}
use Rattle.form_rows.proofs.NumberChanges.{counts_have_room}
use Rattle.form_rows.proofs.Rooting.{root_stays}
use Rattle.form_rows.proofs.loads.made_loads.Goals as goal

pub apply-requires-clause-room : goal.apply-requires-clause-room
apply-requires-clause-room g c = counts_have_room (g.M.HoldCounts.memory c.made.new.mem) (c.in_ok-root.root ∷ []) 1 (g.met.M.LineMem.sound c.made.new.mem) c.in_ok-root.ensures.held (omega arith) (omega arith)

pub apply-requires-clause-apply : goal.apply-requires-clause-apply
apply-requires-clause-apply g c =
    let (A, stands) = c.in_ok-root.ensures.root in
    let changes = c.are_changes.ensures c.if-not-are_changes.false in
    let cs = (0, c.num.result) ∷ [] in
    (A, numbers cs, record { root_for = stands; changes_for = changes.changes _ _; ascend = changes.ascend })

pub loads-requires-clause-held : goal.loads-requires-clause-held
loads-requires-clause-held g c = turned (g.M.HoldCounts.memory c.apply.new.mem) c.in-Ok.changed c.in_ok-root.root (c.in-Ok.ensures.reshapes.holds (c.in_ok-root.root ∷ []) c.in_ok-root.ensures.held)

pub loads-requires-clause-root : goal.loads-requires-clause-root
loads-requires-clause-root g c =
    let (A, stands) = c.in_ok-root.ensures.root in
    (A, root_stays (g.M.HoldCounts.memory c.made.new.mem) (g.M.HoldCounts.memory c.apply.new.mem) (c.in-Ok.changed ∷ c.in_ok-root.root ∷ []) c.in_ok-root.root A c.in-Ok.ensures.reshapes.lines (c.in-Ok.ensures.reshapes.holds (c.in_ok-root.root ∷ []) c.in_ok-root.ensures.held) (inr (inl refl)) stands)

pub loads-requires-clause-changed : goal.loads-requires-clause-changed
loads-requires-clause-changed g c =
    let (A, stands) = c.in_ok-root.ensures.root in
    let changes = c.are_changes.ensures c.if-not-are_changes.false in
    let cs = (0, c.num.result) ∷ [] in
    (with A (numbers cs), c.in-Ok.ensures.stands A (numbers cs) record { root_for = stands; changes_for = changes.changes _ _; ascend = changes.ascend })

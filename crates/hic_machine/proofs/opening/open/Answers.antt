use Rattle.std.proofs.Common.{◌<◌, refl, ◌∙◌, subst}
use Rattle.std.specs.List.{AllByRecursion}
use Rattle.hic_plain.specs.Full.{full_at_load}
use Rattle.hic_plain.specs.Machine.{start}
use Rattle.hic_machine.proofs.Starting.{begins, fits_where_not_over, full_where_over, no_error, told_full}
use Rattle.hic_machine.proofs.opening.open.Goals as goal

pub fill-requires : goal.fill-requires
fill-requires g c = (c.args.object, record { held = c.requires; empty = c.in_ok-segments.ensures; object = c.code.ensures.object; writes_are = c.in_ok-writes.ensures })

pub returns-in_err-fill-clause-room : goal.returns-in_err-fill-clause-room
returns-in_err-fill-clause-room g c =
    let m = g.M.HoldCounts.memory c.args.mem.now in
    told_full c.from_residual-in_err-fill.result (full_at_load (start c.args.object c.args.input.items m.layout.cap)) c.from_residual-in_err-fill.ensures.0
    (full_where_over m c.args.object c.args.input.items ((c.in_err-fill.ensures.full c.args.object (record { held = c.requires; empty = c.in_ok-segments.ensures; object = c.code.ensures.object; writes_are = c.in_ok-writes.ensures })).0 refl))

pub returns-clause-start : goal.returns-clause-start
returns-clause-start g c =
    let m = g.M.HoldCounts.memory c.args.mem.now in
    begins m (g.M.HoldCounts.memory c.fill.new.mem) c.args.object c.args.input.items c.fill.new.segments c.in_ok-fill.ensures.layout c.in_ok-code.code.items c.in_ok-tasks.tasks.items c.new.result c.code.ensures.object (subst (AllByRecursion (λ byte. byte < 256)) c.deref.ensures.value c.bytes_fit.ensures) (c.in_ok-code.ensures.items_if_clones_equal (λ x y e. e) ∙ c.code.ensures.code) c.in_ok-tasks.ensures c.new.ensures c.in_ok-fill.ensures.held
    (c.in_ok-fill.ensures.segments c.args.object (record { held = c.requires; empty = c.in_ok-segments.ensures; object = c.code.ensures.object; writes_are = c.in_ok-writes.ensures }))

pub returns-clause-room : goal.returns-clause-room
returns-clause-room g c =
    let m = g.M.HoldCounts.memory c.args.mem.now in
    fits_where_not_over m c.args.object c.args.input.items (λ more. absurd (no_error ((c.in_ok-fill.ensures.full c.args.object (record { held = c.requires; empty = c.in_ok-segments.ensures; object = c.code.ensures.object; writes_are = c.in_ok-writes.ensures })).1 more)))

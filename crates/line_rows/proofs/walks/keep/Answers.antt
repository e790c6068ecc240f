use Rattle.std.proofs.Common.{◌∷◌, sym, subst, arith}
use Rattle.hic_word.specs.Memory.{line_at, width}
use Rattle.hic_word.specs.Holds.{Holds}
use Rattle.ref_counts.proofs.Linked.{reference_links}
use Rattle.line_rows.proofs.Keeping.{given_back, kept_made, link_taken, live_room}
use Rattle.line_rows.proofs.walks.keep.Goals as goal

pub hold-requires-clause-held : goal.hold-requires-clause-held
hold-requires-clause-held g c = (c.args.words.now, c.requires.kept.held)

pub hold-requires-clause-live : goal.hold-requires-clause-live
hold-requires-clause-live g c = (c.chosen-word.ensures (g.M.HoldCounts.memory c.args.mem.now) c.requires.kept).0

pub hold-requires-clause-room : goal.hold-requires-clause-room
hold-requires-clause-room g c = live_room (g.M.HoldCounts.memory c.args.mem.now) c.args.words.now c.chosen-word.result (g.met.M.LineMem.sound c.args.mem.now) (omega arith) c.requires.kept (hold-requires-clause-live g c)

pub leaf-requires-clause-held : goal.leaf-requires-clause-held
leaf-requires-clause-held g c = (c.args.words.now, c.hold.ensures.exchanges.holds c.args.words.now c.requires.kept.held, omega arith)

pub leaf-requires-clause-link : goal.leaf-requires-clause-link
leaf-requires-clause-link g c =
    let m = g.M.HoldCounts.memory c.args.mem.now in
    link_taken m (g.M.HoldCounts.memory c.hold.new.mem) c.args.words.now c.chosen-word.result c.requires.kept c.hold.ensures.exchanges (c.chosen-word.ensures m c.requires.kept).1

pub release-requires : goal.release-requires
release-requires g c = (c.args.words.now, subst (λ n. Holds (width n) n (c.chosen-word.result ∷ c.args.words.now)) (sym c.in-Err.ensures.unchanged) (c.hold.ensures.exchanges.holds c.args.words.now c.requires.kept.held))

pub returns-in-Err : goal.returns-in-Err
returns-in-Err g c = given_back (g.M.HoldCounts.memory c.args.mem.now) (g.M.HoldCounts.memory c.hold.new.mem) c.args.words.now c.chosen-word.result c.requires.kept c.hold.ensures.exchanges (g.M.HoldCounts.memory c.leaf.new.mem) (g.M.HoldCounts.memory c.release.new.mem) c.in-Err.ensures.unchanged c.release.ensures.exchanges

pub returns-in-Ok : goal.returns-in-Ok
returns-in-Ok g c =
    let m = g.M.HoldCounts.memory c.args.mem.now in
    let taken = g.M.HoldCounts.memory c.hold.new.mem in
    let new = g.M.HoldCounts.memory c.leaf.new.mem in
    let link = link_taken m taken c.args.words.now c.chosen-word.result c.requires.kept c.hold.ensures.exchanges (c.chosen-word.ensures m c.requires.kept).1 in
    kept_made m taken c.args.words.now c.chosen-word.result c.requires.kept c.hold.ensures.exchanges new c.reference.result c.in-Ok.id c.hold.ensures.lines c.leaf.ensures.lines c.in-Ok.ensures.held
    (reference_links (line_at taken) (line_at new) c.chosen-word.result c.in-Ok.id link (c.in-Ok.ensures.stands link) c.reference.result c.reference.ensures) c.reference.ensures

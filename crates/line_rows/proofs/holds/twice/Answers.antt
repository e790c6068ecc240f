use Rattle.std.proofs.Common.{[], ◌∷◌, arith}
use Rattle.hic_word.specs.Holds.{IsLive}
use Rattle.hic_word.specs.Memory.{line_at}
use Rattle.ref_counts.specs.Links.{twice_of}
use Rattle.ref_counts.proofs.Linked.{entry_held, held_live, number_held, number_links, reference_held, room_each, room_of, twice_held, twice_made, twice_stands}
use Rattle.line_rows.proofs.holds.twice.Goals as goal

pub leaf-requires-clause-held : goal.leaf-requires-clause-held
leaf-requires-clause-held g c = ([], number_held (g.M.HoldCounts.memory c.args.mem.now) c.num.result c.num.ensures.value c.requires, omega arith)

pub leaf-requires-clause-link : goal.leaf-requires-clause-link
leaf-requires-clause-link g c = number_links (line_at (g.M.HoldCounts.memory c.args.mem.now)) c.num.result c.num.ensures.value

pub hold_each-requires-clause-held : goal.hold_each-requires-clause-held
hold_each-requires-clause-held g c =
    let x = c.entry-part.result in
    (x ∷ [], entry_held (g.M.HoldCounts.memory c.leaf.new.mem) [] x c.in_ok-leaf.field-0 c.entry-part.ensures (c.in_ok-leaf.ensures.held [] (number_held (g.M.HoldCounts.memory c.args.mem.now) c.num.result c.num.ensures.value c.requires)))

pub hold_each-requires-clause-live : goal.hold_each-requires-clause-live
hold_each-requires-clause-live g c =
    let x = c.entry-part.result in
    let live : IsLive (g.M.HoldCounts.memory c.leaf.new.mem) x = held_live (g.M.HoldCounts.memory c.leaf.new.mem) [] x (entry_held (g.M.HoldCounts.memory c.leaf.new.mem) [] x c.in_ok-leaf.field-0 c.entry-part.ensures (c.in_ok-leaf.ensures.held [] (number_held (g.M.HoldCounts.memory c.args.mem.now) c.num.result c.num.ensures.value c.requires))) in
    (live, (live, tt))

pub hold_each-requires-clause-room : goal.hold_each-requires-clause-room
hold_each-requires-clause-room g c = λ id live.
    let x = c.entry-part.result in
    let room = room_each (g.M.HoldCounts.memory c.leaf.new.mem) (x ∷ []) (g.met.M.LineMem.sound c.leaf.new.mem) (entry_held (g.M.HoldCounts.memory c.leaf.new.mem) [] x c.in_ok-leaf.field-0 c.entry-part.ensures (c.in_ok-leaf.ensures.held [] (number_held (g.M.HoldCounts.memory c.args.mem.now) c.num.result c.num.ensures.value c.requires))) (omega arith) id in
    omega (arith, room)

pub keep_line-requires-clause-held : goal.keep_line-requires-clause-held
keep_line-requires-clause-held g c =
    let x = c.entry-part.result in
    (x ∷ [], twice_held (g.M.HoldCounts.memory c.hold_each.new.mem) x c.num-2.result c.num-3.result c.num-2.ensures.value c.num-3.ensures.value (c.hold_each.ensures.exchanges.holds (x ∷ []) (entry_held (g.M.HoldCounts.memory c.leaf.new.mem) [] x c.in_ok-leaf.field-0 c.entry-part.ensures (c.in_ok-leaf.ensures.held [] (number_held (g.M.HoldCounts.memory c.args.mem.now) c.num.result c.num.ensures.value c.requires)))))

pub keep_line-requires-clause-made : goal.keep_line-requires-clause-made
keep_line-requires-clause-made g c =
    let x = c.entry-part.result in
    (twice_of, (twice_stands (g.M.HoldCounts.memory c.args.mem.now) (g.M.HoldCounts.memory c.leaf.new.mem) (g.M.HoldCounts.memory c.hold_each.new.mem) c.num.result x c.num-2.result c.num-3.result c.in_ok-leaf.field-0 c.num.ensures.value c.in_ok-leaf.ensures.stands c.hold_each.ensures.lines c.entry-part.ensures c.num-2.ensures.value c.num-3.ensures.value, twice_made))

pub keep_line-requires-clause-room : goal.keep_line-requires-clause-room
keep_line-requires-clause-room g c = λ id e.
    let x = c.entry-part.result in
    room_of (g.M.HoldCounts.memory c.hold_each.new.mem) (x ∷ x ∷ x ∷ []) (g.met.M.LineMem.sound c.hold_each.new.mem) (c.hold_each.ensures.exchanges.holds (x ∷ []) (entry_held (g.M.HoldCounts.memory c.leaf.new.mem) [] x c.in_ok-leaf.field-0 c.entry-part.ensures (c.in_ok-leaf.ensures.held [] (number_held (g.M.HoldCounts.memory c.args.mem.now) c.num.result c.num.ensures.value c.requires)))) (omega arith) id _ e

pub returns : goal.returns
returns g c =
    let x = c.entry-part.result in
    reference_held (g.M.HoldCounts.memory c.keep_line.new.mem) (x ∷ []) c.reference.result 2 c.in_ok-top.top c.reference.ensures (c.in_ok-top.ensures.reshapes.holds (x ∷ []) (twice_held (g.M.HoldCounts.memory c.hold_each.new.mem) x c.num-2.result c.num-3.result c.num-2.ensures.value c.num-3.ensures.value (c.hold_each.ensures.exchanges.holds (x ∷ []) (entry_held (g.M.HoldCounts.memory c.leaf.new.mem) [] x c.in_ok-leaf.field-0 c.entry-part.ensures (c.in_ok-leaf.ensures.held [] (number_held (g.M.HoldCounts.memory c.args.mem.now) c.num.result c.num.ensures.value c.requires))))))

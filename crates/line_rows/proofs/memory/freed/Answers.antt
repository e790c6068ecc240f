use Rattle.std.proofs.Common.{arith}
use Rattle.line_mem.proofs.PlainLines.{held_twice, still_held}
use Rattle.line_rows.proofs.memory.freed.Goals as goal

pub hold-requires-clause-room : goal.hold-requires-clause-room
hold-requires-clause-room g c = let a = c.in_ok-id.ensures.counts 0 c.requires.none c.in_ok-id.id in omega (arith, a)

pub sink-requires-2 : goal.sink-requires-2
sink-requires-2 g c =
    let twice = held_twice (g.M.HoldCounts.memory c.keep.new.mem) (g.M.HoldCounts.memory c.hold.new.self) c.in_ok-id.id c.hold.ensures c.in_ok-id.ensures.held in
    still_held (g.M.HoldCounts.memory c.hold.new.self) (g.M.HoldCounts.memory c.sink.new.self) c.in_ok-id.id c.sink.ensures twice

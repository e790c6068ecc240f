use Rattle.std.proofs.Common.{arith}
use Rattle.line_rows.proofs.Keeping.{kept_twice, one_link, one_live, one_room}
use Rattle.line_rows.proofs.walks.copy.Goals as goal

pub hold-requires-clause-held : goal.hold-requires-clause-held
hold-requires-clause-held g c = (c.args.words.now, c.requires.kept.held)

pub hold-requires-clause-live : goal.hold-requires-clause-live
hold-requires-clause-live g c = one_live (g.M.HoldCounts.memory c.args.mem.now) c.args.words.now c.args.from _ c.requires.from c.requires.kept

pub hold-requires-clause-room : goal.hold-requires-clause-room
hold-requires-clause-room g c = one_room (g.M.HoldCounts.memory c.args.mem.now) c.args.words.now c.args.from _ c.requires.from c.requires.kept (g.met.M.LineMem.sound c.args.mem.now) (omega arith)

pub put-requires-clause-kept : goal.put-requires-clause-kept
put-requires-clause-kept g c =
    let m = g.M.HoldCounts.memory c.args.mem.now in
    kept_twice m (g.M.HoldCounts.memory c.hold.new.mem) c.args.words.now _ c.requires.kept c.hold.ensures.exchanges (one_link m c.args.words.now c.args.from _ c.requires.from c.requires.kept)

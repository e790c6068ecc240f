use Rattle.form_rows.proofs.Using.{usable_after_look, usable_after_search, usable_after_seek}
use Rattle.form_rows.proofs.registers.look.Goals as goal

pub returns-in_err-found : goal.returns-in_err-found
returns-in_err-found g c = usable_after_look (g.M.HoldCounts.memory c.args.mem.now) c.args.reg.now c.seek.new.self c.load.new.self c.find.new.self c.args.offset 0 c.seek.result c.find.result c.seek.ensures c.load.ensures.same c.find.ensures.search c.requires

pub returns-in_err-pos : goal.returns-in_err-pos
returns-in_err-pos g c = usable_after_look (g.M.HoldCounts.memory c.args.mem.now) c.args.reg.now c.seek.new.self c.load.new.self c.find.new.self c.args.offset 0 c.seek.result c.find.result c.seek.ensures c.load.ensures.same c.find.ensures.search c.requires

pub next-requires : goal.next-requires
next-requires g c =
    let m = g.M.HoldCounts.memory c.args.mem.now in
    (usable_after_seek m c.find.new.self c.seek-2.new.self c.args.offset c.seek-2.result c.seek-2.ensures
    (usable_after_look m c.args.reg.now c.seek.new.self c.load.new.self c.find.new.self c.args.offset 0 c.seek.result c.find.result c.seek.ensures c.load.ensures.same c.find.ensures.search c.requires)).1

pub returns-in_err-found-2 : goal.returns-in_err-found-2
returns-in_err-found-2 g c =
    let m = g.M.HoldCounts.memory c.args.mem.now in
    usable_after_search m c.seek-2.new.self c.next.new.self 1 c.next.result c.next.ensures.search
    (usable_after_seek m c.find.new.self c.seek-2.new.self c.args.offset c.seek-2.result c.seek-2.ensures (usable_after_look m c.args.reg.now c.seek.new.self c.load.new.self c.find.new.self c.args.offset 0 c.seek.result c.find.result c.seek.ensures c.load.ensures.same c.find.ensures.search c.requires))

pub returns-in_err-pos-2 : goal.returns-in_err-pos-2
returns-in_err-pos-2 g c =
    let m = g.M.HoldCounts.memory c.args.mem.now in
    usable_after_search m c.seek-2.new.self c.next.new.self 1 c.next.result c.next.ensures.search
    (usable_after_seek m c.find.new.self c.seek-2.new.self c.args.offset c.seek-2.result c.seek-2.ensures (usable_after_look m c.args.reg.now c.seek.new.self c.load.new.self c.find.new.self c.args.offset 0 c.seek.result c.find.result c.seek.ensures c.load.ensures.same c.find.ensures.search c.requires))

pub returns : goal.returns
returns g c =
    let m = g.M.HoldCounts.memory c.args.mem.now in
    usable_after_search m c.seek-2.new.self c.next.new.self 1 c.next.result c.next.ensures.search
    (usable_after_seek m c.find.new.self c.seek-2.new.self c.args.offset c.seek-2.result c.seek-2.ensures (usable_after_look m c.args.reg.now c.seek.new.self c.load.new.self c.find.new.self c.args.offset 0 c.seek.result c.find.result c.seek.ensures c.load.ensures.same c.find.ensures.search c.requires))

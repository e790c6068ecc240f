use Rattle.std.proofs.Common.{arith}
use Rattle.hic_word.specs.Values.{Number}
use Rattle.form_rows.proofs.Using.{low_after_seek, number_valid, usable_after_seek, usable_after_store}
use Rattle.form_rows.proofs.registers.put.Goals as goal

pub returns : goal.returns
returns g c =
    let m = g.M.HoldCounts.memory c.args.mem.now in
    usable_after_store m (g.M.HoldCounts.memory c.store.new.mem) c.seek.new.self c.store.new.self c.num.result (Number c.args.number) c.store.result
    (low_after_seek c.args.reg.now c.seek.new.self c.args.offset c.seek.result c.seek.ensures (omega arith)) (number_valid c.args.number (omega arith)) (c.num.ensures.stands _ _)
    c.store.ensures.open c.store.ensures.exchanges c.store.ensures.unchanged
    (usable_after_seek m c.args.reg.now c.seek.new.self c.args.offset c.seek.result c.seek.ensures c.requires)

use Rattle.iter_regs.proofs.Sought.{held_after_seek, held_after_store}
use Rattle.form_rows.proofs.iterators.put.Goals as goal

pub returns : goal.returns
returns g c =
    held_after_store (g.M.HoldCounts.memory c.args.mem.now) (g.M.HoldCounts.memory c.store.new.mem) c.seek.new.self c.store.new.self c.store.result c.store.ensures.exchanges c.store.ensures.unchanged
    (held_after_seek (g.M.HoldCounts.memory c.args.mem.now) c.args.reg.now c.seek.new.self c.args.offset c.seek.result c.seek.ensures c.requires)

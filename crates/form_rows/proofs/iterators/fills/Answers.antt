use Rattle.std.proofs.Common.{[], sym, subst}
use Rattle.hic_word.specs.Memory.{width}
use Rattle.seg_read.proofs.Examples.{empty_is}
use Rattle.iter_regs.specs.Iters.{CanRead}
use Rattle.iter_regs.proofs.Sought.{held_from_closed}
use Rattle.form_rows.proofs.Using.{first_stands, held_after_load}
use Rattle.form_rows.proofs.iterators.fills.Goals as goal

pub load-requires : goal.load-requires
load-requires g c =
    let m = g.M.HoldCounts.memory c.attach_ref.new.mem in
    subst (CanRead m) (sym c.attach_ref.ensures.open)
    ([], [], first_stands (empty_is m c.empty.result (c.empty.ensures.stands (width m) _)))

pub loop-offset-init : goal.loop-offset-init
loop-offset-init g c =
    held_after_load (g.M.HoldCounts.memory c.attach_ref.new.mem) c.attach_ref.new.self c.load.new.self c.load.ensures.same
    (held_from_closed (g.M.HoldCounts.memory c.args.mem.now) (g.M.HoldCounts.memory c.attach_ref.new.mem) c.closed-reg.result c.attach_ref.new.self c.closed-reg.ensures c.attach_ref.ensures.exchanges c.requires)

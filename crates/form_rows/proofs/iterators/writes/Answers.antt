use Rattle.hic_word.proofs.callers.Holds.{among_after}
use Rattle.iter_regs.proofs.Sought.{held_from_closed}
use Rattle.form_rows.proofs.iterators.writes.Goals as goal

pub put-requires : goal.put-requires
put-requires g c = held_from_closed (g.M.HoldCounts.memory c.args.mem.now) (g.M.HoldCounts.memory c.attach.new.mem) c.closed-reg.result c.attach.new.self c.closed-reg.ensures c.attach.ensures.exchanges c.requires

pub renew-requires-clause-held : goal.renew-requires-clause-held
renew-requires-clause-held g c = among_after (g.M.HoldCounts.memory c.put-2.new.mem) (g.M.HoldCounts.memory c.abort.new.mem) _ _ c.abort.ensures.exchanges.holds c.put-2.ensures

pub close-requires : goal.close-requires
close-requires g c =
    among_after (g.M.HoldCounts.memory c.abort.new.mem) (g.M.HoldCounts.memory c.renew.new.mem) _ _ c.renew.ensures.exchanges.holds
    (among_after (g.M.HoldCounts.memory c.put-2.new.mem) (g.M.HoldCounts.memory c.abort.new.mem) _ _ c.abort.ensures.exchanges.holds c.put-2.ensures)

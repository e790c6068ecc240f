use Rattle.line_mem.proofs.PlainLines.{no_names, plain_kept}
use Rattle.line_rows.proofs.memory.keep.Goals as goal

pub returns-clause-live : goal.returns-clause-live
returns-clause-live g c = (plain_kept (g.M.HoldCounts.memory c.args.mem.now) (g.M.HoldCounts.memory c.intern.new.self) _ c.in_ok-id.id (no_names _ _ _ _ _ _ _ _ c.num.ensures.value c.num-2.ensures.value c.num-3.ensures.value c.num-4.ensures.value) c.requires.no_dead c.in_ok-id.ensures.interned).live

pub returns-clause-held : goal.returns-clause-held
returns-clause-held g c = (plain_kept (g.M.HoldCounts.memory c.args.mem.now) (g.M.HoldCounts.memory c.intern.new.self) _ c.in_ok-id.id (no_names _ _ _ _ _ _ _ _ c.num.ensures.value c.num-2.ensures.value c.num-3.ensures.value c.num-4.ensures.value) c.requires.no_dead c.in_ok-id.ensures.interned).held

pub returns-clause-counts : goal.returns-clause-counts
returns-clause-counts g c = (plain_kept (g.M.HoldCounts.memory c.args.mem.now) (g.M.HoldCounts.memory c.intern.new.self) _ c.in_ok-id.id (no_names _ _ _ _ _ _ _ _ c.num.ensures.value c.num-2.ensures.value c.num-3.ensures.value c.num-4.ensures.value) c.requires.no_dead c.in_ok-id.ensures.interned).counts

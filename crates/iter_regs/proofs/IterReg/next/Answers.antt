use Rattle.iter_regs.proofs.Going.{is_opened, none_past}
use Rattle.iter_regs.proofs.IterReg.next.Goals as goal

pub returns-in_default-clause-search : goal.returns-in_default-clause-search
returns-in_default-clause-search g c = rw (is_opened c.self.view_is c.if-not-self.false) (none_past (g.M.HoldCounts.memory c.args.mem.now) c.self.inside.open (λ low. c.in_default.ensures low))

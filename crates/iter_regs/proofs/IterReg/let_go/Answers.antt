use Rattle.std.proofs.Common.{[], subst}
use Rattle.hic_word.specs.Exchanges.{HoldsAmong}
use Rattle.hic_word.proofs.callers.Holds.{exchanges_nothing}
use Rattle.iter_regs.specs.Iters.{iter_words}
use Rattle.iter_regs.proofs.Going.{is_closed, is_opened}
use Rattle.iter_regs.proofs.IterReg.let_go.Goals as goal

pub give_up-requires : goal.give_up-requires
give_up-requires g c = subst (λ o. HoldsAmong (g.M.HoldCounts.memory c.args.mem.now) (iter_words o)) (is_opened c.self.view_is c.if-self.true) c.requires

pub returns-then-self-clause-exchanges : goal.returns-then-self-clause-exchanges
returns-then-self-clause-exchanges g c = rw (is_opened c.self.view_is c.if-self.true) c.give_up.ensures.exchanges

pub returns-else-self-clause-exchanges : goal.returns-else-self-clause-exchanges
returns-else-self-clause-exchanges g c = rw (is_closed c.self.inside.open c.self.view_is c.if-self.false) (exchanges_nothing (g.M.HoldCounts.memory c.args.mem.now) [])

use Rattle.iter_regs.specs.Iters.{open_words}
use Rattle.iter_regs.proofs.Holding.{held_too, nothing_held, opened_on}
use Rattle.iter_regs.proofs.opened.Open.renew.Goals as goal

pub hold-requires-clause-held : goal.hold-requires-clause-held
hold-requires-clause-held g c = nothing_held (open_words c.args.self.now) c.requires.held

pub give_up-requires : goal.give_up-requires
give_up-requires g c = held_too (open_words c.args.self.now) c.args.root c.hold.ensures.exchanges c.requires.held

pub returns-clause-exchanges : goal.returns-clause-exchanges
returns-clause-exchanges g c = opened_on (open_words c.args.self.now) c.args.root c.hold.ensures.exchanges c.give_up.ensures.exchanges

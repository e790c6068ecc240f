use Rattle.iter_regs.specs.Iters.{iter_words}
use Rattle.iter_regs.proofs.Holding.{held_too, nothing_held, opened_on}
use Rattle.iter_regs.proofs.IterReg.open_on.Goals as goal

pub hold-requires-clause-held : goal.hold-requires-clause-held
hold-requires-clause-held g c = nothing_held (iter_words c.args.self.now) c.requires.held

pub let_go-requires : goal.let_go-requires
let_go-requires g c = held_too (iter_words c.args.self.now) c.args.root c.hold.ensures.exchanges c.requires.held

pub returns-clause-exchanges : goal.returns-clause-exchanges
returns-clause-exchanges g c = rw (c.set.ensures, c.clear.ensures) (opened_on (iter_words c.args.self.now) c.args.root c.hold.ensures.exchanges c.let_go.ensures.exchanges)

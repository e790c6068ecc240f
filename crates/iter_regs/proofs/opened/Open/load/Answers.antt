use Rattle.std.proofs.Common.{sym, ◌∙◌}
use Rattle.iter_regs.proofs.Viewing.{viewed_below, viewed_buffered}
use Rattle.iter_regs.proofs.opened.Open.load.Goals as goal

pub returns-in-Some-clause-word : goal.returns-in-Some-clause-word
returns-in-Some-clause-word g c = λ A L for. viewed_buffered (g.M.HoldCounts.memory c.args.mem.now) c.args.self.now.cursor.root c.args.self.now.pairs A L c.args.self.now.position c.in-Some.word for.can_apply (sym c.get.ensures.value ∙ c.in-Some.is)

pub returns-in-None-clause-word : goal.returns-in-None-clause-word
returns-in-None-clause-word g c = λ A L for. viewed_below (g.M.HoldCounts.memory c.args.mem.now) c.args.self.now.cursor.root c.args.self.now.pairs A L c.args.self.now.position c.read.result for.can_apply (sym c.get.ensures.value ∙ c.in-None.is) (c.read.ensures.value A for.cursor)

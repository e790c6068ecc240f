use Rattle.std.proofs.Common.{subst}
use Rattle.hic_word.specs.Exchanges.{HoldsAmong}
use Rattle.iter_regs.specs.Iters.{buffered_words, iter_words}
use Rattle.iter_regs.proofs.Going.{is_opened}
use Rattle.iter_regs.proofs.Holding.{buffered_held, snapshot_stays}
use Rattle.iter_regs.proofs.IterReg.abort.Goals as goal

pub empty-requires : goal.empty-requires
empty-requires g c =
    let r = c.self.inside.open in
    buffered_held r.cursor.root (buffered_words r) (subst (λ o. HoldsAmong (g.M.HoldCounts.memory c.args.mem.now) (iter_words o)) (is_opened c.self.view_is c.if-not-self.false) c.requires)

pub returns-clause-exchanges : goal.returns-clause-exchanges
returns-clause-exchanges g c =
    let r = c.self.inside.open in
    rw (is_opened c.self.view_is c.if-not-self.false, c.if-not-self.false, c.empty.ensures.none) (snapshot_stays r.cursor.root (buffered_words r) c.empty.ensures.exchanges)

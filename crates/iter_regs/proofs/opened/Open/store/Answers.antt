use Rattle.std.proofs.Common.{◌∷◌, sym, ◌∙◌, subst}
use Rattle.hic_word.specs.Exchanges.{Exchanges}
use Rattle.iter_regs.specs.Iters.{open_words, words_of}
use Rattle.iter_regs.proofs.Holding.{nothing_held}
use Rattle.iter_regs.proofs.Storing.{former_held, none_replaced, one_replaced}
use Rattle.iter_regs.proofs.opened.Open.store.Goals as goal

pub hold-requires-clause-held : goal.hold-requires-clause-held
hold-requires-clause-held g c = nothing_held (open_words c.args.self.now) c.requires.held

pub release-requires : goal.release-requires
release-requires g c = former_held c.args.self.now.cursor.root c.args.word c.args.self.now.pairs c.args.self.now.position c.put.ensures.buffered.ascend c.hold.ensures.exchanges c.in-Some.former (sym c.in-Ok.ensures.former ∙ c.in-Some.is) c.requires.held

pub returns-in-Some-clause-exchanges : goal.returns-in-Some-clause-exchanges
returns-in-Some-clause-exchanges g c =
    subst (λ ps. Exchanges (g.M.HoldCounts.memory c.args.mem.now) (g.M.HoldCounts.memory c.release.new.mem) (open_words c.args.self.now) (c.args.self.now.cursor.root ∷ words_of ps)) (sym c.in-Ok.ensures.pairs)
    (one_replaced c.args.self.now.cursor.root c.args.word c.args.self.now.pairs c.args.self.now.position c.put.ensures.buffered.ascend c.hold.ensures.exchanges c.in-Some.former (sym c.in-Ok.ensures.former ∙ c.in-Some.is) c.release.ensures.exchanges)

pub returns-in-None-clause-exchanges : goal.returns-in-None-clause-exchanges
returns-in-None-clause-exchanges g c =
    subst (λ ps. Exchanges (g.M.HoldCounts.memory c.args.mem.now) (g.M.HoldCounts.memory c.hold.new.mem) (open_words c.args.self.now) (c.args.self.now.cursor.root ∷ words_of ps)) (sym c.in-Ok.ensures.pairs)
    (none_replaced c.args.self.now.cursor.root c.args.word c.args.self.now.pairs c.args.self.now.position c.put.ensures.buffered.ascend c.hold.ensures.exchanges (sym c.in-Ok.ensures.former ∙ c.in-None.is))

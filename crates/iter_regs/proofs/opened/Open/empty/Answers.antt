use Rattle.std.proofs.Common.{[], sym, ap, subst}
use Rattle.hic_word.specs.Exchanges.{Exchanges, HoldsAmong}
use Rattle.iter_regs.specs.Iters.{words_of}
use Rattle.iter_regs.proofs.opened.Open.empty.Goals as goal

pub release_words-requires : goal.release_words-requires
release_words-requires g c = subst (HoldsAmong (g.M.HoldCounts.memory c.args.mem.now)) (ap words_of (sym c.as_slice.ensures.pairs)) c.requires

pub returns-clause-exchanges : goal.returns-clause-exchanges
returns-clause-exchanges g c = subst (λ ws. Exchanges (g.M.HoldCounts.memory c.args.mem.now) (g.M.HoldCounts.memory c.release_words.new.mem) ws []) (ap words_of c.as_slice.ensures.pairs) c.release_words.ensures.exchanges

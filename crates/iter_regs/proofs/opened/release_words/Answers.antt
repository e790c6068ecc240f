use Rattle.std.proofs.Common.{refl, ◌∙◌, ap, subst, arith}
use Rattle.std.proofs.lemmas.List.{drop_all}
use Rattle.hic_word.specs.Exchanges.{Exchanges}
use Rattle.hic_word.proofs.callers.Holds.{among_after, exchanges_nothing}
use Rattle.iter_regs.specs.Iters.{words_of}
use Rattle.iter_regs.proofs.Pairs.{given_up_next, next_held}
use Rattle.iter_regs.proofs.opened.release_words.Goals as goal

pub loop-pair-init : goal.loop-pair-init
loop-pair-init g c = record {
  exchanges = exchanges_nothing (g.M.HoldCounts.memory c.args.mem.now) (words_of c.args.pairs.now);
  looks = refl;
}

pub release-requires : goal.release-requires
release-requires g c =
    next_held c.args.pairs.now c.loop-pair.pair-index _ c.loop-pair-test.true (g.M.HoldCounts.memory c.loop-pair.mem)
    (among_after (g.M.HoldCounts.memory c.args.mem.now) (g.M.HoldCounts.memory c.loop-pair.mem) _ _ c.loop-pair.invariant.exchanges.holds c.requires)

pub loop-pair-preserved : goal.loop-pair-preserved
loop-pair-preserved g c = record {
  exchanges = given_up_next c.args.pairs.now c.loop-pair.pair-index _ c.loop-pair-test.true c.loop-pair.invariant.exchanges c.release.ensures.exchanges;
  looks = c.release.ensures.looks ∙ c.loop-pair.invariant.looks;
}

pub returns-clause-exchanges : goal.returns-clause-exchanges
returns-clause-exchanges g c = subst (Exchanges (g.M.HoldCounts.memory c.args.mem.now) (g.M.HoldCounts.memory c.loop-pair.mem) (words_of c.args.pairs.now)) (ap words_of (drop_all c.loop-pair.pair-index c.args.pairs.now (omega arith))) c.loop-pair.invariant.exchanges

use Rattle.std.proofs.Common.{refl, ◌∙◌, subst, arith}
use Rattle.std.proofs.lemmas.List.{drop_all}
use Rattle.hic_word.specs.Exchanges.{Exchanges}
use Rattle.hic_word.proofs.callers.Holds.{among_after, exchanges_nothing}
use Rattle.ref_counts.proofs.GivenUp.{given_up_next, next_held}
use Rattle.ref_counts.proofs.release_each.Goals as goal

pub loop-word-init : goal.loop-word-init
loop-word-init g c = record {
  exchanges = exchanges_nothing (g.M.HoldCounts.memory c.args.mem.now) c.args.words.now;
  looks = refl;
}

pub release-requires : goal.release-requires
release-requires g c =
    next_held (g.M.HoldCounts.memory c.loop-word.mem) c.args.words.now c.loop-word.word-index _ c.loop-word-test.true
    (among_after (g.M.HoldCounts.memory c.args.mem.now) (g.M.HoldCounts.memory c.loop-word.mem) _ _ c.loop-word.invariant.exchanges.holds c.requires)

pub loop-word-preserved : goal.loop-word-preserved
loop-word-preserved g c = record {
  exchanges = given_up_next c.args.words.now c.loop-word.word-index _ c.loop-word-test.true c.loop-word.invariant.exchanges c.release.ensures.exchanges;
  looks = c.release.ensures.looks ∙ c.loop-word.invariant.looks;
}

pub returns-clause-exchanges : goal.returns-clause-exchanges
returns-clause-exchanges g c = subst (Exchanges (g.M.HoldCounts.memory c.args.mem.now) (g.M.HoldCounts.memory c.loop-word.mem) c.args.words.now) (drop_all c.loop-word.word-index c.args.words.now (omega arith)) c.loop-word.invariant.exchanges

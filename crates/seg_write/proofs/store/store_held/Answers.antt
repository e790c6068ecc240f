use Rattle.std.proofs.Common.{[], ◌++◌, sym, subst}
use Rattle.hic_word.specs.Exchanges.{Exchanges}
use Rattle.hic_word.specs.Holds.{Holds}
use Rattle.seg_write.proofs.Quartering.{entry_part}
use Rattle.seg_write.proofs.Trading.{given_back}
use Rattle.seg_write.proofs.store.store_held.Goals as goal

pub release_each-requires : goal.release_each-requires
release_each-requires g c =
    let (held, h) = c.requires.held in
    (held, subst (λ m. Holds 4 m (c.args.pieces.now ++ held)) (sym c.in-Err.ensures.unchanged) h)

pub returns-in-Ok-clause-trades : goal.returns-in-Ok-clause-trades
returns-in-Ok-clause-trades g c = record {
  passes = record { holds = c.in-Ok.ensures.held; lines = c.store.ensures.lines; layout = c.store.ensures.layout };
  counts = c.store.ensures.counts;
}

pub returns-in-Ok-clause-stands : goal.returns-in-Ok-clause-stands
returns-in-Ok-clause-stands g c = λ A a f. entry_part a (c.in-Ok.ensures.stands A a f)

pub returns-in-Err-clause-given_back : goal.returns-in-Err-clause-given_back
returns-in-Err-clause-given_back g c = λ before held n keys h taken.
    given_back before (g.M.HoldCounts.memory c.args.mem.now) (g.M.HoldCounts.memory c.release_each.new.mem) c.args.pieces.now held keys (g.met.M.LineMem.sound c.release_each.new.mem).keys h taken.passes
    (subst (λ m. Exchanges m (g.M.HoldCounts.memory c.release_each.new.mem) c.args.pieces.now []) c.in-Err.ensures.unchanged c.release_each.ensures.exchanges)

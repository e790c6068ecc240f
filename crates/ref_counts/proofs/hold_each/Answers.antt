use Rattle.std.proofs.Common.{◌∙◌, [], subst, arith}
use Rattle.std.proofs.lemmas.List.{take_all}
use Rattle.hic_word.specs.Exchanges.{Exchanges}
use Rattle.ref_counts.proofs.Taken.{live_one, live_still, taken_next}
use Rattle.ref_counts.proofs.hold_each.Goals as goal

pub hold-requires-clause-held : goal.hold-requires-clause-held
hold-requires-clause-held g c = let (H, held) = c.requires.held in (_, c.loop-word.invariant.exchanges.holds H held)

pub hold-requires-clause-live : goal.hold-requires-clause-live
hold-requires-clause-live g c = live_still (g.M.HoldCounts.memory c.args.mem.now) (g.M.HoldCounts.memory c.loop-word.mem) c.args.words.now c.loop-word.word-index _ c.loop-word-test.true c.requires.live c.loop-word.invariant.lines

pub hold-requires-clause-room : goal.hold-requires-clause-room
hold-requires-clause-room g c = λ id e.
    let live = live_one (g.M.HoldCounts.memory c.args.mem.now) c.args.words.now c.loop-word.word-index _ c.loop-word-test.true c.requires.live id e in
    omega (arith, c.loop-word.invariant.counts id, c.requires.room id live)

pub loop-word-preserved : goal.loop-word-preserved
loop-word-preserved g c = record {
  exchanges = taken_next c.args.words.now c.loop-word.word-index _ c.loop-word-test.true c.loop-word.invariant.exchanges c.hold.ensures.exchanges;
  lines = c.hold.ensures.lines ∙ c.loop-word.invariant.lines;
  counts = λ id. omega (arith, c.hold.ensures.counts id, c.loop-word.invariant.counts id);
}

pub returns-clause-exchanges : goal.returns-clause-exchanges
returns-clause-exchanges g c = subst (Exchanges (g.M.HoldCounts.memory c.args.mem.now) (g.M.HoldCounts.memory c.loop-word.mem) []) (take_all c.loop-word.word-index c.args.words.now (omega arith)) c.loop-word.invariant.exchanges

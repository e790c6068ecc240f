use Rattle.std.proofs.Common.{◌+◌, ◌%◌, ◌∷◌, ◌∙◌, arith}
use Rattle.ref_counts.proofs.Taken.{live_one, live_still}
use Rattle.seg_write.proofs.Others.{others_held}
use Rattle.seg_write.proofs.put.hold_others.Goals as goal

pub hold-requires-clause-live : goal.hold-requires-clause-live
hold-requires-clause-live g c = let four = c.told-entries in live_one (g.M.HoldCounts.memory c.args.mem.now) c.args.entries.now ((c.args.place + 1) % 4) _ (omega (arith, four)) c.requires.live

pub hold-requires-2-clause-held : goal.hold-requires-2-clause-held
hold-requires-2-clause-held g c = let (held, h) = c.requires.held in (_, c.hold.ensures.exchanges.holds held h)

pub hold-requires-2-clause-live : goal.hold-requires-2-clause-live
hold-requires-2-clause-live g c = let four = c.told-entries in live_still (g.M.HoldCounts.memory c.args.mem.now) (g.M.HoldCounts.memory c.hold.new.mem) c.args.entries.now ((c.args.place + 2) % 4) _ (omega (arith, four)) c.requires.live c.hold.ensures.lines

pub hold-requires-3-clause-held : goal.hold-requires-3-clause-held
hold-requires-3-clause-held g c = let (held, h) = c.requires.held in (_, c.hold-2.ensures.exchanges.holds _ (c.hold.ensures.exchanges.holds held h))

pub hold-requires-3-clause-live : goal.hold-requires-3-clause-live
hold-requires-3-clause-live g c = let four = c.told-entries in live_still (g.M.HoldCounts.memory c.args.mem.now) (g.M.HoldCounts.memory c.hold-2.new.mem) c.args.entries.now ((c.args.place + 3) % 4) _ (omega (arith, four)) c.requires.live (c.hold-2.ensures.lines ∙ c.hold.ensures.lines)

pub returns-clause-exchanges : goal.returns-clause-exchanges
returns-clause-exchanges g c = λ word is. record {
  holds = λ held h. others_held (g.M.HoldCounts.memory c.hold-3.new.mem) c.args.entries.now c.args.place _ word held c.told-entries c.requires.place is
      (c.hold-3.ensures.exchanges.holds _ (c.hold-2.ensures.exchanges.holds _ (c.hold.ensures.exchanges.holds (word ∷ held) h)));
  lines = λ id line at. c.hold.ensures.exchanges.lines id line (c.hold-2.ensures.exchanges.lines id line (c.hold-3.ensures.exchanges.lines id line at));
  layout = c.hold-3.ensures.exchanges.layout ∙ c.hold-2.ensures.exchanges.layout ∙ c.hold.ensures.exchanges.layout;
}

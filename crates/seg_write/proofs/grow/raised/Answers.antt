use Rattle.std.proofs.Common.{[], ◌∷◌, arith}
use Rattle.std.proofs.Math.Nat.{mul-le-mul_right}
use Rattle.std.proofs.lemmas.Result.{IfOk-weaker, on_err_weaker}
use Rattle.hic_word.specs.Values.{Array}
use Rattle.hic_word.specs.Memory.{line_at}
use Rattle.seg_canon.specs.Parts.{PartFor}
use Rattle.seg_canon.proofs.Growing.{part_grows}
use Rattle.seg_write.proofs.Composing.{gains_after, gains_nothing, lacks_before, lines_within, same_probe}
use Rattle.seg_write.proofs.Lifting.{raise_lift}
use Rattle.seg_write.proofs.Putting.{entry_live}
use Rattle.seg_write.proofs.Raising.{raises_one}
use Rattle.seg_write.proofs.Trading.{trades_held, trades_then}
use Rattle.seg_write.specs.Lone.{CanLift}
use Rattle.seg_write.specs.Trades.{Trades}
use Rattle.seg_write.proofs.grow.raised.Given.{Over}
use Rattle.seg_write.proofs.grow.raised.Goals as goal
use Rattle.seg_write.proofs.grow.raised.Goals.{After-hold}

-- the part, after the hold
held_part : (g : Over) (c : After-hold g) (A : Array) → PartFor 4 (line_at (g.M.HoldCounts.memory c.args.mem.now)) c.args.part A → CanLift (line_at (g.M.HoldCounts.memory c.hold.new.mem)) c.args.part 0 A
held_part g c A f = raise_lift (part_grows _ _ (lines_within (g.M.HoldCounts.memory c.args.mem.now) (g.M.HoldCounts.memory c.hold.new.mem) c.hold.ensures.lines) c.args.part A f)

taken : (g : Over) (c : After-hold g) → Trades (g.M.HoldCounts.memory c.args.mem.now) (g.M.HoldCounts.memory c.hold.new.mem) [] (c.args.part.entry ∷ []) 1
taken g c = trades_held (g.M.HoldCounts.memory c.args.mem.now) (g.M.HoldCounts.memory c.hold.new.mem) (c.args.part.entry ∷ []) 1 1 c.hold.ensures.exchanges c.hold.ensures.lines c.hold.ensures.counts (omega arith)

pub hold-requires-clause-live : goal.hold-requires-clause-live
hold-requires-clause-live g c = let (A, f) = c.requires.part in entry_live (g.M.HoldCounts.memory c.args.mem.now) c.args.part.entry _ f.entry

pub lift-requires-clause-held : goal.lift-requires-clause-held
lift-requires-clause-held g c = let (held, h) = c.requires.held in (held, c.hold.ensures.exchanges.holds held h)

pub lift-requires-clause-part : goal.lift-requires-clause-part
lift-requires-clause-part g c = let (A, f) = c.requires.part in (A, held_part g (goal.at.lift-requires-clause-part g c).After-hold A f)

pub lift-requires-clause-room : goal.lift-requires-clause-room
lift-requires-clause-room g c = λ id.
    let more = c.hold.ensures.counts id in
    let room = c.requires.room id in
    omega (arith, more, room)

pub returns-clause-trades : goal.returns-clause-trades
returns-clause-trades g c = IfOk-weaker c.lift.result _ _ (λ x traded.
    trades_then (g.M.HoldCounts.memory c.args.mem.now) (g.M.HoldCounts.memory c.hold.new.mem) (g.M.HoldCounts.memory c.lift.new.mem) (c.args.part.entry ∷ []) (x ∷ []) 1 1 2 (taken g (goal.at.returns-clause-trades g c).After-hold) traded (omega arith)) c.lift.ensures.trades

pub returns-clause-stands : goal.returns-clause-stands
returns-clause-stands g c = IfOk-weaker c.lift.result _ _ (λ x stands A f. stands A (held_part g (goal.at.returns-clause-stands g c).After-hold A f)) c.lift.ensures.stands

pub returns-clause-gains : goal.returns-clause-gains
returns-clause-gains g c = IfOk-weaker c.lift.result _ _ (λ x gains A R f named.
    let old = g.M.HoldCounts.memory c.args.mem.now in
    let m = g.M.HoldCounts.memory c.hold.new.mem in
    gains_after old m (g.M.HoldCounts.memory c.lift.new.mem) R (gains_nothing old m R c.hold.ensures.lines) (gains A R (held_part g (goal.at.returns-clause-gains g c).After-hold A f) named)) c.lift.ensures.gains

pub returns-clause-full : goal.returns-clause-full
returns-clause-full g c = on_err_weaker c.lift.result (λ lacks A R f named.
    let old = g.M.HoldCounts.memory c.args.mem.now in
    let m = g.M.HoldCounts.memory c.hold.new.mem in
    lacks_before old m R (gains_nothing old m R c.hold.ensures.lines) c.hold.ensures.exchanges.layout (lacks A R (held_part g (goal.at.returns-clause-full g c).After-hold A f) named)) c.lift.ensures.full

pub returns-clause-unchanged : goal.returns-clause-unchanged
returns-clause-unchanged g c =
    let (held, h) = c.requires.held in
    on_err_weaker c.lift.result (λ back. back (g.M.HoldCounts.memory c.args.mem.now) held 1 (g.met.M.LineMem.sound c.args.mem.now).keys h (taken g (goal.at.returns-clause-unchanged g c).After-hold)) c.lift.ensures.given_back

pub returns-clause-looks : goal.returns-clause-looks
returns-clause-looks g c =
    let one = mul-le-mul_right (g.M.HoldCounts.memory c.hold.new.mem).layout.probe (raises_one c.args.part) in
    let same = same_probe c.hold.ensures.exchanges.layout in
    let up = c.lift.ensures.looks.0 in
    let few = c.lift.ensures.looks.1 in
    (up, omega (arith, one, same, few))

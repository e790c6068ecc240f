use Rattle.std.proofs.Common.{[], ◌∷◌, ◌++◌, ◌*◌, ◌+◌, ◌-◌, ◌^◌, ◌≡◌, ◌≤◌, ◌∙◌, ap, arith, drop, length, refl, rules, slice_set, subst, sym, take}
use Rattle.std.specs.Prelude.{IfOk}
use Rattle.std.proofs.Math.Nat.{pow-le-pow_right}
use Rattle.std.proofs.lemmas.Result.{IfOk-weaker, MatchResult-from_err, on_err_weaker}
use Rattle.hic_word.specs.Canon.{enc}
use Rattle.hic_word.specs.Exchanges.{Exchanges}
use Rattle.hic_word.specs.Heights.{height}
use Rattle.hic_word.specs.Holds.{Holds}
use Rattle.hic_word.specs.InMemory.{RootIn}
use Rattle.hic_word.specs.Memory.{Memory, count_at, line_at, most_holds}
use Rattle.hic_word.specs.Parts.{part}
use Rattle.line_mem.specs.Looks.{LooksUpTo}
use Rattle.line_room.specs.Room.{LacksRoom}
use Rattle.seg_canon.specs.Folds.{PiecesFor}
use Rattle.seg_canon.proofs.Packing.{not_true}
use Rattle.seg_read.specs.Levels.{levels, own_line}
use Rattle.seg_read.proofs.Levels.{levels_low}
use Rattle.seg_write.specs.Gains.{HasNamed, HaveNamed}
use Rattle.seg_write.specs.Puts.{AreEntries, CanPut, HaveLevels, put_at}
use Rattle.seg_write.specs.Trades.{Passes}
use Rattle.seg_write.proofs.Changing.{four_quarters}
use Rattle.seg_write.proofs.Composing.{lacks_before, same_probe}
use Rattle.seg_write.proofs.Falling.{fallen_looks, first_is, four_fall, kept_looks, later_are, later_looks, nothing_changes, puts_first, puts_later, top_pieces, top_room}
use Rattle.seg_write.proofs.Leaves.{own_line_low}
use Rattle.seg_write.proofs.Naming.{quarters_named}
use Rattle.seg_write.proofs.Putting.{changed_part, none_left, own_most, some_left}
use Rattle.seg_write.proofs.Quartering.{level_below, levels_below}
use Rattle.seg_write.proofs.Rooted.{root_in, same_held, tall_rooted}
use Rattle.seg_write.proofs.Tops.{AreZeros, empty_levels, first_alone, last_three, later_levels, later_named, later_quarters, later_reach, later_zeros, nothing_taken, set_first, top_named, zeros_empty, zeros_later}
use Rattle.seg_write.proofs.Trading.{given_back, same_sum, trades_after, trades_then, trades_words}
use Rattle.seg_write.proofs.Turning.{cut_first}
use Rattle.seg_write.proofs.shrink.«+put_root».Given.{Over}
use Rattle.seg_write.proofs.shrink.«+put_root».Goals as goal
use Rattle.seg_write.proofs.shrink.«+put_root».Goals.{After-put, Then-is_zero-3, else-is_zero-via-then-is_zero+then-is_zero-2+else-is_zero-3, else-is_zero-via-then-is_zero+else-is_zero-2, else-is_zero-via-else-is_zero}

pub root_held-requires-clause-part : goal.root_held-requires-clause-part
root_held-requires-clause-part g t c = let (A, L, f) = c.requires.put in (A, f.part)

pub root_held-requires-clause-room : goal.root_held-requires-clause-room
root_held-requires-clause-room g t c = λ id. let room = c.requires.room id in omega (arith, room)

pub returns-then-is_empty-clause-stands : goal.returns-then-is_empty-clause-stands
returns-then-is_empty-clause-stands g t c = λ A L f.
    let none = none_left c.args.changes.now c.is_empty.result c.if-is_empty.true c.is_empty.ensures in
    subst (RootIn (g.M.HoldCounts.memory c.root_held.new.mem) c.root_held.result) (nothing_changes f none) (c.root_held.ensures.stands A f.part)

pub returns-then-is_empty-clause-looks : goal.returns-then-is_empty-clause-looks
returns-then-is_empty-clause-looks g t c = λ A L f.
    let none = none_left c.args.changes.now c.is_empty.result c.if-is_empty.true c.is_empty.ensures in
    let same = ap (height 4) (nothing_changes f none) in
    let looks = c.root_held.ensures.looks A f.part in
    let last = looks.1 in
    (looks.0, omega (arith, last, same))

pub lowest_root-requires-clause-put : goal.lowest_root-requires-clause-put
lowest_root-requires-clause-put g t c = let (A, L, f) = c.requires.put in (A, L, subst (λ h. CanPut (line_at (g.M.HoldCounts.memory c.args.mem.now)) h c.args.entry 0 c.args.changes.now A L) c.if-top-eq1.true f)

pub lowest_root-requires-clause-room : goal.lowest_root-requires-clause-room
lowest_root-requires-clause-room g t c = λ id.
    let one = ap (λ h. 4 * h * length c.args.changes.now) c.if-top-eq1.true in
    let room = c.requires.room id in
    omega (arith, one, room)

pub returns-then-top-eq1-clause-stands : goal.returns-then-top-eq1-clause-stands
returns-then-top-eq1-clause-stands g t c = IfOk-weaker c.lowest_root.result _ _ (λ x stands A L f.
    subst (λ h. RootIn (g.M.HoldCounts.memory c.lowest_root.new.mem) x (put_at h 0 A L)) (sym c.if-top-eq1.true) (stands A L (subst (λ h. CanPut (line_at (g.M.HoldCounts.memory c.args.mem.now)) h c.args.entry 0 c.args.changes.now A L) c.if-top-eq1.true f))) c.lowest_root.ensures.stands

pub returns-then-top-eq1-clause-full : goal.returns-then-top-eq1-clause-full
returns-then-top-eq1-clause-full g t c = on_err_weaker c.lowest_root.result (λ lacks A L f.
    subst (λ h. LacksRoom 4 (g.M.HoldCounts.memory c.args.mem.now) (put_at h 0 A L ∷ [])) (sym c.if-top-eq1.true) (lacks A L (subst (λ h. CanPut (line_at (g.M.HoldCounts.memory c.args.mem.now)) h c.args.entry 0 c.args.changes.now A L) c.if-top-eq1.true f))) c.lowest_root.ensures.full

pub returns-then-top-eq1-clause-looks : goal.returns-then-top-eq1-clause-looks
returns-then-top-eq1-clause-looks g t c = λ A L f.
    let n = length c.args.changes.now in
    subst (λ h. LooksUpTo (n * levels (enc 4 h A) + height 4 (put_at h 0 A L) + n * height 4 (put_at h 0 A L) * (g.M.HoldCounts.memory c.args.mem.now).layout.probe) c.args.steps.now c.lowest_root.new.steps) (sym c.if-top-eq1.true)
    (c.lowest_root.ensures.looks A L (subst (λ h. CanPut (line_at (g.M.HoldCounts.memory c.args.mem.now)) h c.args.entry 0 c.args.changes.now A L) c.if-top-eq1.true f))

pub tall_root-requires-clause-high : goal.tall_root-requires-clause-high
tall_root-requires-clause-high g t c =
    let (A, L, f) = c.requires.put in
    let positive = f.part.is_part.positive in
    let more = c.if-top-eq1.false in
    omega (arith, positive, more)

pub open-pieces-requires : goal.open-pieces-requires
open-pieces-requires g t c = let (A, L, f) = c.requires.put in (c.args.top, A, f.part)

pub span-size-requires : goal.span-size-requires
span-size-requires g t c = let (A, L, f) = c.requires.put in let low = f.part.is_part.low in omega (arith, low)

pub below-requires : goal.below-requires
below-requires g t c = let (A, L, f) = c.requires.put in (line_at (g.M.HoldCounts.memory c.args.mem.now), 0, L, f.changes.changes, f.changes.ascend)

pub put_from-requires-clause-high : goal.put_from-requires-clause-high
put_from-requires-clause-high g t c =
    let (A, L, f) = c.requires.put in
    let low = f.part.is_part.low in
    omega (arith, low)

pub put_from-requires-clause-put : goal.put_from-requires-clause-put
put_from-requires-clause-put g t c =
    let (A, L, f) = c.requires.put in
    let high : 2 ≤ c.args.top = (let positive = f.part.is_part.positive in let more = c.if-top-eq1.false in omega (arith, positive, more)) in
    let w = cut_first c.below.result 3 c.span-size.ensures c.split_at.ensures.front c.split_at.ensures.back c.below.ensures.low c.below.ensures.high (four_fall f high) in
    let p = c.open-pieces.ensures.pieces c.args.top A f.part in
    (later_quarters c.args.top A, drop c.below.result L, (puts_later f high w c.open-pieces.result p))

pub put_from-requires-clause-room : goal.put_from-requires-clause-room
put_from-requires-clause-room g t c = λ id.
    let (A, L, f) = c.requires.put in
    let high : 2 ≤ c.args.top = (let positive = f.part.is_part.positive in let more = c.if-top-eq1.false in omega (arith, positive, more)) in
    let w = cut_first c.below.result 3 c.span-size.ensures c.split_at.ensures.front c.split_at.ensures.back c.below.ensures.low c.below.ensures.high (four_fall f high) in
    let some = some_left c.args.changes.now c.is_empty.result c.if-is_empty.false c.is_empty.ensures in
    let room = top_room _ _ (length c.args.changes.now) c.args.top (count_at (g.M.HoldCounts.memory c.args.mem.now) id) most_holds w.lengths some high (c.requires.room id) in
    omega (arith, room)

pub put_from-requires-clause-low : goal.put_from-requires-clause-low
put_from-requires-clause-low g t c =
    let (A, L, f) = c.requires.put in
    let high : 2 ≤ c.args.top = (let positive = f.part.is_part.positive in let more = c.if-top-eq1.false in omega (arith, positive, more)) in
    let four = four_quarters c.args.top f.part.is_part.positive in
    let most : 4 ^ c.args.top ≤ 4 ^ 16 = pow-le-pow_right (omega arith) f.part.is_part.low in
    let size = c.span-size.ensures in
    omega (arith, four, most, size)

-- the later quarters are empty
none_later : (g : Over) (t : _) (c : Then-is_zero-3 g t) → AreZeros (drop 1 c.put_from.new.entries)
none_later g t c = later_zeros c.put_from.new.entries _ (omega arith) (c.is_zero.ensures.word.0 c.if-is_zero.true) (c.is_zero-then-is_zero.ensures.word.0 c.if-is_zero-2.true) (c.is_zero-then-is_zero-2.ensures.word.0 c.if-is_zero-3.true)

still : (g : Over) (t : _) (c : Then-is_zero-3 g t) → g.M.HoldCounts.memory c.put_from.new.mem ≡ g.M.HoldCounts.memory c.args.mem.now
still g t c = let (held, h) = c.requires.held in nothing_taken (g.M.HoldCounts.memory c.args.mem.now) (g.M.HoldCounts.memory c.put_from.new.mem) (drop 1 c.put_from.new.entries) held (g.met.M.LineMem.sound c.args.mem.now).keys (g.met.M.LineMem.sound c.put_from.new.mem).keys h c.in_ok-put_from.ensures.trades.passes (none_later g t c)

-- or some of them is not
some_later : (g : Over) (t : _) (c : After-put g t) → AreZeros (drop 1 c.put_from.new.entries) → ⊥
some_later g t c zeros = let tests = zeros_later c.put_from.new.entries _ (omega arith) zeros in elim c.else-is_zero.branch [
  | else-is_zero-via-then-is_zero+then-is_zero-2+else-is_zero-3 b ↦ not_true _ b.is_zero-then-is_zero-2.ensures.word.1 b.if-is_zero-3.false tests.2
  | else-is_zero-via-then-is_zero+else-is_zero-2 b ↦ not_true _ b.is_zero-then-is_zero.ensures.word.1 b.if-is_zero-2.false tests.1
  | else-is_zero-via-else-is_zero b ↦ not_true _ c.is_zero.ensures.word.1 b.if-is_zero.false tests.0
]

pub put_root-requires : goal.put_root-requires
put_root-requires g t c κs within =
    let (A, L, f) = c.requires.put in
    let high : 2 ≤ c.args.top = (let positive = f.part.is_part.positive in let more = c.if-top-eq1.false in omega (arith, positive, more)) in
    let w = cut_first c.below.result 3 c.span-size.ensures c.split_at.ensures.front c.split_at.ensures.back c.below.ensures.low c.below.ensures.high (four_fall f high) in
    let p = c.open-pieces.ensures.pieces c.args.top A f.part in
    let some = some_left c.args.changes.now c.is_empty.result c.if-is_empty.false c.is_empty.ensures in
    let (held, h) = c.requires.held in
    let d = (goal.at.put_root-requires g t c).Then-is_zero-3 in
    (search rules, (search rules, (search rules, ((held, subst (λ m. Holds 4 m held) (sym (still g t d)) h), ((part 4 A c.args.top 0, take c.below.result L, (puts_first f high w (line_at (g.M.HoldCounts.memory c.put_from.new.mem)) c.open-pieces.result _ c.in_ok-put_from.ensures.trades.passes.lines p)), λ id. let room = top_room _ _ (length c.args.changes.now) c.args.top (count_at (g.M.HoldCounts.memory c.args.mem.now) id) most_holds w.lengths some high (c.requires.room id) in let same = ap (λ (m : Memory). count_at m id) (still g t d) in omega (arith, room, same))))))

pub returns-then-is_zero-3-clause-passes : goal.returns-then-is_zero-3-clause-passes
returns-then-is_zero-3-clause-passes g t c =
    let d = (goal.at.returns-then-is_zero-3-clause-passes g t c).Then-is_zero-3 in
    subst (λ m. IfOk c.put_root.result (λ root. Passes m (g.M.HoldCounts.memory c.put_root.new.mem) [] (root ∷ []))) (still g t d) c.put_root.ensures.passes

pub returns-then-is_zero-3-clause-stands : goal.returns-then-is_zero-3-clause-stands
returns-then-is_zero-3-clause-stands g t c =
    let d = (goal.at.returns-then-is_zero-3-clause-stands g t c).Then-is_zero-3 in
    IfOk-weaker c.put_root.result _ _ (λ root stands A L f.
    let high : 2 ≤ c.args.top = (let positive = f.part.is_part.positive in let more = c.if-top-eq1.false in omega (arith, positive, more)) in
    let w = cut_first c.below.result 3 c.span-size.ensures c.split_at.ensures.front c.split_at.ensures.back c.below.ensures.low c.below.ensures.high (four_fall f high) in
    let p = c.open-pieces.ensures.pieces c.args.top A f.part in
    let stand = c.in_ok-put_from.ensures.stand (later_quarters c.args.top A) (drop c.below.result L) (puts_later f high w c.open-pieces.result p) in
    let later = subst (AreEntries (line_at (g.M.HoldCounts.memory c.put_from.new.mem)) (c.args.top - 1) (drop 1 c.put_from.new.entries)) (later_are f high w) stand in
    subst (RootIn (g.M.HoldCounts.memory c.put_root.new.mem) root) (first_is f high w ∙ first_alone c.args.top (put_at c.args.top 0 A L) high (changed_part f) (zeros_empty (line_at (g.M.HoldCounts.memory c.put_from.new.mem)) (c.args.top - 1) (drop 1 c.put_from.new.entries) (later_quarters c.args.top (put_at c.args.top 0 A L)) later (none_later g t d))) (stands (part 4 A c.args.top 0) (take c.below.result L) (puts_first f high w (line_at (g.M.HoldCounts.memory c.put_from.new.mem)) c.open-pieces.result _ c.in_ok-put_from.ensures.trades.passes.lines p))) c.put_root.ensures.stands

pub returns-then-is_zero-3-clause-full : goal.returns-then-is_zero-3-clause-full
returns-then-is_zero-3-clause-full g t c =
    let d = (goal.at.returns-then-is_zero-3-clause-full g t c).Then-is_zero-3 in
    on_err_weaker c.put_root.result (λ lacks A L f.
    let high : 2 ≤ c.args.top = (let positive = f.part.is_part.positive in let more = c.if-top-eq1.false in omega (arith, positive, more)) in
    let w = cut_first c.below.result 3 c.span-size.ensures c.split_at.ensures.front c.split_at.ensures.back c.below.ensures.low c.below.ensures.high (four_fall f high) in
    let p = c.open-pieces.ensures.pieces c.args.top A f.part in
    let stand = c.in_ok-put_from.ensures.stand (later_quarters c.args.top A) (drop c.below.result L) (puts_later f high w c.open-pieces.result p) in
    let later = subst (AreEntries (line_at (g.M.HoldCounts.memory c.put_from.new.mem)) (c.args.top - 1) (drop 1 c.put_from.new.entries)) (later_are f high w) stand in
    subst (λ m. LacksRoom 4 m ((put_at c.args.top 0 A L) ∷ [])) (still g t d) (subst (λ B. LacksRoom 4 (g.M.HoldCounts.memory c.put_from.new.mem) (B ∷ [])) (first_is f high w ∙ first_alone c.args.top (put_at c.args.top 0 A L) high (changed_part f) (zeros_empty (line_at (g.M.HoldCounts.memory c.put_from.new.mem)) (c.args.top - 1) (drop 1 c.put_from.new.entries) (later_quarters c.args.top (put_at c.args.top 0 A L)) later (none_later g t d))) (lacks (part 4 A c.args.top 0) (take c.below.result L) (puts_first f high w (line_at (g.M.HoldCounts.memory c.put_from.new.mem)) c.open-pieces.result _ c.in_ok-put_from.ensures.trades.passes.lines p)))) c.put_root.ensures.full

pub returns-then-is_zero-3-clause-unchanged : goal.returns-then-is_zero-3-clause-unchanged
returns-then-is_zero-3-clause-unchanged g t c =
    let d = (goal.at.returns-then-is_zero-3-clause-unchanged g t c).Then-is_zero-3 in
    on_err_weaker c.put_root.result (λ same. same ∙ still g t d) c.put_root.ensures.unchanged

pub returns-then-is_zero-3-clause-looks : goal.returns-then-is_zero-3-clause-looks
returns-then-is_zero-3-clause-looks g t c = λ A L f.
    let d = (goal.at.returns-then-is_zero-3-clause-looks g t c).Then-is_zero-3 in
    let high : 2 ≤ c.args.top = (let positive = f.part.is_part.positive in let more = c.if-top-eq1.false in omega (arith, positive, more)) in
    let w = cut_first c.below.result 3 c.span-size.ensures c.split_at.ensures.front c.split_at.ensures.back c.below.ensures.low c.below.ensures.high (four_fall f high) in
    let p = c.open-pieces.ensures.pieces c.args.top A f.part in
    let stand = c.in_ok-put_from.ensures.stand (later_quarters c.args.top A) (drop c.below.result L) (puts_later f high w c.open-pieces.result p) in
    let later = subst (AreEntries (line_at (g.M.HoldCounts.memory c.put_from.new.mem)) (c.args.top - 1) (drop 1 c.put_from.new.entries)) (later_are f high w) stand in
    let some = some_left c.args.changes.now c.is_empty.result c.if-is_empty.false c.is_empty.ensures in
    let none = zeros_empty (line_at (g.M.HoldCounts.memory c.put_from.new.mem)) (c.args.top - 1) (drop 1 c.put_from.new.entries) (later_quarters c.args.top (put_at c.args.top 0 A L)) later (none_later g t d) in
    let before = c.put_from.ensures.looks (later_quarters c.args.top A) (drop c.below.result L) _ 0 (puts_later f high w c.open-pieces.result p) (levels_below c.args.top A high f.part.is_part).1 (subst (HaveLevels 0 (c.args.top - 1)) (sym (later_are f high w)) (empty_levels 0 (c.args.top - 1) (later_quarters c.args.top (put_at c.args.top 0 A L)) none)) in
    let after = c.put_root.ensures.looks (part 4 A c.args.top 0) (take c.below.result L) (puts_first f high w (line_at (g.M.HoldCounts.memory c.put_from.new.mem)) c.open-pieces.result _ c.in_ok-put_from.ensures.trades.passes.lines p) in
    let whole = first_is f high w ∙ first_alone c.args.top (put_at c.args.top 0 A L) high (changed_part f) (zeros_empty (line_at (g.M.HoldCounts.memory c.put_from.new.mem)) (c.args.top - 1) (drop 1 c.put_from.new.entries) (later_quarters c.args.top (put_at c.args.top 0 A L)) later (none_later g t d)) in
    fallen_looks _ _ (length c.args.changes.now) (levels (enc 4 c.args.top A)) (levels (enc 4 (c.args.top - 1) (part 4 A c.args.top 0))) (own_line (enc 4 c.args.top A)) (height 4 (put_at c.args.top 0 A L)) (g.M.HoldCounts.memory c.args.mem.now).layout.probe (g.M.HoldCounts.memory c.put_from.new.mem).layout.probe c.args.steps.now c.open-pieces.new.steps c.put_from.new.steps c.put_root.new.steps w.lengths some
    (level_below c.args.top 0 A high (omega arith) f.part.is_part) (same_probe c.in_ok-put_from.ensures.trades.passes.layout) (c.open-pieces.ensures.looks c.args.top A f.part) before
    (subst (λ k. LooksUpTo (length c.split_at.result.0.now * levels (enc 4 (c.args.top - 1) (part 4 A c.args.top 0)) + k + length c.split_at.result.0.now * k * (g.M.HoldCounts.memory c.put_from.new.mem).layout.probe) c.put_from.new.steps c.put_root.new.steps) (ap (height 4) whole) after)

pub put-requires-clause-held : goal.put-requires-clause-held
put-requires-clause-held g t c =
    let (held, h) = c.requires.held in
    (drop 1 c.put_from.new.entries ++ held, c.in_ok-put_from.ensures.trades.passes.holds held h)

pub put-requires-clause-put : goal.put-requires-clause-put
put-requires-clause-put g t c =
    let (A, L, f) = c.requires.put in
    let high : 2 ≤ c.args.top = (let positive = f.part.is_part.positive in let more = c.if-top-eq1.false in omega (arith, positive, more)) in
    let w = cut_first c.below.result 3 c.span-size.ensures c.split_at.ensures.front c.split_at.ensures.back c.below.ensures.low c.below.ensures.high (four_fall f high) in
    let p = c.open-pieces.ensures.pieces c.args.top A f.part in
    (part 4 A c.args.top 0, take c.below.result L, (puts_first f high w (line_at (g.M.HoldCounts.memory c.put_from.new.mem)) c.open-pieces.result _ c.in_ok-put_from.ensures.trades.passes.lines p))

pub put-requires-clause-room : goal.put-requires-clause-room
put-requires-clause-room g t c = λ id.
    let (A, L, f) = c.requires.put in
    let high : 2 ≤ c.args.top = (let positive = f.part.is_part.positive in let more = c.if-top-eq1.false in omega (arith, positive, more)) in
    let w = cut_first c.below.result 3 c.span-size.ensures c.split_at.ensures.front c.split_at.ensures.back c.below.ensures.low c.below.ensures.high (four_fall f high) in
    let p = c.open-pieces.ensures.pieces c.args.top A f.part in
    let some = some_left c.args.changes.now c.is_empty.result c.if-is_empty.false c.is_empty.ensures in
    let room = top_room _ _ (length c.args.changes.now) c.args.top (count_at (g.M.HoldCounts.memory c.args.mem.now) id) most_holds w.lengths some high (c.requires.room id) in
    let more = c.in_ok-put_from.ensures.trades.counts id in
    omega (arith, room, more)

pub put-requires-clause-low : goal.put-requires-clause-low
put-requires-clause-low g t c =
    let (A, L, f) = c.requires.put in
    let low = f.part.is_part.low in
    let less : c.args.top - 1 ≤ 16 = omega (arith, low) in
    let most : 4 ^ (c.args.top - 1) ≤ 4 ^ 16 = pow-le-pow_right (omega arith) less in
    omega (arith, most)

pub store_held-requires-clause-held : goal.store_held-requires-clause-held
store_held-requires-clause-held g t c =
    let (held, h) = c.requires.held in
    let traded = trades_words _ _ (sym (set_first c.put_from.new.entries c.in-Ok.first (omega arith))) (trades_after (g.M.HoldCounts.memory c.args.mem.now) (g.M.HoldCounts.memory c.put_from.new.mem) (g.M.HoldCounts.memory c.put.new.mem) c.in-Ok.first (drop 1 c.put_from.new.entries) _ _ _ c.in_ok-put_from.ensures.trades c.in-Ok.ensures.trades (same_sum _)) in
    (held, traded.passes.holds held h)

pub store_held-requires-clause-part : goal.store_held-requires-clause-part
store_held-requires-clause-part g t c =
    let (A, L, f) = c.requires.put in
    let high : 2 ≤ c.args.top = (let positive = f.part.is_part.positive in let more = c.if-top-eq1.false in omega (arith, positive, more)) in
    let w = cut_first c.below.result 3 c.span-size.ensures c.split_at.ensures.front c.split_at.ensures.back c.below.ensures.low c.below.ensures.high (four_fall f high) in
    let p = c.open-pieces.ensures.pieces c.args.top A f.part in
    let stand = c.in_ok-put_from.ensures.stand (later_quarters c.args.top A) (drop c.below.result L) (puts_later f high w c.open-pieces.result p) in
    let pieces = subst (λ xs. PiecesFor 4 (line_at (g.M.HoldCounts.memory c.put.new.mem)) c.args.top xs (put_at c.args.top 0 A L)) (sym (set_first c.put_from.new.entries c.in-Ok.first (omega arith))) (top_pieces f high w (line_at (g.M.HoldCounts.memory c.put_from.new.mem)) (line_at (g.M.HoldCounts.memory c.put.new.mem)) c.in-Ok.first (drop 1 c.put_from.new.entries) c.in-Ok.ensures.trades.passes.lines stand (c.in-Ok.ensures.stands (part 4 A c.args.top 0) (take c.below.result L) (puts_first f high w (line_at (g.M.HoldCounts.memory c.put_from.new.mem)) c.open-pieces.result _ c.in_ok-put_from.ensures.trades.passes.lines p))) in
    ((put_at c.args.top 0 A L), changed_part f, pieces)

pub store_held-requires-clause-room : goal.store_held-requires-clause-room
store_held-requires-clause-room g t c = λ id.
    let (A, L, f) = c.requires.put in
    let high : 2 ≤ c.args.top = (let positive = f.part.is_part.positive in let more = c.if-top-eq1.false in omega (arith, positive, more)) in
    let w = cut_first c.below.result 3 c.span-size.ensures c.split_at.ensures.front c.split_at.ensures.back c.below.ensures.low c.below.ensures.high (four_fall f high) in
    let p = c.open-pieces.ensures.pieces c.args.top A f.part in
    let some = some_left c.args.changes.now c.is_empty.result c.if-is_empty.false c.is_empty.ensures in
    let room = top_room _ _ (length c.args.changes.now) c.args.top (count_at (g.M.HoldCounts.memory c.args.mem.now) id) most_holds w.lengths some high (c.requires.room id) in
    let more = c.in_ok-put_from.ensures.trades.counts id in
    let then = c.in-Ok.ensures.trades.counts id in
    omega (arith, room, more, then)

pub returns-in_ok-entry-in-Ok-clause-passes : goal.returns-in_ok-entry-in-Ok-clause-passes
returns-in_ok-entry-in-Ok-clause-passes g t c =
    let d = (goal.at.returns-in_ok-entry-in-Ok-clause-passes g t c).After-put in
    let (A, L, f) = c.requires.put in
    let high : 2 ≤ c.args.top = (let positive = f.part.is_part.positive in let more = c.if-top-eq1.false in omega (arith, positive, more)) in
    let w = cut_first c.below.result 3 c.span-size.ensures c.split_at.ensures.front c.split_at.ensures.back c.below.ensures.low c.below.ensures.high (four_fall f high) in
    let p = c.open-pieces.ensures.pieces c.args.top A f.part in
    let stand = c.in_ok-put_from.ensures.stand (later_quarters c.args.top A) (drop c.below.result L) (puts_later f high w c.open-pieces.result p) in
    let later = subst (AreEntries (line_at (g.M.HoldCounts.memory c.put_from.new.mem)) (c.args.top - 1) (drop 1 c.put_from.new.entries)) (later_are f high w) stand in
    let reach = later_reach c.args.top (put_at c.args.top 0 A L) high (changed_part f) (line_at (g.M.HoldCounts.memory c.put_from.new.mem)) (c.args.top - 1) (drop 1 c.put_from.new.entries) later (some_later g t d) in
    let traded = trades_words _ _ (sym (set_first c.put_from.new.entries c.in-Ok.first (omega arith))) (trades_after (g.M.HoldCounts.memory c.args.mem.now) (g.M.HoldCounts.memory c.put_from.new.mem) (g.M.HoldCounts.memory c.put.new.mem) c.in-Ok.first (drop 1 c.put_from.new.entries) _ _ _ c.in_ok-put_from.ensures.trades c.in-Ok.ensures.trades (same_sum _)) in
    let pieces = subst (λ xs. PiecesFor 4 (line_at (g.M.HoldCounts.memory c.put.new.mem)) c.args.top xs (put_at c.args.top 0 A L)) (sym (set_first c.put_from.new.entries c.in-Ok.first (omega arith))) (top_pieces f high w (line_at (g.M.HoldCounts.memory c.put_from.new.mem)) (line_at (g.M.HoldCounts.memory c.put.new.mem)) c.in-Ok.first (drop 1 c.put_from.new.entries) c.in-Ok.ensures.trades.passes.lines stand (c.in-Ok.ensures.stands (part 4 A c.args.top 0) (take c.below.result L) (puts_first f high w (line_at (g.M.HoldCounts.memory c.put_from.new.mem)) c.open-pieces.result _ c.in_ok-put_from.ensures.trades.passes.lines p))) in
    let rooted = tall_rooted (c.in_ok-entry-in-Ok.ensures.stands (put_at c.args.top 0 A L) (changed_part f) pieces) reach high c.root_with.ensures in
    let all = (trades_then (g.M.HoldCounts.memory c.args.mem.now) (g.M.HoldCounts.memory c.put.new.mem) (g.M.HoldCounts.memory c.store_held.new.mem) (slice_set c.put_from.new.entries 0 c.in-Ok.first) (c.in_ok-entry-in-Ok.entry ∷ []) _ _ _ traded c.in_ok-entry-in-Ok.ensures.trades (same_sum _)).passes in
    record { holds = λ held h. same_held held (sym rooted.names) (all.holds held h); lines = all.lines; layout = all.layout }

pub returns-in_ok-entry-in-Ok-clause-stands : goal.returns-in_ok-entry-in-Ok-clause-stands
returns-in_ok-entry-in-Ok-clause-stands g t c = λ A L f.
    let d = (goal.at.returns-in_ok-entry-in-Ok-clause-stands g t c).After-put in
    let high : 2 ≤ c.args.top = (let positive = f.part.is_part.positive in let more = c.if-top-eq1.false in omega (arith, positive, more)) in
    let w = cut_first c.below.result 3 c.span-size.ensures c.split_at.ensures.front c.split_at.ensures.back c.below.ensures.low c.below.ensures.high (four_fall f high) in
    let p = c.open-pieces.ensures.pieces c.args.top A f.part in
    let stand = c.in_ok-put_from.ensures.stand (later_quarters c.args.top A) (drop c.below.result L) (puts_later f high w c.open-pieces.result p) in
    let later = subst (AreEntries (line_at (g.M.HoldCounts.memory c.put_from.new.mem)) (c.args.top - 1) (drop 1 c.put_from.new.entries)) (later_are f high w) stand in
    let reach = later_reach c.args.top (put_at c.args.top 0 A L) high (changed_part f) (line_at (g.M.HoldCounts.memory c.put_from.new.mem)) (c.args.top - 1) (drop 1 c.put_from.new.entries) later (some_later g t d) in
    let pieces = subst (λ xs. PiecesFor 4 (line_at (g.M.HoldCounts.memory c.put.new.mem)) c.args.top xs (put_at c.args.top 0 A L)) (sym (set_first c.put_from.new.entries c.in-Ok.first (omega arith))) (top_pieces f high w (line_at (g.M.HoldCounts.memory c.put_from.new.mem)) (line_at (g.M.HoldCounts.memory c.put.new.mem)) c.in-Ok.first (drop 1 c.put_from.new.entries) c.in-Ok.ensures.trades.passes.lines stand (c.in-Ok.ensures.stands (part 4 A c.args.top 0) (take c.below.result L) (puts_first f high w (line_at (g.M.HoldCounts.memory c.put_from.new.mem)) c.open-pieces.result _ c.in_ok-put_from.ensures.trades.passes.lines p))) in
    let rooted = tall_rooted (c.in_ok-entry-in-Ok.ensures.stands (put_at c.args.top 0 A L) (changed_part f) pieces) reach high c.root_with.ensures in
    root_in rooted.root

pub returns-in_ok-entry-in-Ok-clause-looks : goal.returns-in_ok-entry-in-Ok-clause-looks
returns-in_ok-entry-in-Ok-clause-looks g t c = λ A L f.
    let d = (goal.at.returns-in_ok-entry-in-Ok-clause-looks g t c).After-put in
    let high : 2 ≤ c.args.top = (let positive = f.part.is_part.positive in let more = c.if-top-eq1.false in omega (arith, positive, more)) in
    let w = cut_first c.below.result 3 c.span-size.ensures c.split_at.ensures.front c.split_at.ensures.back c.below.ensures.low c.below.ensures.high (four_fall f high) in
    let p = c.open-pieces.ensures.pieces c.args.top A f.part in
    let some = some_left c.args.changes.now c.is_empty.result c.if-is_empty.false c.is_empty.ensures in
    let stand = c.in_ok-put_from.ensures.stand (later_quarters c.args.top A) (drop c.below.result L) (puts_later f high w c.open-pieces.result p) in
    let later = subst (AreEntries (line_at (g.M.HoldCounts.memory c.put_from.new.mem)) (c.args.top - 1) (drop 1 c.put_from.new.entries)) (later_are f high w) stand in
    let reach = later_reach c.args.top (put_at c.args.top 0 A L) high (changed_part f) (line_at (g.M.HoldCounts.memory c.put_from.new.mem)) (c.args.top - 1) (drop 1 c.put_from.new.entries) later (some_later g t d) in
    let pieces = subst (λ xs. PiecesFor 4 (line_at (g.M.HoldCounts.memory c.put.new.mem)) c.args.top xs (put_at c.args.top 0 A L)) (sym (set_first c.put_from.new.entries c.in-Ok.first (omega arith))) (top_pieces f high w (line_at (g.M.HoldCounts.memory c.put_from.new.mem)) (line_at (g.M.HoldCounts.memory c.put.new.mem)) c.in-Ok.first (drop 1 c.put_from.new.entries) c.in-Ok.ensures.trades.passes.lines stand (c.in-Ok.ensures.stands (part 4 A c.args.top 0) (take c.below.result L) (puts_first f high w (line_at (g.M.HoldCounts.memory c.put_from.new.mem)) c.open-pieces.result _ c.in_ok-put_from.ensures.trades.passes.lines p))) in
    let before = c.put_from.ensures.looks (later_quarters c.args.top A) (drop c.below.result L) _ _ (puts_later f high w c.open-pieces.result p) (levels_below c.args.top A high f.part.is_part).1 (subst (HaveLevels (height 4 (put_at c.args.top 0 A L) - 1) (c.args.top - 1)) (sym (later_are f high w)) (later_levels c.args.top (put_at c.args.top 0 A L) high (changed_part f))) in
    let first = c.put.ensures.looks (part 4 A c.args.top 0) (take c.below.result L) (puts_first f high w (line_at (g.M.HoldCounts.memory c.put_from.new.mem)) c.open-pieces.result _ c.in_ok-put_from.ensures.trades.passes.lines p) in
    let low : levels (enc 4 (c.args.top - 1) (put_at (c.args.top - 1) 0 (part 4 A c.args.top 0) (take c.below.result L))) ≤ height 4 (put_at c.args.top 0 A L) - 1 = (let most = levels_low (c.args.top - 1) (put_at (c.args.top - 1) 0 (part 4 A c.args.top 0) (take c.below.result L)) in omega (arith, most, reach)) in
    let same = same_probe (c.in-Ok.ensures.trades.passes.layout ∙ c.in_ok-put_from.ensures.trades.passes.layout) in
    kept_looks _ _ (length c.args.changes.now) (levels (enc 4 c.args.top A)) (levels (enc 4 (c.args.top - 1) (part 4 A c.args.top 0))) _ (own_line (enc 4 c.args.top A)) (own_line (enc 4 c.args.top (put_at c.args.top 0 A L))) (height 4 (put_at c.args.top 0 A L)) (g.M.HoldCounts.memory c.args.mem.now).layout.probe (g.M.HoldCounts.memory c.put_from.new.mem).layout.probe (g.M.HoldCounts.memory c.put.new.mem).layout.probe c.args.steps.now c.open-pieces.new.steps c.put_from.new.steps c.put.new.steps c.store_held.new.steps w.lengths some (level_below c.args.top 0 A high (omega arith) f.part.is_part) low (own_line_low (enc 4 c.args.top (put_at c.args.top 0 A L))) (omega (arith, reach, high)) (same_probe c.in_ok-put_from.ensures.trades.passes.layout) same (c.open-pieces.ensures.looks c.args.top A f.part) before first (c.store_held.ensures.looks (put_at c.args.top 0 A L) (changed_part f) pieces)

pub returns-in_err-entry-in-Ok-clause-full : goal.returns-in_err-entry-in-Ok-clause-full
returns-in_err-entry-in-Ok-clause-full g t c =
    let d = (goal.at.returns-in_err-entry-in-Ok-clause-full g t c).After-put in
    MatchResult-from_err c.from_residual-in_err-entry-in-Ok.result _ _ c.from_residual-in_err-entry-in-Ok.ensures.0 (λ _ A L f.
    let high : 2 ≤ c.args.top = (let positive = f.part.is_part.positive in let more = c.if-top-eq1.false in omega (arith, positive, more)) in
    let w = cut_first c.below.result 3 c.span-size.ensures c.split_at.ensures.front c.split_at.ensures.back c.below.ensures.low c.below.ensures.high (four_fall f high) in
    let p = c.open-pieces.ensures.pieces c.args.top A f.part in
    let stand = c.in_ok-put_from.ensures.stand (later_quarters c.args.top A) (drop c.below.result L) (puts_later f high w c.open-pieces.result p) in
    let later = subst (AreEntries (line_at (g.M.HoldCounts.memory c.put_from.new.mem)) (c.args.top - 1) (drop 1 c.put_from.new.entries)) (later_are f high w) stand in
    let reach = later_reach c.args.top (put_at c.args.top 0 A L) high (changed_part f) (line_at (g.M.HoldCounts.memory c.put_from.new.mem)) (c.args.top - 1) (drop 1 c.put_from.new.entries) later (some_later g t d) in
    let named = top_named c.args.top (put_at c.args.top 0 A L) high (changed_part f) reach in
    let all = quarters_named c.args.top (put_at c.args.top 0 A L) (put_at c.args.top 0 A L) high (changed_part f).valid named in
    let gained = c.in_ok-put_from.ensures.gains (later_quarters c.args.top A) (drop c.below.result L) (put_at c.args.top 0 A L) (puts_later f high w c.open-pieces.result p) (changed_part f).valid (subst (λ As. HaveNamed (c.args.top - 1) As ((put_at c.args.top 0 A L) ∷ [])) (sym (later_are f high w)) (later_named c.args.top (put_at c.args.top 0 A L) high (changed_part f))) in
    let one = subst (λ B. HasNamed (enc 4 (c.args.top - 1) B) ((put_at c.args.top 0 A L) ∷ [])) (sym (first_is f high w)) all.0 in
    let pieces = subst (λ xs. PiecesFor 4 (line_at (g.M.HoldCounts.memory c.put.new.mem)) c.args.top xs (put_at c.args.top 0 A L)) (sym (set_first c.put_from.new.entries c.in-Ok.first (omega arith))) (top_pieces f high w (line_at (g.M.HoldCounts.memory c.put_from.new.mem)) (line_at (g.M.HoldCounts.memory c.put.new.mem)) c.in-Ok.first (drop 1 c.put_from.new.entries) c.in-Ok.ensures.trades.passes.lines stand (c.in-Ok.ensures.stands (part 4 A c.args.top 0) (take c.below.result L) (puts_first f high w (line_at (g.M.HoldCounts.memory c.put_from.new.mem)) c.open-pieces.result _ c.in_ok-put_from.ensures.trades.passes.lines p))) in
    let first_gain = c.in-Ok.ensures.gains (part 4 A c.args.top 0) (take c.below.result L) (put_at c.args.top 0 A L) (puts_first f high w (line_at (g.M.HoldCounts.memory c.put_from.new.mem)) c.open-pieces.result _ c.in_ok-put_from.ensures.trades.passes.lines p) (changed_part f).valid one in
    lacks_before (g.M.HoldCounts.memory c.args.mem.now) (g.M.HoldCounts.memory c.put_from.new.mem) ((put_at c.args.top 0 A L) ∷ []) gained c.in_ok-put_from.ensures.trades.passes.layout (lacks_before (g.M.HoldCounts.memory c.put_from.new.mem) (g.M.HoldCounts.memory c.put.new.mem) ((put_at c.args.top 0 A L) ∷ []) first_gain c.in-Ok.ensures.trades.passes.layout (c.in_err-entry-in-Ok.ensures.full (put_at c.args.top 0 A L) ((put_at c.args.top 0 A L) ∷ []) (changed_part f) pieces named)))

pub returns-in_err-entry-in-Ok-clause-unchanged : goal.returns-in_err-entry-in-Ok-clause-unchanged
returns-in_err-entry-in-Ok-clause-unchanged g t c =
    let (held, h) = c.requires.held in
    let traded = trades_words _ _ (sym (set_first c.put_from.new.entries c.in-Ok.first (omega arith))) (trades_after (g.M.HoldCounts.memory c.args.mem.now) (g.M.HoldCounts.memory c.put_from.new.mem) (g.M.HoldCounts.memory c.put.new.mem) c.in-Ok.first (drop 1 c.put_from.new.entries) _ _ _ c.in_ok-put_from.ensures.trades c.in-Ok.ensures.trades (same_sum _)) in
    MatchResult-from_err c.from_residual-in_err-entry-in-Ok.result _ _ c.from_residual-in_err-entry-in-Ok.ensures.0 (λ _. c.in_err-entry-in-Ok.ensures.given_back (g.M.HoldCounts.memory c.args.mem.now) held _ (g.met.M.LineMem.sound c.args.mem.now).keys h traded)

pub returns-in_err-entry-in-Ok-clause-looks : goal.returns-in_err-entry-in-Ok-clause-looks
returns-in_err-entry-in-Ok-clause-looks g t c = λ A L f.
    let d = (goal.at.returns-in_err-entry-in-Ok-clause-looks g t c).After-put in
    let high : 2 ≤ c.args.top = (let positive = f.part.is_part.positive in let more = c.if-top-eq1.false in omega (arith, positive, more)) in
    let w = cut_first c.below.result 3 c.span-size.ensures c.split_at.ensures.front c.split_at.ensures.back c.below.ensures.low c.below.ensures.high (four_fall f high) in
    let p = c.open-pieces.ensures.pieces c.args.top A f.part in
    let some = some_left c.args.changes.now c.is_empty.result c.if-is_empty.false c.is_empty.ensures in
    let stand = c.in_ok-put_from.ensures.stand (later_quarters c.args.top A) (drop c.below.result L) (puts_later f high w c.open-pieces.result p) in
    let later = subst (AreEntries (line_at (g.M.HoldCounts.memory c.put_from.new.mem)) (c.args.top - 1) (drop 1 c.put_from.new.entries)) (later_are f high w) stand in
    let reach = later_reach c.args.top (put_at c.args.top 0 A L) high (changed_part f) (line_at (g.M.HoldCounts.memory c.put_from.new.mem)) (c.args.top - 1) (drop 1 c.put_from.new.entries) later (some_later g t d) in
    let pieces = subst (λ xs. PiecesFor 4 (line_at (g.M.HoldCounts.memory c.put.new.mem)) c.args.top xs (put_at c.args.top 0 A L)) (sym (set_first c.put_from.new.entries c.in-Ok.first (omega arith))) (top_pieces f high w (line_at (g.M.HoldCounts.memory c.put_from.new.mem)) (line_at (g.M.HoldCounts.memory c.put.new.mem)) c.in-Ok.first (drop 1 c.put_from.new.entries) c.in-Ok.ensures.trades.passes.lines stand (c.in-Ok.ensures.stands (part 4 A c.args.top 0) (take c.below.result L) (puts_first f high w (line_at (g.M.HoldCounts.memory c.put_from.new.mem)) c.open-pieces.result _ c.in_ok-put_from.ensures.trades.passes.lines p))) in
    let before = c.put_from.ensures.looks (later_quarters c.args.top A) (drop c.below.result L) _ _ (puts_later f high w c.open-pieces.result p) (levels_below c.args.top A high f.part.is_part).1 (subst (HaveLevels (height 4 (put_at c.args.top 0 A L) - 1) (c.args.top - 1)) (sym (later_are f high w)) (later_levels c.args.top (put_at c.args.top 0 A L) high (changed_part f))) in
    let first = c.put.ensures.looks (part 4 A c.args.top 0) (take c.below.result L) (puts_first f high w (line_at (g.M.HoldCounts.memory c.put_from.new.mem)) c.open-pieces.result _ c.in_ok-put_from.ensures.trades.passes.lines p) in
    let low : levels (enc 4 (c.args.top - 1) (put_at (c.args.top - 1) 0 (part 4 A c.args.top 0) (take c.below.result L))) ≤ height 4 (put_at c.args.top 0 A L) - 1 = (let most = levels_low (c.args.top - 1) (put_at (c.args.top - 1) 0 (part 4 A c.args.top 0) (take c.below.result L)) in omega (arith, most, reach)) in
    let same = same_probe (c.in-Ok.ensures.trades.passes.layout ∙ c.in_ok-put_from.ensures.trades.passes.layout) in
    kept_looks _ _ (length c.args.changes.now) (levels (enc 4 c.args.top A)) (levels (enc 4 (c.args.top - 1) (part 4 A c.args.top 0))) _ (own_line (enc 4 c.args.top A)) (own_line (enc 4 c.args.top (put_at c.args.top 0 A L))) (height 4 (put_at c.args.top 0 A L)) (g.M.HoldCounts.memory c.args.mem.now).layout.probe (g.M.HoldCounts.memory c.put_from.new.mem).layout.probe (g.M.HoldCounts.memory c.put.new.mem).layout.probe c.args.steps.now c.open-pieces.new.steps c.put_from.new.steps c.put.new.steps c.store_held.new.steps w.lengths some (level_below c.args.top 0 A high (omega arith) f.part.is_part) low (own_line_low (enc 4 c.args.top (put_at c.args.top 0 A L))) (omega (arith, reach, high)) (same_probe c.in_ok-put_from.ensures.trades.passes.layout) same (c.open-pieces.ensures.looks c.args.top A f.part) before first (c.store_held.ensures.looks (put_at c.args.top 0 A L) (changed_part f) pieces)

pub release_each-requires : goal.release_each-requires
release_each-requires g t c =
    let (held, h) = c.requires.held in
    let three = last_three c.put_from.new.entries (omega arith) in
    (held, subst (λ ws. Holds 4 (g.M.HoldCounts.memory c.put.new.mem) (ws ++ held)) (sym three) (subst (λ m. Holds 4 m (drop 1 c.put_from.new.entries ++ held)) (sym c.in-Err.ensures.unchanged) (c.in_ok-put_from.ensures.trades.passes.holds held h)))

pub returns-in-Err-clause-full : goal.returns-in-Err-clause-full
returns-in-Err-clause-full g t c = λ A L f.
    let d = (goal.at.returns-in-Err-clause-full g t c).After-put in
    let high : 2 ≤ c.args.top = (let positive = f.part.is_part.positive in let more = c.if-top-eq1.false in omega (arith, positive, more)) in
    let w = cut_first c.below.result 3 c.span-size.ensures c.split_at.ensures.front c.split_at.ensures.back c.below.ensures.low c.below.ensures.high (four_fall f high) in
    let p = c.open-pieces.ensures.pieces c.args.top A f.part in
    let stand = c.in_ok-put_from.ensures.stand (later_quarters c.args.top A) (drop c.below.result L) (puts_later f high w c.open-pieces.result p) in
    let later = subst (AreEntries (line_at (g.M.HoldCounts.memory c.put_from.new.mem)) (c.args.top - 1) (drop 1 c.put_from.new.entries)) (later_are f high w) stand in
    let reach = later_reach c.args.top (put_at c.args.top 0 A L) high (changed_part f) (line_at (g.M.HoldCounts.memory c.put_from.new.mem)) (c.args.top - 1) (drop 1 c.put_from.new.entries) later (some_later g t d) in
    let named = top_named c.args.top (put_at c.args.top 0 A L) high (changed_part f) reach in
    let all = quarters_named c.args.top (put_at c.args.top 0 A L) (put_at c.args.top 0 A L) high (changed_part f).valid named in
    let gained = c.in_ok-put_from.ensures.gains (later_quarters c.args.top A) (drop c.below.result L) (put_at c.args.top 0 A L) (puts_later f high w c.open-pieces.result p) (changed_part f).valid (subst (λ As. HaveNamed (c.args.top - 1) As ((put_at c.args.top 0 A L) ∷ [])) (sym (later_are f high w)) (later_named c.args.top (put_at c.args.top 0 A L) high (changed_part f))) in
    let one = subst (λ B. HasNamed (enc 4 (c.args.top - 1) B) ((put_at c.args.top 0 A L) ∷ [])) (sym (first_is f high w)) all.0 in
    lacks_before (g.M.HoldCounts.memory c.args.mem.now) (g.M.HoldCounts.memory c.put_from.new.mem) ((put_at c.args.top 0 A L) ∷ []) gained c.in_ok-put_from.ensures.trades.passes.layout (c.in-Err.ensures.full (part 4 A c.args.top 0) (take c.below.result L) (put_at c.args.top 0 A L) (puts_first f high w (line_at (g.M.HoldCounts.memory c.put_from.new.mem)) c.open-pieces.result _ c.in_ok-put_from.ensures.trades.passes.lines p) (changed_part f).valid one)

pub returns-in-Err-clause-unchanged : goal.returns-in-Err-clause-unchanged
returns-in-Err-clause-unchanged g t c =
    let (held, h) = c.requires.held in
    given_back (g.M.HoldCounts.memory c.args.mem.now) (g.M.HoldCounts.memory c.put_from.new.mem) (g.M.HoldCounts.memory c.release_each.new.mem) (drop 1 c.put_from.new.entries) held (g.met.M.LineMem.sound c.args.mem.now).keys (g.met.M.LineMem.sound c.release_each.new.mem).keys h c.in_ok-put_from.ensures.trades.passes (subst (λ m. Exchanges m (g.M.HoldCounts.memory c.release_each.new.mem) (drop 1 c.put_from.new.entries) []) c.in-Err.ensures.unchanged (subst (λ ws. Exchanges (g.M.HoldCounts.memory c.put.new.mem) (g.M.HoldCounts.memory c.release_each.new.mem) ws []) (last_three c.put_from.new.entries (omega arith)) c.release_each.ensures.exchanges))

pub returns-in-Err-clause-looks : goal.returns-in-Err-clause-looks
returns-in-Err-clause-looks g t c = λ A L f.
    let d = (goal.at.returns-in-Err-clause-looks g t c).After-put in
    let high : 2 ≤ c.args.top = (let positive = f.part.is_part.positive in let more = c.if-top-eq1.false in omega (arith, positive, more)) in
    let w = cut_first c.below.result 3 c.span-size.ensures c.split_at.ensures.front c.split_at.ensures.back c.below.ensures.low c.below.ensures.high (four_fall f high) in
    let p = c.open-pieces.ensures.pieces c.args.top A f.part in
    let some = some_left c.args.changes.now c.is_empty.result c.if-is_empty.false c.is_empty.ensures in
    let stand = c.in_ok-put_from.ensures.stand (later_quarters c.args.top A) (drop c.below.result L) (puts_later f high w c.open-pieces.result p) in
    let later = subst (AreEntries (line_at (g.M.HoldCounts.memory c.put_from.new.mem)) (c.args.top - 1) (drop 1 c.put_from.new.entries)) (later_are f high w) stand in
    let reach = later_reach c.args.top (put_at c.args.top 0 A L) high (changed_part f) (line_at (g.M.HoldCounts.memory c.put_from.new.mem)) (c.args.top - 1) (drop 1 c.put_from.new.entries) later (some_later g t d) in
    let before = c.put_from.ensures.looks (later_quarters c.args.top A) (drop c.below.result L) _ _ (puts_later f high w c.open-pieces.result p) (levels_below c.args.top A high f.part.is_part).1 (subst (HaveLevels (height 4 (put_at c.args.top 0 A L) - 1) (c.args.top - 1)) (sym (later_are f high w)) (later_levels c.args.top (put_at c.args.top 0 A L) high (changed_part f))) in
    let first = c.put.ensures.looks (part 4 A c.args.top 0) (take c.below.result L) (puts_first f high w (line_at (g.M.HoldCounts.memory c.put_from.new.mem)) c.open-pieces.result _ c.in_ok-put_from.ensures.trades.passes.lines p) in
    let low : levels (enc 4 (c.args.top - 1) (put_at (c.args.top - 1) 0 (part 4 A c.args.top 0) (take c.below.result L))) ≤ height 4 (put_at c.args.top 0 A L) - 1 = (let most = levels_low (c.args.top - 1) (put_at (c.args.top - 1) 0 (part 4 A c.args.top 0) (take c.below.result L)) in omega (arith, most, reach)) in
    let none : LooksUpTo (0 * (g.M.HoldCounts.memory c.args.mem.now).layout.probe) c.put.new.steps c.put.new.steps = (omega arith, omega arith) in
    let all = kept_looks _ _ (length c.args.changes.now) (levels (enc 4 c.args.top A)) (levels (enc 4 (c.args.top - 1) (part 4 A c.args.top 0))) _ (own_line (enc 4 c.args.top A)) 0 (height 4 (put_at c.args.top 0 A L)) (g.M.HoldCounts.memory c.args.mem.now).layout.probe (g.M.HoldCounts.memory c.put_from.new.mem).layout.probe (g.M.HoldCounts.memory c.args.mem.now).layout.probe c.args.steps.now c.open-pieces.new.steps c.put_from.new.steps c.put.new.steps c.put.new.steps w.lengths some (level_below c.args.top 0 A high (omega arith) f.part.is_part) low (omega arith) (omega (arith, reach, high)) (same_probe c.in_ok-put_from.ensures.trades.passes.layout) refl (c.open-pieces.ensures.looks c.args.top A f.part) before first none in
    subst (λ s. LooksUpTo (length c.args.changes.now * levels (enc 4 c.args.top A) + height 4 (put_at c.args.top 0 A L) + length c.args.changes.now * height 4 (put_at c.args.top 0 A L) * (g.M.HoldCounts.memory c.args.mem.now).layout.probe) c.args.steps.now s) (sym c.release_each.ensures.looks) all

pub returns-in_err-put_from-clause-full : goal.returns-in_err-put_from-clause-full
returns-in_err-put_from-clause-full g t c =
    MatchResult-from_err c.from_residual.result _ _ c.from_residual.ensures.0 (λ _ A L f.
    let high : 2 ≤ c.args.top = (let positive = f.part.is_part.positive in let more = c.if-top-eq1.false in omega (arith, positive, more)) in
    let w = cut_first c.below.result 3 c.span-size.ensures c.split_at.ensures.front c.split_at.ensures.back c.below.ensures.low c.below.ensures.high (four_fall f high) in
    let p = c.open-pieces.ensures.pieces c.args.top A f.part in
    c.in_err-put_from.ensures.full (later_quarters c.args.top A) (drop c.below.result L) (put_at c.args.top 0 A L) (puts_later f high w c.open-pieces.result p) (changed_part f).valid (subst (λ As. HaveNamed (c.args.top - 1) As ((put_at c.args.top 0 A L) ∷ [])) (sym (later_are f high w)) (later_named c.args.top (put_at c.args.top 0 A L) high (changed_part f))))

pub returns-in_err-put_from-clause-looks : goal.returns-in_err-put_from-clause-looks
returns-in_err-put_from-clause-looks g t c = λ A L f.
    let high : 2 ≤ c.args.top = (let positive = f.part.is_part.positive in let more = c.if-top-eq1.false in omega (arith, positive, more)) in
    let w = cut_first c.below.result 3 c.span-size.ensures c.split_at.ensures.front c.split_at.ensures.back c.below.ensures.low c.below.ensures.high (four_fall f high) in
    let p = c.open-pieces.ensures.pieces c.args.top A f.part in
    let some = some_left c.args.changes.now c.is_empty.result c.if-is_empty.false c.is_empty.ensures in
    let before = c.put_from.ensures.looks (later_quarters c.args.top A) (drop c.below.result L) _ _ (puts_later f high w c.open-pieces.result p) (levels_below c.args.top A high f.part.is_part).1 (subst (HaveLevels (height 4 (put_at c.args.top 0 A L) - 1) (c.args.top - 1)) (sym (later_are f high w)) (later_levels c.args.top (put_at c.args.top 0 A L) high (changed_part f))) in
    later_looks _ _ (length c.args.changes.now) (levels (enc 4 c.args.top A)) (own_line (enc 4 c.args.top A)) (height 4 (put_at c.args.top 0 A L)) (g.M.HoldCounts.memory c.args.mem.now).layout.probe c.args.steps.now c.open-pieces.new.steps c.put_from.new.steps w.lengths some (own_most (enc 4 c.args.top A)) (c.open-pieces.ensures.looks c.args.top A f.part) before

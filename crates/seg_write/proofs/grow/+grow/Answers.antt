use Rattle.std.proofs.Common.{[], ◌∷◌, ◌*◌, ◌+◌, ◌-◌, ◌^◌, ◌≤◌, ◌∙◌, arith, drop, length, refl, rules, slice_set, subst, sym, take}
use Rattle.std.proofs.Math.Nat.{pow-le-pow_right}
use Rattle.std.proofs.lemmas.Result.{IfOk-weaker, MatchResult-from_err, on_err_weaker}
use Rattle.hic_word.specs.Canon.{enc}
use Rattle.hic_word.specs.Exchanges.{Exchanges}
use Rattle.hic_word.specs.Holds.{Holds}
use Rattle.hic_word.specs.Memory.{count_at, line_at, most_holds}
use Rattle.line_mem.specs.Looks.{LooksUpTo}
use Rattle.seg_canon.specs.Folds.{PiecesFor}
use Rattle.seg_canon.specs.Parts.{PartFor, whole_part}
use Rattle.seg_read.specs.Levels.{levels, own_line}
use Rattle.seg_write.specs.Gains.{HasNamed}
use Rattle.seg_write.specs.Puts.{put_at, put_each}
use Rattle.seg_write.proofs.Changing.{four_quarters}
use Rattle.seg_write.proofs.Composing.{gains_after, lacks_before, same_probe}
use Rattle.seg_write.proofs.Leaves.{own_line_low}
use Rattle.seg_write.proofs.Putting.{none_left, some_left}
use Rattle.seg_write.proofs.Taller.{first_grown, four_fall, grown_fits, grown_looks, grown_room, grows_first, no_levels, nothing, nothing_put, puts_later, puts_whole, raised_looks, tall, tall_named, tall_part, tall_pieces, whole_looks}
use Rattle.seg_write.proofs.Tops.{low_levels, set_first}
use Rattle.seg_write.proofs.Trading.{given_back, same_sum, trades_before, trades_then, trades_words}
use Rattle.seg_write.proofs.Turning.{cut_first}
use Rattle.seg_write.proofs.grow.«+grow».Goals as goal

pub raised-requires-clause-part : goal.raised-requires-clause-part
raised-requires-clause-part g t c = let (A, L, f) = c.requires.grow in (A, f.part)

pub raised-requires-clause-room : goal.raised-requires-clause-room
raised-requires-clause-room g t c = λ id. let room = c.requires.room id in omega (arith, room)

pub returns-then-is_empty-clause-trades : goal.returns-then-is_empty-clause-trades
returns-then-is_empty-clause-trades g t c = IfOk-weaker c.raised.result _ _ (λ x traded. record { passes = traded.passes; counts = λ id. let few = traded.counts id in omega (arith, few) }) c.raised.ensures.trades

pub returns-then-is_empty-clause-stands : goal.returns-then-is_empty-clause-stands
returns-then-is_empty-clause-stands g t c = IfOk-weaker c.raised.result _ _ (λ x stands A L f.
    let none = none_left c.args.changes.now c.is_empty.result c.if-is_empty.true c.is_empty.ensures in
    subst (PartFor 4 (line_at (g.M.HoldCounts.memory c.raised.new.mem)) (whole_part c.args.part.top x)) (nothing_put f none) (stands A f.part)) c.raised.ensures.stands

pub returns-then-is_empty-clause-gains : goal.returns-then-is_empty-clause-gains
returns-then-is_empty-clause-gains g t c = IfOk-weaker c.raised.result _ _ (λ x gains A L C f whole named.
    let none = none_left c.args.changes.now c.is_empty.result c.if-is_empty.true c.is_empty.ensures in
    gains A (C ∷ []) f.part (subst (λ B. HasNamed (enc 4 c.args.part.top B) (C ∷ [])) (sym (nothing_put f none)) named)) c.raised.ensures.gains

pub returns-then-is_empty-clause-full : goal.returns-then-is_empty-clause-full
returns-then-is_empty-clause-full g t c = on_err_weaker c.raised.result (λ lacks A L C f whole named.
    let none = none_left c.args.changes.now c.is_empty.result c.if-is_empty.true c.is_empty.ensures in
    lacks A (C ∷ []) f.part (subst (λ B. HasNamed (enc 4 c.args.part.top B) (C ∷ [])) (sym (nothing_put f none)) named)) c.raised.ensures.full

pub returns-then-is_empty-clause-looks : goal.returns-then-is_empty-clause-looks
returns-then-is_empty-clause-looks g t c = λ A L f. raised_looks (length c.args.changes.now) (levels (enc 4 c.args.part.at A)) c.args.part.top (g.M.HoldCounts.memory c.args.mem.now).layout.probe c.args.steps.now c.raised.new.steps c.raised.ensures.looks

pub put-requires-clause-put : goal.put-requires-clause-put
put-requires-clause-put g t c = let (A, L, f) = c.requires.grow in (A, L, puts_whole f c.if-part.true)

pub put-requires-clause-room : goal.put-requires-clause-room
put-requires-clause-room g t c = λ id. let room = c.requires.room id in omega (arith, room)

pub put-requires-clause-low : goal.put-requires-clause-low
put-requires-clause-low g t c = let (A, L, f) = c.requires.grow in let most : 4 ^ c.args.part.top ≤ 4 ^ 16 = pow-le-pow_right (omega arith) f.part.low in omega (arith, most)

pub returns-then-part-clause-trades : goal.returns-then-part-clause-trades
returns-then-part-clause-trades g t c = IfOk-weaker c.put.result _ _ (λ x traded. record { passes = traded.passes; counts = λ id. let few = traded.counts id in omega (arith, few) }) c.put.ensures.trades

pub returns-then-part-clause-stands : goal.returns-then-part-clause-stands
returns-then-part-clause-stands g t c = IfOk-weaker c.put.result _ _ (λ x stands A L f. stands A L (puts_whole f c.if-part.true)) c.put.ensures.stands

pub returns-then-part-clause-gains : goal.returns-then-part-clause-gains
returns-then-part-clause-gains g t c = IfOk-weaker c.put.result _ _ (λ x gains A L C f whole named. gains A L C (puts_whole f c.if-part.true) whole named) c.put.ensures.gains

pub returns-then-part-clause-full : goal.returns-then-part-clause-full
returns-then-part-clause-full g t c = on_err_weaker c.put.result (λ lacks A L C f whole named. lacks A L C (puts_whole f c.if-part.true) whole named) c.put.ensures.full

pub returns-then-part-clause-looks : goal.returns-then-part-clause-looks
returns-then-part-clause-looks g t c = λ A L f. whole_looks f c.if-part.true (length c.args.changes.now) (g.M.HoldCounts.memory c.args.mem.now).layout.probe c.args.steps.now c.put.new.steps (c.put.ensures.looks A L (puts_whole f c.if-part.true))

pub span-size-requires : goal.span-size-requires
span-size-requires g t c = let (A, L, f) = c.requires.grow in let low = f.part.low in omega (arith, low)

pub below-requires : goal.below-requires
below-requires g t c = let (A, L, f) = c.requires.grow in (line_at (g.M.HoldCounts.memory c.args.mem.now), 0, L, f.changes.changes, f.changes.ascend)

pub grow-requires : goal.grow-requires
grow-requires g t c κs within =
    let (A, L, f) = c.requires.grow in
    let w = cut_first c.below.result 3 c.span-size.ensures c.split_at.ensures.front c.split_at.ensures.back c.below.ensures.low c.below.ensures.high (four_fall f c.if-part.false) in
    let some = some_left c.args.changes.now c.is_empty.result c.if-is_empty.false c.is_empty.ensures in
    (search rules, (search rules, (search rules, (c.requires.held, ((A, take c.below.result L, grows_first f c.if-part.false w _ refl), λ id. (grown_room _ _ _ c.args.part.top (count_at (g.M.HoldCounts.memory c.args.mem.now) id) most_holds w.lengths some (tall f c.if-part.false) (c.requires.room id)).0)))))

pub put_from-requires-clause-high : goal.put_from-requires-clause-high
put_from-requires-clause-high g t c = let (A, L, f) = c.requires.grow in let low = f.part.low in omega (arith, low)

pub put_from-requires-clause-held : goal.put_from-requires-clause-held
put_from-requires-clause-held g t c = let (held, h) = c.requires.held in (c.in_ok-first.first ∷ held, c.in_ok-first.ensures.trades.passes.holds held h)

pub put_from-requires-clause-put : goal.put_from-requires-clause-put
put_from-requires-clause-put g t c =
    let (A, L, f) = c.requires.grow in
    let w = cut_first c.below.result 3 c.span-size.ensures c.split_at.ensures.front c.split_at.ensures.back c.below.ensures.low c.below.ensures.high (four_fall f c.if-part.false) in
    (nothing, drop c.below.result L, puts_later f c.if-part.false w _ _ c.in_ok-first.ensures.trades.passes.lines c.num-pieces.ensures.value)

pub put_from-requires-clause-room : goal.put_from-requires-clause-room
put_from-requires-clause-room g t c = λ id.
    let (A, L, f) = c.requires.grow in
    let w = cut_first c.below.result 3 c.span-size.ensures c.split_at.ensures.front c.split_at.ensures.back c.below.ensures.low c.below.ensures.high (four_fall f c.if-part.false) in
    let some = some_left c.args.changes.now c.is_empty.result c.if-is_empty.false c.is_empty.ensures in
    let room = (grown_room _ _ _ c.args.part.top (count_at (g.M.HoldCounts.memory c.args.mem.now) id) most_holds w.lengths some (tall f c.if-part.false) (c.requires.room id)).1 in
    let more = c.in_ok-first.ensures.trades.counts id in
    omega (arith, room, more)

pub put_from-requires-clause-low : goal.put_from-requires-clause-low
put_from-requires-clause-low g t c =
    let (A, L, f) = c.requires.grow in
    let four = four_quarters c.args.part.top (omega (arith, tall f c.if-part.false)) in
    let most : 4 ^ c.args.part.top ≤ 4 ^ 16 = pow-le-pow_right (omega arith) f.part.low in
    let size = c.span-size.ensures in
    omega (arith, four, most, size)

pub store_held-requires-clause-held : goal.store_held-requires-clause-held
store_held-requires-clause-held g t c =
    let (held, h) = c.requires.held in
    let traded = trades_words _ _ (sym (set_first c.put_from.new.entries c.in_ok-first.first (omega arith))) (trades_before (g.M.HoldCounts.memory c.args.mem.now) (g.M.HoldCounts.memory c.grow.new.mem) (g.M.HoldCounts.memory c.put_from.new.mem) c.in_ok-first.first (drop 1 c.put_from.new.entries) _ _ _ c.in_ok-first.ensures.trades c.in-Ok.ensures.trades (same_sum _)) in
    (held, traded.passes.holds held h)

pub store_held-requires-clause-part : goal.store_held-requires-clause-part
store_held-requires-clause-part g t c =
    let (A, L, f) = c.requires.grow in
    let w = cut_first c.below.result 3 c.span-size.ensures c.split_at.ensures.front c.split_at.ensures.back c.below.ensures.low c.below.ensures.high (four_fall f c.if-part.false) in
    let pieces = subst (λ xs. PiecesFor 4 (line_at (g.M.HoldCounts.memory c.put_from.new.mem)) c.args.part.top xs (put_at c.args.part.top 0 A L)) (sym (set_first c.put_from.new.entries c.in_ok-first.first (omega arith))) (tall_pieces f c.if-part.false w (line_at (g.M.HoldCounts.memory c.grow.new.mem)) (line_at (g.M.HoldCounts.memory c.put_from.new.mem)) c.in_ok-first.first (drop 1 c.put_from.new.entries) c.in-Ok.ensures.trades.passes.lines (c.in_ok-first.ensures.stands A (take c.below.result L) (grows_first f c.if-part.false w _ refl)) (c.in-Ok.ensures.stand nothing (drop c.below.result L) (puts_later f c.if-part.false w (line_at (g.M.HoldCounts.memory c.grow.new.mem)) c.num-pieces.result c.in_ok-first.ensures.trades.passes.lines c.num-pieces.ensures.value))) in
    ((put_at c.args.part.top 0 A L), tall_part f, pieces)

pub store_held-requires-clause-room : goal.store_held-requires-clause-room
store_held-requires-clause-room g t c = λ id.
    let (A, L, f) = c.requires.grow in
    let w = cut_first c.below.result 3 c.span-size.ensures c.split_at.ensures.front c.split_at.ensures.back c.below.ensures.low c.below.ensures.high (four_fall f c.if-part.false) in
    let some = some_left c.args.changes.now c.is_empty.result c.if-is_empty.false c.is_empty.ensures in
    let room = grown_room _ _ (length c.args.changes.now) c.args.part.top (count_at (g.M.HoldCounts.memory c.args.mem.now) id) most_holds w.lengths some (tall f c.if-part.false) (c.requires.room id) in
    let fits = room.1 in
    let first = c.in_ok-first.ensures.trades.counts id in
    let then = c.in-Ok.ensures.trades.counts id in
    omega (arith, fits, first, then)

pub returns-in-Ok-clause-trades : goal.returns-in-Ok-clause-trades
returns-in-Ok-clause-trades g t c =
    IfOk-weaker c.store_held.result _ _ (λ x stored.
    let (A, L, f) = c.requires.grow in
    let w = cut_first c.below.result 3 c.span-size.ensures c.split_at.ensures.front c.split_at.ensures.back c.below.ensures.low c.below.ensures.high (four_fall f c.if-part.false) in
    let some = some_left c.args.changes.now c.is_empty.result c.if-is_empty.false c.is_empty.ensures in
    let traded = trades_words _ _ (sym (set_first c.put_from.new.entries c.in_ok-first.first (omega arith))) (trades_before (g.M.HoldCounts.memory c.args.mem.now) (g.M.HoldCounts.memory c.grow.new.mem) (g.M.HoldCounts.memory c.put_from.new.mem) c.in_ok-first.first (drop 1 c.put_from.new.entries) _ _ _ c.in_ok-first.ensures.trades c.in-Ok.ensures.trades (same_sum _)) in
    let fits = grown_fits _ _ (length c.args.changes.now) c.args.part.top w.lengths some (tall f c.if-part.false) in
    trades_then (g.M.HoldCounts.memory c.args.mem.now) (g.M.HoldCounts.memory c.put_from.new.mem) (g.M.HoldCounts.memory c.store_held.new.mem) (slice_set c.put_from.new.entries 0 c.in_ok-first.first) (x ∷ []) _ _ _ traded stored (omega (arith, fits))) c.store_held.ensures.trades

pub returns-in-Ok-clause-stands : goal.returns-in-Ok-clause-stands
returns-in-Ok-clause-stands g t c =
    IfOk-weaker c.store_held.result _ _ (λ x stands A L f.
    let w = cut_first c.below.result 3 c.span-size.ensures c.split_at.ensures.front c.split_at.ensures.back c.below.ensures.low c.below.ensures.high (four_fall f c.if-part.false) in
    let pieces = subst (λ xs. PiecesFor 4 (line_at (g.M.HoldCounts.memory c.put_from.new.mem)) c.args.part.top xs (put_at c.args.part.top 0 A L)) (sym (set_first c.put_from.new.entries c.in_ok-first.first (omega arith))) (tall_pieces f c.if-part.false w (line_at (g.M.HoldCounts.memory c.grow.new.mem)) (line_at (g.M.HoldCounts.memory c.put_from.new.mem)) c.in_ok-first.first (drop 1 c.put_from.new.entries) c.in-Ok.ensures.trades.passes.lines (c.in_ok-first.ensures.stands A (take c.below.result L) (grows_first f c.if-part.false w _ refl)) (c.in-Ok.ensures.stand nothing (drop c.below.result L) (puts_later f c.if-part.false w (line_at (g.M.HoldCounts.memory c.grow.new.mem)) c.num-pieces.result c.in_ok-first.ensures.trades.passes.lines c.num-pieces.ensures.value))) in
    stands (put_at c.args.part.top 0 A L) (tall_part f) pieces) c.store_held.ensures.stands

pub returns-in-Ok-clause-gains : goal.returns-in-Ok-clause-gains
returns-in-Ok-clause-gains g t c =
    IfOk-weaker c.store_held.result _ _ (λ x gains A L D f whole named.
    let w = cut_first c.below.result 3 c.span-size.ensures c.split_at.ensures.front c.split_at.ensures.back c.below.ensures.low c.below.ensures.high (four_fall f c.if-part.false) in
    let pieces = subst (λ xs. PiecesFor 4 (line_at (g.M.HoldCounts.memory c.put_from.new.mem)) c.args.part.top xs (put_at c.args.part.top 0 A L)) (sym (set_first c.put_from.new.entries c.in_ok-first.first (omega arith))) (tall_pieces f c.if-part.false w (line_at (g.M.HoldCounts.memory c.grow.new.mem)) (line_at (g.M.HoldCounts.memory c.put_from.new.mem)) c.in_ok-first.first (drop 1 c.put_from.new.entries) c.in-Ok.ensures.trades.passes.lines (c.in_ok-first.ensures.stands A (take c.below.result L) (grows_first f c.if-part.false w _ refl)) (c.in-Ok.ensures.stand nothing (drop c.below.result L) (puts_later f c.if-part.false w (line_at (g.M.HoldCounts.memory c.grow.new.mem)) c.num-pieces.result c.in_ok-first.ensures.trades.passes.lines c.num-pieces.ensures.value))) in
    let names = tall_named f c.if-part.false w D whole named in
    let first = c.in_ok-first.ensures.gains A (take c.below.result L) D (grows_first f c.if-part.false w _ refl) whole names.0 in
    let then = c.in-Ok.ensures.gains nothing (drop c.below.result L) D (puts_later f c.if-part.false w (line_at (g.M.HoldCounts.memory c.grow.new.mem)) c.num-pieces.result c.in_ok-first.ensures.trades.passes.lines c.num-pieces.ensures.value) whole names.1 in
    gains_after (g.M.HoldCounts.memory c.args.mem.now) (g.M.HoldCounts.memory c.grow.new.mem) (g.M.HoldCounts.memory c.store_held.new.mem) (D ∷ []) first (gains_after (g.M.HoldCounts.memory c.grow.new.mem) (g.M.HoldCounts.memory c.put_from.new.mem) (g.M.HoldCounts.memory c.store_held.new.mem) (D ∷ []) then (gains (put_at c.args.part.top 0 A L) (D ∷ []) (tall_part f) pieces named))) c.store_held.ensures.gains

pub returns-in-Ok-clause-full : goal.returns-in-Ok-clause-full
returns-in-Ok-clause-full g t c =
    on_err_weaker c.store_held.result (λ lacks A L D f whole named.
    let w = cut_first c.below.result 3 c.span-size.ensures c.split_at.ensures.front c.split_at.ensures.back c.below.ensures.low c.below.ensures.high (four_fall f c.if-part.false) in
    let pieces = subst (λ xs. PiecesFor 4 (line_at (g.M.HoldCounts.memory c.put_from.new.mem)) c.args.part.top xs (put_at c.args.part.top 0 A L)) (sym (set_first c.put_from.new.entries c.in_ok-first.first (omega arith))) (tall_pieces f c.if-part.false w (line_at (g.M.HoldCounts.memory c.grow.new.mem)) (line_at (g.M.HoldCounts.memory c.put_from.new.mem)) c.in_ok-first.first (drop 1 c.put_from.new.entries) c.in-Ok.ensures.trades.passes.lines (c.in_ok-first.ensures.stands A (take c.below.result L) (grows_first f c.if-part.false w _ refl)) (c.in-Ok.ensures.stand nothing (drop c.below.result L) (puts_later f c.if-part.false w (line_at (g.M.HoldCounts.memory c.grow.new.mem)) c.num-pieces.result c.in_ok-first.ensures.trades.passes.lines c.num-pieces.ensures.value))) in
    let names = tall_named f c.if-part.false w D whole named in
    let first = c.in_ok-first.ensures.gains A (take c.below.result L) D (grows_first f c.if-part.false w _ refl) whole names.0 in
    let then = c.in-Ok.ensures.gains nothing (drop c.below.result L) D (puts_later f c.if-part.false w (line_at (g.M.HoldCounts.memory c.grow.new.mem)) c.num-pieces.result c.in_ok-first.ensures.trades.passes.lines c.num-pieces.ensures.value) whole names.1 in
    lacks_before (g.M.HoldCounts.memory c.args.mem.now) (g.M.HoldCounts.memory c.grow.new.mem) (D ∷ []) first c.in_ok-first.ensures.trades.passes.layout (lacks_before (g.M.HoldCounts.memory c.grow.new.mem) (g.M.HoldCounts.memory c.put_from.new.mem) (D ∷ []) then c.in-Ok.ensures.trades.passes.layout (lacks (put_at c.args.part.top 0 A L) (D ∷ []) (tall_part f) pieces named))) c.store_held.ensures.full

pub returns-in-Ok-clause-unchanged : goal.returns-in-Ok-clause-unchanged
returns-in-Ok-clause-unchanged g t c =
    let (held, h) = c.requires.held in
    let traded = trades_words _ _ (sym (set_first c.put_from.new.entries c.in_ok-first.first (omega arith))) (trades_before (g.M.HoldCounts.memory c.args.mem.now) (g.M.HoldCounts.memory c.grow.new.mem) (g.M.HoldCounts.memory c.put_from.new.mem) c.in_ok-first.first (drop 1 c.put_from.new.entries) _ _ _ c.in_ok-first.ensures.trades c.in-Ok.ensures.trades (same_sum _)) in
    on_err_weaker c.store_held.result (λ back. back (g.M.HoldCounts.memory c.args.mem.now) held _ (g.met.M.LineMem.sound c.args.mem.now).keys h traded) c.store_held.ensures.given_back

pub returns-in-Ok-clause-looks : goal.returns-in-Ok-clause-looks
returns-in-Ok-clause-looks g t c = λ A L f.
    let w = cut_first c.below.result 3 c.span-size.ensures c.split_at.ensures.front c.split_at.ensures.back c.below.ensures.low c.below.ensures.high (four_fall f c.if-part.false) in
    let some = some_left c.args.changes.now c.is_empty.result c.if-is_empty.false c.is_empty.ensures in
    let pieces = subst (λ xs. PiecesFor 4 (line_at (g.M.HoldCounts.memory c.put_from.new.mem)) c.args.part.top xs (put_at c.args.part.top 0 A L)) (sym (set_first c.put_from.new.entries c.in_ok-first.first (omega arith))) (tall_pieces f c.if-part.false w (line_at (g.M.HoldCounts.memory c.grow.new.mem)) (line_at (g.M.HoldCounts.memory c.put_from.new.mem)) c.in_ok-first.first (drop 1 c.put_from.new.entries) c.in-Ok.ensures.trades.passes.lines (c.in_ok-first.ensures.stands A (take c.below.result L) (grows_first f c.if-part.false w _ refl)) (c.in-Ok.ensures.stand nothing (drop c.below.result L) (puts_later f c.if-part.false w (line_at (g.M.HoldCounts.memory c.grow.new.mem)) c.num-pieces.result c.in_ok-first.ensures.trades.passes.lines c.num-pieces.ensures.value))) in
    let first = c.grow.ensures.looks A (take c.below.result L) (grows_first f c.if-part.false w _ refl) in
    let then = c.put_from.ensures.looks nothing (drop c.below.result L) 0 (c.args.part.top - 1) (puts_later f c.if-part.false w (line_at (g.M.HoldCounts.memory c.grow.new.mem)) c.num-pieces.result c.in_ok-first.ensures.trades.passes.lines c.num-pieces.ensures.value) (no_levels (c.args.part.top - 1)) (low_levels (c.args.part.top - 1) (put_each (c.args.part.top - 1) c.span-size.result nothing (drop c.below.result L))) in
    grown_looks _ _ (length c.args.changes.now) (levels (enc 4 c.args.part.at A)) c.args.part.top (own_line (enc 4 c.args.part.top (put_at c.args.part.top 0 A L))) (g.M.HoldCounts.memory c.args.mem.now).layout.probe (g.M.HoldCounts.memory c.grow.new.mem).layout.probe (g.M.HoldCounts.memory c.put_from.new.mem).layout.probe c.args.steps.now c.grow.new.steps c.put_from.new.steps c.store_held.new.steps w.lengths some (tall f c.if-part.false) (own_line_low (enc 4 c.args.part.top (put_at c.args.part.top 0 A L))) (same_probe c.in_ok-first.ensures.trades.passes.layout) (same_probe (c.in-Ok.ensures.trades.passes.layout ∙ c.in_ok-first.ensures.trades.passes.layout)) first then (c.store_held.ensures.looks (put_at c.args.part.top 0 A L) (tall_part f) pieces)

pub release-requires : goal.release-requires
release-requires g t c =
    let (held, h) = c.requires.held in
    (held, subst (λ m. Holds 4 m (c.in_ok-first.first ∷ held)) (sym c.in-Err.ensures.unchanged) (c.in_ok-first.ensures.trades.passes.holds held h))

pub returns-in-Err-clause-full : goal.returns-in-Err-clause-full
returns-in-Err-clause-full g t c = λ A L D f whole named.
    let w = cut_first c.below.result 3 c.span-size.ensures c.split_at.ensures.front c.split_at.ensures.back c.below.ensures.low c.below.ensures.high (four_fall f c.if-part.false) in
    let names = tall_named f c.if-part.false w D whole named in
    let first = c.in_ok-first.ensures.gains A (take c.below.result L) D (grows_first f c.if-part.false w _ refl) whole names.0 in
    lacks_before (g.M.HoldCounts.memory c.args.mem.now) (g.M.HoldCounts.memory c.grow.new.mem) (D ∷ []) first c.in_ok-first.ensures.trades.passes.layout (c.in-Err.ensures.full nothing (drop c.below.result L) D (puts_later f c.if-part.false w (line_at (g.M.HoldCounts.memory c.grow.new.mem)) c.num-pieces.result c.in_ok-first.ensures.trades.passes.lines c.num-pieces.ensures.value) whole names.1)

pub returns-in-Err-clause-unchanged : goal.returns-in-Err-clause-unchanged
returns-in-Err-clause-unchanged g t c =
    let (held, h) = c.requires.held in
    given_back (g.M.HoldCounts.memory c.args.mem.now) (g.M.HoldCounts.memory c.grow.new.mem) (g.M.HoldCounts.memory c.release.new.mem) (c.in_ok-first.first ∷ []) held (g.met.M.LineMem.sound c.args.mem.now).keys (g.met.M.LineMem.sound c.release.new.mem).keys h c.in_ok-first.ensures.trades.passes (subst (λ m. Exchanges m (g.M.HoldCounts.memory c.release.new.mem) (c.in_ok-first.first ∷ []) []) c.in-Err.ensures.unchanged c.release.ensures.exchanges)

pub returns-in-Err-clause-looks : goal.returns-in-Err-clause-looks
returns-in-Err-clause-looks g t c = λ A L f.
    let w = cut_first c.below.result 3 c.span-size.ensures c.split_at.ensures.front c.split_at.ensures.back c.below.ensures.low c.below.ensures.high (four_fall f c.if-part.false) in
    let some = some_left c.args.changes.now c.is_empty.result c.if-is_empty.false c.is_empty.ensures in
    let first = c.grow.ensures.looks A (take c.below.result L) (grows_first f c.if-part.false w _ refl) in
    let then = c.put_from.ensures.looks nothing (drop c.below.result L) 0 (c.args.part.top - 1) (puts_later f c.if-part.false w (line_at (g.M.HoldCounts.memory c.grow.new.mem)) c.num-pieces.result c.in_ok-first.ensures.trades.passes.lines c.num-pieces.ensures.value) (no_levels (c.args.part.top - 1)) (low_levels (c.args.part.top - 1) (put_each (c.args.part.top - 1) c.span-size.result nothing (drop c.below.result L))) in
    let all = grown_looks _ _ (length c.args.changes.now) (levels (enc 4 c.args.part.at A)) c.args.part.top 0 (g.M.HoldCounts.memory c.args.mem.now).layout.probe (g.M.HoldCounts.memory c.grow.new.mem).layout.probe (g.M.HoldCounts.memory c.args.mem.now).layout.probe c.args.steps.now c.grow.new.steps c.put_from.new.steps c.put_from.new.steps w.lengths some (tall f c.if-part.false) (omega arith) (same_probe c.in_ok-first.ensures.trades.passes.layout) refl first then (omega arith, omega arith) in
    subst (λ s. LooksUpTo (length c.args.changes.now * levels (enc 4 c.args.part.at A) + (length c.args.changes.now * c.args.part.top + 1) * (g.M.HoldCounts.memory c.args.mem.now).layout.probe) c.args.steps.now s) (sym c.release.ensures.looks) all

pub returns-in_err-first-clause-full : goal.returns-in_err-first-clause-full
returns-in_err-first-clause-full g t c =
    MatchResult-from_err c.from_residual.result _ _ c.from_residual.ensures.0 (λ _ A L D f whole named.
    let w = cut_first c.below.result 3 c.span-size.ensures c.split_at.ensures.front c.split_at.ensures.back c.below.ensures.low c.below.ensures.high (four_fall f c.if-part.false) in
    let names = tall_named f c.if-part.false w D whole named in
    c.in_err-first.ensures.full A (take c.below.result L) D (grows_first f c.if-part.false w _ refl) whole names.0)

pub returns-in_err-first-clause-looks : goal.returns-in_err-first-clause-looks
returns-in_err-first-clause-looks g t c = λ A L f.
    let w = cut_first c.below.result 3 c.span-size.ensures c.split_at.ensures.front c.split_at.ensures.back c.below.ensures.low c.below.ensures.high (four_fall f c.if-part.false) in
    let some = some_left c.args.changes.now c.is_empty.result c.if-is_empty.false c.is_empty.ensures in
    let first = c.grow.ensures.looks A (take c.below.result L) (grows_first f c.if-part.false w _ refl) in
    first_grown _ _ (length c.args.changes.now) (levels (enc 4 c.args.part.at A)) c.args.part.top (g.M.HoldCounts.memory c.args.mem.now).layout.probe c.args.steps.now c.grow.new.steps w.lengths first

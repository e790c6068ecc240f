use Rattle.std.proofs.Common.{[], ◌∷◌, ◌*◌, ◌+◌, ◌-◌, ◌^◌, ◌≤◌, ◌∙◌, ap, arith, drop, length, rules, subst, sym, take}
use Rattle.std.proofs.lemmas.Result.{IfOk-weaker, MatchResult-from_err, on_err_weaker}
use Rattle.hic_word.specs.declared.Kind.TheVariants.{Num}
use Rattle.hic_word.specs.Canon.{enc}
use Rattle.hic_word.specs.Values.{IsBelow}
use Rattle.hic_word.specs.Exchanges.{Exchanges}
use Rattle.hic_word.specs.Holds.{Holds}
use Rattle.hic_word.specs.Memory.{count_at, line_at, most_holds}
use Rattle.hic_word.specs.Stands.{word_of}
use Rattle.line_mem.specs.Looks.{LooksUpTo}
use Rattle.seg_canon.specs.Parts.{PartFor, whole_part}
use Rattle.seg_read.specs.Levels.{own_line}
use Rattle.seg_write.specs.Gains.{HasNamed}
use Rattle.seg_write.specs.Puts.{CanPut, put_at, quarters_of}
use Rattle.seg_write.proofs.Alone.{alone, alone_levels, alone_named, alone_stand, end_alone, entries_long, live_entries, set_here, trades_alone}
use Rattle.seg_write.proofs.Changing.{four_quarters}
use Rattle.seg_write.proofs.Growing.{entries_grow}
use Rattle.seg_write.proofs.Composing.{gains_after, gains_nothing, lacks_before, lines_within, same_probe}
use Rattle.seg_write.proofs.Putting.{changed_named, changed_part, changed_pieces, counts_below, entry_live, levels_after, levels_before, none_left, put_looks, put_looks_most, put_nothing, quarters_ready, room_below, some_left, words_looks, words_ready}
use Rattle.seg_write.proofs.Trading.{given_back, trades_held, trades_then}
use Rattle.seg_write.proofs.Lowering.{Lowered, low_counts, low_end, low_lift, low_looks, low_looks_full, low_named, low_put}
use Rattle.seg_write.proofs.Turning as turns
use Rattle.seg_write.proofs.Turning.{end_first, end_others, first_looks, from_looks, in_place, named_each, rises, stand_each, trades_set, turn}
use Rattle.seg_write.proofs.put.«+put».Goals as goal

pub put-hold-requires-clause-live : goal.put-hold-requires-clause-live
put-hold-requires-clause-live g t c = let (A, L, f) = c.requires.put in entry_live (g.M.HoldCounts.memory c.args.mem.now) c.args.entry _ f.part.entry

pub put-returns-then-is_empty-clause-trades : goal.put-returns-then-is_empty-clause-trades
put-returns-then-is_empty-clause-trades g t c = trades_held (g.M.HoldCounts.memory c.args.mem.now) (g.M.HoldCounts.memory c.hold.new.mem) (c.args.entry ∷ []) 1 (4 * c.args.height * length c.args.changes.now + 1) c.hold.ensures.exchanges c.hold.ensures.lines c.hold.ensures.counts (omega arith)

pub put-returns-then-is_empty-clause-stands : goal.put-returns-then-is_empty-clause-stands
put-returns-then-is_empty-clause-stands g t c = λ A L f. put_nothing f (none_left c.args.changes.now c.is_empty.result c.if-is_empty.true c.is_empty.ensures) (lines_within (g.M.HoldCounts.memory c.args.mem.now) (g.M.HoldCounts.memory c.hold.new.mem) c.hold.ensures.lines)

pub put-returns-then-is_empty-clause-gains : goal.put-returns-then-is_empty-clause-gains
put-returns-then-is_empty-clause-gains g t c = λ A L C f whole named. gains_nothing (g.M.HoldCounts.memory c.args.mem.now) (g.M.HoldCounts.memory c.hold.new.mem) (C ∷ []) c.hold.ensures.lines

pub put-open-pieces-requires : goal.put-open-pieces-requires
put-open-pieces-requires g t c = let (A, L, f) = c.requires.put in (c.args.height, A, f.part)

pub put-put_words-requires-clause-words : goal.put-put_words-requires-clause-words
put-put_words-requires-clause-words g t c = let (A, L, f) = c.requires.put in (A, L, words_ready f c.open-pieces.result c.if-height-eq1.true (c.open-pieces.ensures.pieces c.args.height A f.part))

pub put-put_words-requires-clause-room : goal.put-put_words-requires-clause-room
put-put_words-requires-clause-room g t c = λ id.
    let some = some_left c.args.changes.now c.is_empty.result c.if-is_empty.false c.is_empty.ensures in
    let one = ap (λ h. 4 * h * length c.args.changes.now) c.if-height-eq1.true in
    let room = c.requires.room id in
    omega (arith, some, one, room)

pub put-returns-then-height-eq1-clause-trades : goal.put-returns-then-height-eq1-clause-trades
put-returns-then-height-eq1-clause-trades g t c = IfOk-weaker c.put_words.result _ _ (λ x traded. record {
  passes = traded.passes;
  counts = λ id.
      let some = some_left c.args.changes.now c.is_empty.result c.if-is_empty.false c.is_empty.ensures in
      let one = ap (λ h. 4 * h * length c.args.changes.now) c.if-height-eq1.true in
      let few = traded.counts id in
      omega (arith, some, one, few);
}) c.put_words.ensures.trades

pub put-returns-then-height-eq1-clause-stands : goal.put-returns-then-height-eq1-clause-stands
put-returns-then-height-eq1-clause-stands g t c = IfOk-weaker c.put_words.result _ _ (λ x stands A L f.
    subst (λ h. PartFor 4 (line_at (g.M.HoldCounts.memory c.put_words.new.mem)) (whole_part h x) (put_at h c.args.base A L)) (sym c.if-height-eq1.true)
    (stands A L (words_ready f c.open-pieces.result c.if-height-eq1.true (c.open-pieces.ensures.pieces c.args.height A f.part)))) c.put_words.ensures.stands

pub put-returns-then-height-eq1-clause-gains : goal.put-returns-then-height-eq1-clause-gains
put-returns-then-height-eq1-clause-gains g t c = IfOk-weaker c.put_words.result _ _ (λ x gains A L C f whole named.
    gains A L (C ∷ []) (words_ready f c.open-pieces.result c.if-height-eq1.true (c.open-pieces.ensures.pieces c.args.height A f.part)) (subst (λ h. HasNamed (enc 4 h (put_at h c.args.base A L)) (C ∷ [])) c.if-height-eq1.true named)) c.put_words.ensures.gains

pub put-returns-then-height-eq1-clause-full : goal.put-returns-then-height-eq1-clause-full
put-returns-then-height-eq1-clause-full g t c = on_err_weaker c.put_words.result (λ lacks A L C f whole named.
    lacks A L (C ∷ []) (words_ready f c.open-pieces.result c.if-height-eq1.true (c.open-pieces.ensures.pieces c.args.height A f.part)) (subst (λ h. HasNamed (enc 4 h (put_at h c.args.base A L)) (C ∷ [])) c.if-height-eq1.true named)) c.put_words.ensures.full

pub put-returns-then-height-eq1-clause-looks : goal.put-returns-then-height-eq1-clause-looks
put-returns-then-height-eq1-clause-looks g t c = λ A L f.
    let some = some_left c.args.changes.now c.is_empty.result c.if-is_empty.false c.is_empty.ensures in
    let made = c.put_words.ensures.looks A L (words_ready f c.open-pieces.result c.if-height-eq1.true (c.open-pieces.ensures.pieces c.args.height A f.part)) in
    let same = subst (λ h. LooksUpTo (own_line (enc 4 h (put_at h c.args.base A L)) * (g.M.HoldCounts.memory c.args.mem.now).layout.probe) c.open-pieces.new.steps c.put_words.new.steps) (sym c.if-height-eq1.true) made in
    words_looks (length c.args.changes.now) (enc 4 c.args.height A) (enc 4 c.args.height (put_at c.args.height c.args.base A L)) (g.M.HoldCounts.memory c.args.mem.now).layout.probe c.args.steps.now c.open-pieces.new.steps c.put_words.new.steps some (c.open-pieces.ensures.looks c.args.height A f.part) same

pub put-put_four-requires : goal.put-put_four-requires
put-put_four-requires g t c κs within =
    let (A, L, f) = c.requires.put in
    let some = some_left c.args.changes.now c.is_empty.result c.if-is_empty.false c.is_empty.ensures in
    let positive = f.part.is_part.positive in
    let more = c.if-height-eq1.false in
    let high : 2 ≤ c.args.height = omega (arith, positive, more) in
    let top = f.part.is_part.low in (
      search rules,
      (
        search rules,
        (
          search rules,
          (
            omega (arith, top),
            (
              c.requires.held,
              (
                (quarters_of c.args.height A, L, quarters_ready f high c.open-pieces.result (c.open-pieces.ensures.pieces c.args.height A f.part)),
                (
                  (λ id. let below = room_below c.args.height (length c.args.changes.now) (count_at (g.M.HoldCounts.memory c.args.mem.now) id) most_holds positive some (c.requires.room id) in omega (arith, below)),
                  (let four = four_quarters c.args.height positive in let end = c.requires.low in omega (arith, four, end)),
                ),
              ),
            ),
          ),
        ),
      ),
    )

pub put-store_held-requires-clause-held : goal.put-store_held-requires-clause-held
put-store_held-requires-clause-held g t c = let (held, h) = c.requires.held in (held, c.in_ok-put_four.ensures.trades.passes.holds held h)

pub put-store_held-requires-clause-part : goal.put-store_held-requires-clause-part
put-store_held-requires-clause-part g t c =
    let (A, L, f) = c.requires.put in
    let positive = f.part.is_part.positive in
    let more = c.if-height-eq1.false in
    let high : 2 ≤ c.args.height = omega (arith, positive, more) in
    let each = quarters_ready f high c.open-pieces.result (c.open-pieces.ensures.pieces c.args.height A f.part) in
    (put_at c.args.height c.args.base A L, changed_part f, changed_pieces f high _ c.put_four.new.entries (c.in_ok-put_four.ensures.stand (quarters_of c.args.height A) L each))

pub put-store_held-requires-clause-room : goal.put-store_held-requires-clause-room
put-store_held-requires-clause-room g t c = λ id.
    let (A, L, f) = c.requires.put in
    let some = some_left c.args.changes.now c.is_empty.result c.if-is_empty.false c.is_empty.ensures in
    let below = room_below c.args.height (length c.args.changes.now) (count_at (g.M.HoldCounts.memory c.args.mem.now) id) most_holds f.part.is_part.positive some (c.requires.room id) in
    let more = c.in_ok-put_four.ensures.trades.counts id in
    omega (arith, below, more)

pub put-returns-clause-trades : goal.put-returns-clause-trades
put-returns-clause-trades g t c = IfOk-weaker c.store_held.result _ _ (λ x traded.
    let (A, L, f) = c.requires.put in
    let some = some_left c.args.changes.now c.is_empty.result c.if-is_empty.false c.is_empty.ensures in
    let n = length c.args.changes.now in
    trades_then (g.M.HoldCounts.memory c.args.mem.now) (g.M.HoldCounts.memory c.put_four.new.mem) (g.M.HoldCounts.memory c.store_held.new.mem) c.put_four.new.entries (x ∷ []) (4 * (c.args.height - 1) * n + 4) 1 (4 * c.args.height * n + 1)
    c.in_ok-put_four.ensures.trades traded (counts_below c.args.height n f.part.is_part.positive some)) c.store_held.ensures.trades

pub put-returns-clause-stands : goal.put-returns-clause-stands
put-returns-clause-stands g t c = IfOk-weaker c.store_held.result _ _ (λ x stands A L f.
    let positive = f.part.is_part.positive in
    let more = c.if-height-eq1.false in
    let high : 2 ≤ c.args.height = omega (arith, positive, more) in
    let each = quarters_ready f high c.open-pieces.result (c.open-pieces.ensures.pieces c.args.height A f.part) in
    stands (put_at c.args.height c.args.base A L) (changed_part f) (changed_pieces f high _ c.put_four.new.entries (c.in_ok-put_four.ensures.stand (quarters_of c.args.height A) L each))) c.store_held.ensures.stands

pub put-returns-clause-gains : goal.put-returns-clause-gains
put-returns-clause-gains g t c = IfOk-weaker c.store_held.result _ _ (λ x gains A L C f whole named.
    let positive = f.part.is_part.positive in
    let more = c.if-height-eq1.false in
    let high : 2 ≤ c.args.height = omega (arith, positive, more) in
    let each = quarters_ready f high c.open-pieces.result (c.open-pieces.ensures.pieces c.args.height A f.part) in
    gains_after (g.M.HoldCounts.memory c.args.mem.now) (g.M.HoldCounts.memory c.put_four.new.mem) (g.M.HoldCounts.memory c.store_held.new.mem) (C ∷ [])
    (c.in_ok-put_four.ensures.gains (quarters_of c.args.height A) L C each whole (changed_named f high C whole named))
    (gains (put_at c.args.height c.args.base A L) (C ∷ []) (changed_part f) (changed_pieces f high _ c.put_four.new.entries (c.in_ok-put_four.ensures.stand (quarters_of c.args.height A) L each)) named)) c.store_held.ensures.gains

pub put-returns-clause-full : goal.put-returns-clause-full
put-returns-clause-full g t c = on_err_weaker c.store_held.result (λ lacks A L C f whole named.
    let positive = f.part.is_part.positive in
    let more = c.if-height-eq1.false in
    let high : 2 ≤ c.args.height = omega (arith, positive, more) in
    let each = quarters_ready f high c.open-pieces.result (c.open-pieces.ensures.pieces c.args.height A f.part) in
    lacks_before (g.M.HoldCounts.memory c.args.mem.now) (g.M.HoldCounts.memory c.put_four.new.mem) (C ∷ [])
    (c.in_ok-put_four.ensures.gains (quarters_of c.args.height A) L C each whole (changed_named f high C whole named)) c.in_ok-put_four.ensures.trades.passes.layout
    (lacks (put_at c.args.height c.args.base A L) (C ∷ []) (changed_part f) (changed_pieces f high _ c.put_four.new.entries (c.in_ok-put_four.ensures.stand (quarters_of c.args.height A) L each)) named)) c.store_held.ensures.full

pub put-returns-clause-unchanged : goal.put-returns-clause-unchanged
put-returns-clause-unchanged g t c =
    let (held, h) = c.requires.held in
    on_err_weaker c.store_held.result (λ back. back (g.M.HoldCounts.memory c.args.mem.now) held _ (g.met.M.LineMem.sound c.args.mem.now).keys h c.in_ok-put_four.ensures.trades) c.store_held.ensures.given_back

pub put-returns-clause-looks : goal.put-returns-clause-looks
put-returns-clause-looks g t c = λ A L f.
    let some = some_left c.args.changes.now c.is_empty.result c.if-is_empty.false c.is_empty.ensures in
    let positive = f.part.is_part.positive in
    let more = c.if-height-eq1.false in
    let high : 2 ≤ c.args.height = omega (arith, positive, more) in
    let C = put_at c.args.height c.args.base A L in
    let each = quarters_ready f high c.open-pieces.result (c.open-pieces.ensures.pieces c.args.height A f.part) in
    put_looks (length c.args.changes.now) (enc 4 c.args.height A) (enc 4 c.args.height C) (g.M.HoldCounts.memory c.args.mem.now).layout.probe (g.M.HoldCounts.memory c.put_four.new.mem).layout.probe c.args.steps.now c.open-pieces.new.steps c.put_four.new.steps c.store_held.new.steps some
    (same_probe c.in_ok-put_four.ensures.trades.passes.layout) (c.open-pieces.ensures.looks c.args.height A f.part)
    (c.put_four.ensures.looks (quarters_of c.args.height A) L _ _ each (levels_before f high) (levels_after f high))
    (c.store_held.ensures.looks C (changed_part f) (changed_pieces f high _ c.put_four.new.entries (c.in_ok-put_four.ensures.stand (quarters_of c.args.height A) L each)))

pub put-returns-in_err-put_four-clause-full : goal.put-returns-in_err-put_four-clause-full
put-returns-in_err-put_four-clause-full g t c = MatchResult-from_err c.from_residual.result _ _ c.from_residual.ensures.0 (λ _ A L C f whole named.
    let positive = f.part.is_part.positive in
    let more = c.if-height-eq1.false in
    let high : 2 ≤ c.args.height = omega (arith, positive, more) in
    let each = quarters_ready f high c.open-pieces.result (c.open-pieces.ensures.pieces c.args.height A f.part) in
    c.in_err-put_four.ensures.full (quarters_of c.args.height A) L C each whole (changed_named f high C whole named))

pub put-returns-in_err-put_four-clause-looks : goal.put-returns-in_err-put_four-clause-looks
put-returns-in_err-put_four-clause-looks g t c = λ A L f.
    let some = some_left c.args.changes.now c.is_empty.result c.if-is_empty.false c.is_empty.ensures in
    let positive = f.part.is_part.positive in
    let more = c.if-height-eq1.false in
    let high : 2 ≤ c.args.height = omega (arith, positive, more) in
    let C = put_at c.args.height c.args.base A L in
    let each = quarters_ready f high c.open-pieces.result (c.open-pieces.ensures.pieces c.args.height A f.part) in
    put_looks_most (length c.args.changes.now) (enc 4 c.args.height A) (enc 4 c.args.height C) (g.M.HoldCounts.memory c.args.mem.now).layout.probe c.args.steps.now c.open-pieces.new.steps c.put_four.new.steps some
    (c.open-pieces.ensures.looks c.args.height A f.part) (c.put_four.ensures.looks (quarters_of c.args.height A) L _ _ each (levels_before f high) (levels_after f high))

pub put_four-lone_place-requires-clause-fall : goal.put_four-lone_place-requires-clause-fall
put_four-lone_place-requires-clause-fall g t c =
    let (As, L, f) = c.requires.put in
    let same = entries_long _ _ _ As f.entries in
    let long = c.told-entries in
    (line_at (g.M.HoldCounts.memory c.args.mem.now), L, record { changes = f.changes.changes; ascend = f.changes.ascend; below = subst (λ n. IsBelow (c.args.base + n * 4 ^ c.args.height) L) (sym same ∙ long) f.changes.below })

pub put_four-put-requires : goal.put_four-put-requires
put_four-put-requires g t c κs within =
    let (As, L, f) = c.requires.put in
    let long = c.told-entries in
    let low = c.in-Some.ensures.inside in
    let w = alone (word_of Num 0 0) (ap (λ s. c.args.base + c.in-Some.place * s) c.span.ensures) (omega (arith, long, low)) c.in-Some.ensures.from c.in-Some.ensures.below f in (
      search rules,
      (
        search rules,
        (
          search rules,
          (
            c.requires.held,
            (
              (w.array, L, w.part),
              ((λ id. let room = c.requires.room id in omega (arith, room)), end_alone c.args.base _ c.args.height c.in-Some.place (ap (λ s. c.args.base + c.in-Some.place * s) c.span.ensures) low c.requires.low),
            ),
          ),
        ),
      ),
    )

pub put_four-hold_others-requires-clause-held : goal.put_four-hold_others-requires-clause-held
put_four-hold_others-requires-clause-held g t c =
    let (held, h) = c.requires.held in
    (c.in_ok-entries-in-Some.field-0 ∷ held, c.in_ok-entries-in-Some.ensures.trades.passes.holds held h)

pub put_four-hold_others-requires-clause-live : goal.put_four-hold_others-requires-clause-live
put_four-hold_others-requires-clause-live g t c =
    let (As, L, f) = c.requires.put in
    let long = c.told-entries in
    let low = c.in-Some.ensures.inside in
    let w = alone (word_of Num 0 0) (ap (λ s. c.args.base + c.in-Some.place * s) c.span.ensures) (omega (arith, long, low)) c.in-Some.ensures.from c.in-Some.ensures.below f in
    live_entries (g.M.HoldCounts.memory c.put.new.mem) c.args.height _ _ (alone_stand w (line_at (g.M.HoldCounts.memory c.put.new.mem)) c.in_ok-entries-in-Some.field-0 c.in_ok-entries-in-Some.ensures.trades.passes.lines (c.in_ok-entries-in-Some.ensures.stands w.array L w.part))

pub put_four-hold_others-requires-clause-room : goal.put_four-hold_others-requires-clause-room
put_four-hold_others-requires-clause-room g t c =
    λ id there. let room = c.requires.room id in let few = c.in_ok-entries-in-Some.ensures.trades.counts id in omega (arith, room, few)

pub put_four-returns-in_ok-entries-in-Some-clause-trades : goal.put_four-returns-in_ok-entries-in-Some-clause-trades
put_four-returns-in_ok-entries-in-Some-clause-trades g t c =
    let long = c.told-entries in
    let low = c.in-Some.ensures.inside in
    trades_alone (g.M.HoldCounts.memory c.args.mem.now) (g.M.HoldCounts.memory c.put.new.mem) (g.M.HoldCounts.memory c.hold_others.new.mem) _ c.in_ok-entries-in-Some.field-0 _ 3 _ c.in_ok-entries-in-Some.ensures.trades (c.hold_others.ensures.exchanges c.in_ok-entries-in-Some.field-0 (set_here c.args.entries.now c.in-Some.place c.in_ok-entries-in-Some.field-0 (omega (arith, long, low)))) c.hold_others.ensures.lines c.hold_others.ensures.counts (omega arith)

pub put_four-returns-in_ok-entries-in-Some-clause-stand : goal.put_four-returns-in_ok-entries-in-Some-clause-stand
put_four-returns-in_ok-entries-in-Some-clause-stand g t c =
    λ As L f.
    let long = c.told-entries in
    let low = c.in-Some.ensures.inside in
    let w = alone (word_of Num 0 0) (ap (λ s. c.args.base + c.in-Some.place * s) c.span.ensures) (omega (arith, long, low)) c.in-Some.ensures.from c.in-Some.ensures.below f in
    entries_grow _ _ (lines_within (g.M.HoldCounts.memory c.put.new.mem) (g.M.HoldCounts.memory c.hold_others.new.mem) c.hold_others.ensures.lines) c.args.height _ _ (alone_stand w (line_at (g.M.HoldCounts.memory c.put.new.mem)) c.in_ok-entries-in-Some.field-0 c.in_ok-entries-in-Some.ensures.trades.passes.lines (c.in_ok-entries-in-Some.ensures.stands w.array L w.part))

pub put_four-returns-in_ok-entries-in-Some-clause-gains : goal.put_four-returns-in_ok-entries-in-Some-clause-gains
put_four-returns-in_ok-entries-in-Some-clause-gains g t c =
    λ As L C f whole named.
    let long = c.told-entries in
    let low = c.in-Some.ensures.inside in
    let w = alone (word_of Num 0 0) (ap (λ s. c.args.base + c.in-Some.place * s) c.span.ensures) (omega (arith, long, low)) c.in-Some.ensures.from c.in-Some.ensures.below f in
    gains_after (g.M.HoldCounts.memory c.args.mem.now) (g.M.HoldCounts.memory c.put.new.mem) (g.M.HoldCounts.memory c.hold_others.new.mem) (C ∷ []) (c.in_ok-entries-in-Some.ensures.gains w.array L C w.part whole (alone_named w (C ∷ []) named)) (gains_nothing (g.M.HoldCounts.memory c.put.new.mem) (g.M.HoldCounts.memory c.hold_others.new.mem) (C ∷ []) c.hold_others.ensures.lines)

pub put_four-returns-in_ok-entries-in-Some-clause-looks : goal.put_four-returns-in_ok-entries-in-Some-clause-looks
put_four-returns-in_ok-entries-in-Some-clause-looks g t c =
    λ As L n k f few many.
    let long = c.told-entries in
    let low = c.in-Some.ensures.inside in
    let w = alone (word_of Num 0 0) (ap (λ s. c.args.base + c.in-Some.place * s) c.span.ensures) (omega (arith, long, low)) c.in-Some.ensures.from c.in-Some.ensures.below f in
    first_looks (length c.args.changes.now) 0 (length c.args.changes.now) _ n _ k (g.M.HoldCounts.memory c.args.mem.now).layout.probe c.args.steps.now c.put.new.steps (omega arith) (w.levels n few) (alone_levels w k many) (c.put.ensures.looks w.array L w.part)

pub put_four-returns-in_err-entries-in-Some-clause-full : goal.put_four-returns-in_err-entries-in-Some-clause-full
put_four-returns-in_err-entries-in-Some-clause-full g t c =
    MatchResult-from_err c.from_residual.result _ _ c.from_residual.ensures.0 (λ _ As L C f whole named.
    let long = c.told-entries in
    let low = c.in-Some.ensures.inside in
    let w = alone (word_of Num 0 0) (ap (λ s. c.args.base + c.in-Some.place * s) c.span.ensures) (omega (arith, long, low)) c.in-Some.ensures.from c.in-Some.ensures.below f in
    c.in_err-entries-in-Some.ensures.full w.array L C w.part whole (alone_named w (C ∷ []) named))

pub put_four-returns-in_err-entries-in-Some-clause-looks : goal.put_four-returns-in_err-entries-in-Some-clause-looks
put_four-returns-in_err-entries-in-Some-clause-looks g t c =
    λ As L n k f few many.
    let long = c.told-entries in
    let low = c.in-Some.ensures.inside in
    let w = alone (word_of Num 0 0) (ap (λ s. c.args.base + c.in-Some.place * s) c.span.ensures) (omega (arith, long, low)) c.in-Some.ensures.from c.in-Some.ensures.below f in
    first_looks (length c.args.changes.now) 0 (length c.args.changes.now) _ n _ k (g.M.HoldCounts.memory c.args.mem.now).layout.probe c.args.steps.now c.put.new.steps (omega arith) (w.levels n few) (alone_levels w k many) (c.put.ensures.looks w.array L w.part)

pub put_from-span-requires : goal.put_from-span-requires
put_from-span-requires g t c = c.requires.high

pub put_from-below-requires : goal.put_from-below-requires
put_from-below-requires g t c = let (As, L, f) = c.requires.put in (line_at (g.M.HoldCounts.memory c.args.mem.now), c.args.base, L, f.changes.changes, f.changes.ascend)

pub put_from-put-requires : goal.put_from-put-requires
put_from-put-requires g t c κs within =
    let place = in_place c.requires.place c.if-place-eq4.false c.told-entries in
    let (As, L, f) = c.requires.put in
    let w = turn c.below.result c.args.entries.now c.args.place (word_of Num 0 0) place (ap (λ s. c.args.base + s) c.span.ensures) c.split_at.ensures.front c.split_at.ensures.back c.below.ensures.low c.below.ensures.high f in
    let rise = rises w in
    (search rules, (search rules, (search rules, (c.requires.held, ((w.first, take c.below.result L, w.part), (λ id. let room = c.requires.room id in omega (arith, room, rise), end_first c.args.base 0 c.args.height c.args.place (omega arith) c.requires.low))))))

pub put_from-put_from-requires : goal.put_from-put_from-requires
put_from-put_from-requires g t c κs within =
    let place = in_place c.requires.place c.if-place-eq4.false c.told-entries in
    let (held, h) = c.requires.held in
    let (As, L, f) = c.requires.put in
    let end = ap (λ s. c.args.base + s) c.span.ensures in
    let w = turn c.below.result c.args.entries.now c.args.place (word_of Num 0 0) place end c.split_at.ensures.front c.split_at.ensures.back c.below.ensures.low c.below.ensures.high f in
    let rise = rises w in
    let traded = c.in_ok-entry.ensures.trades in (
      search rules,
      (
        search rules,
        (
          search rules,
          (
            omega arith,
            (
              c.requires.high,
              (
                (c.in_ok-entry.entry ∷ held, traded.passes.holds held h),
                (
                  (w.others, drop c.below.result L, w.parts (line_at (g.M.HoldCounts.memory c.put.new.mem)) traded.passes.lines),
                  (λ id. let room = c.requires.room id in let more = traded.counts id in omega (arith, room, rise, more), end_others c.args.base _ c.args.height c.args.place end (omega arith) c.requires.low),
                ),
              ),
            ),
          ),
        ),
      ),
    )

pub put_from-release-requires : goal.put_from-release-requires
put_from-release-requires g t c = let (held, h) = c.requires.held in (held, subst (λ m. Holds 4 m (c.in_ok-entry.entry ∷ held)) (sym c.in-Err.ensures.unchanged) (c.in_ok-entry.ensures.trades.passes.holds held h))

pub put_from-returns-in-Ok-clause-trades : goal.put_from-returns-in-Ok-clause-trades
put_from-returns-in-Ok-clause-trades g t c =
    let place = in_place c.requires.place c.if-place-eq4.false c.told-entries in
    let here = in_place c.requires.place c.if-place-eq4.false c.put_from.array_long in
    let (As, L, f) = c.requires.put in
    let w = turn c.below.result c.args.entries.now c.args.place (word_of Num 0 0) place (ap (λ s. c.args.base + s) c.span.ensures) c.split_at.ensures.front c.split_at.ensures.back c.below.ensures.low c.below.ensures.high f in
    let rise = rises w in
    trades_set (g.M.HoldCounts.memory c.args.mem.now) (g.M.HoldCounts.memory c.put.new.mem) (g.M.HoldCounts.memory c.put_from.new.mem) c.put_from.new.entries c.args.place c.in_ok-entry.entry _ _ _ here c.in_ok-entry.ensures.trades c.in-Ok.ensures.trades (omega (arith, rise))

pub put_from-returns-in-Ok-clause-stand : goal.put_from-returns-in-Ok-clause-stand
put_from-returns-in-Ok-clause-stand g t c = λ As L f.
    let place = in_place c.requires.place c.if-place-eq4.false c.told-entries in
    let here = in_place c.requires.place c.if-place-eq4.false c.put_from.array_long in
    let w = turn c.below.result c.args.entries.now c.args.place (word_of Num 0 0) place (ap (λ s. c.args.base + s) c.span.ensures) c.split_at.ensures.front c.split_at.ensures.back c.below.ensures.low c.below.ensures.high f in
    stand_each w (line_at (g.M.HoldCounts.memory c.put.new.mem)) (line_at (g.M.HoldCounts.memory c.put_from.new.mem)) c.put_from.new.entries c.args.place c.in_ok-entry.entry here c.in-Ok.ensures.trades.passes.lines (c.in_ok-entry.ensures.stands w.first _ w.part) (c.in-Ok.ensures.stand w.others _ (w.parts (line_at (g.M.HoldCounts.memory c.put.new.mem)) c.in_ok-entry.ensures.trades.passes.lines))

pub put_from-returns-in-Ok-clause-gains : goal.put_from-returns-in-Ok-clause-gains
put_from-returns-in-Ok-clause-gains g t c = λ As L C f whole named.
    let place = in_place c.requires.place c.if-place-eq4.false c.told-entries in
    let w = turn c.below.result c.args.entries.now c.args.place (word_of Num 0 0) place (ap (λ s. c.args.base + s) c.span.ensures) c.split_at.ensures.front c.split_at.ensures.back c.below.ensures.low c.below.ensures.high f in
    let (one, others) = named_each w (C ∷ []) named in
    gains_after (g.M.HoldCounts.memory c.args.mem.now) (g.M.HoldCounts.memory c.put.new.mem) (g.M.HoldCounts.memory c.put_from.new.mem) (C ∷ []) (c.in_ok-entry.ensures.gains w.first _ C w.part whole one)
    (c.in-Ok.ensures.gains w.others _ C (w.parts (line_at (g.M.HoldCounts.memory c.put.new.mem)) c.in_ok-entry.ensures.trades.passes.lines) whole others)

pub put_from-returns-in-Ok-clause-looks : goal.put_from-returns-in-Ok-clause-looks
put_from-returns-in-Ok-clause-looks g t c = λ As L n k f low high.
    let place = in_place c.requires.place c.if-place-eq4.false c.told-entries in
    let w = turn c.below.result c.args.entries.now c.args.place (word_of Num 0 0) place (ap (λ s. c.args.base + s) c.span.ensures) c.split_at.ensures.front c.split_at.ensures.back c.below.ensures.low c.below.ensures.high f in
    let (l, ls) = turns.levels_before w n low in
    let (e, es) = turns.levels_after w k high in
    from_looks _ _ _ _ n _ k _ _ _ _ _ w.lengths l e (same_probe c.in_ok-entry.ensures.trades.passes.layout) (c.put.ensures.looks w.first _ w.part)
    (c.put_from.ensures.looks w.others _ n k (w.parts (line_at (g.M.HoldCounts.memory c.put.new.mem)) c.in_ok-entry.ensures.trades.passes.lines) ls es)

pub put_from-returns-in-Err-clause-unchanged : goal.put_from-returns-in-Err-clause-unchanged
put_from-returns-in-Err-clause-unchanged g t c =
    let (held, h) = c.requires.held in
    given_back (g.M.HoldCounts.memory c.args.mem.now) (g.M.HoldCounts.memory c.put.new.mem) (g.M.HoldCounts.memory c.release.new.mem) (c.in_ok-entry.entry ∷ []) held (g.met.M.LineMem.sound c.args.mem.now).keys (g.met.M.LineMem.sound c.release.new.mem).keys h c.in_ok-entry.ensures.trades.passes
    (subst (λ m. Exchanges m (g.M.HoldCounts.memory c.release.new.mem) (c.in_ok-entry.entry ∷ []) []) c.in-Err.ensures.unchanged c.release.ensures.exchanges)

pub put_from-returns-in-Err-clause-full : goal.put_from-returns-in-Err-clause-full
put_from-returns-in-Err-clause-full g t c = λ As L C f whole named.
    let place = in_place c.requires.place c.if-place-eq4.false c.told-entries in
    let w = turn c.below.result c.args.entries.now c.args.place (word_of Num 0 0) place (ap (λ s. c.args.base + s) c.span.ensures) c.split_at.ensures.front c.split_at.ensures.back c.below.ensures.low c.below.ensures.high f in
    let (one, others) = named_each w (C ∷ []) named in
    lacks_before (g.M.HoldCounts.memory c.args.mem.now) (g.M.HoldCounts.memory c.put.new.mem) (C ∷ []) (c.in_ok-entry.ensures.gains w.first _ C w.part whole one) c.in_ok-entry.ensures.trades.passes.layout
    (c.in-Err.ensures.full w.others _ C (w.parts (line_at (g.M.HoldCounts.memory c.put.new.mem)) c.in_ok-entry.ensures.trades.passes.lines) whole others)

pub put_from-returns-in-Err-clause-looks : goal.put_from-returns-in-Err-clause-looks
put_from-returns-in-Err-clause-looks g t c = λ As L n k f low high.
    let place = in_place c.requires.place c.if-place-eq4.false c.told-entries in
    let w = turn c.below.result c.args.entries.now c.args.place (word_of Num 0 0) place (ap (λ s. c.args.base + s) c.span.ensures) c.split_at.ensures.front c.split_at.ensures.back c.below.ensures.low c.below.ensures.high f in
    let (l, ls) = turns.levels_before w n low in
    let (e, es) = turns.levels_after w k high in
    let all = from_looks _ _ _ _ n _ k _ _ _ _ _ w.lengths l e (same_probe c.in_ok-entry.ensures.trades.passes.layout) (c.put.ensures.looks w.first _ w.part)
    (c.put_from.ensures.looks w.others _ n k (w.parts (line_at (g.M.HoldCounts.memory c.put.new.mem)) c.in_ok-entry.ensures.trades.passes.lines) ls es) in
    subst (λ s. LooksUpTo (length c.args.changes.now * (n + k * (g.M.HoldCounts.memory c.args.mem.now).layout.probe)) c.args.steps.now s) (sym c.release.ensures.looks) all

pub put_from-returns-in_err-entry-clause-full : goal.put_from-returns-in_err-entry-clause-full
put_from-returns-in_err-entry-clause-full g t c = MatchResult-from_err c.from_residual.result _ _ c.from_residual.ensures.0 (λ _ As L C f whole named.
    let place = in_place c.requires.place c.if-place-eq4.false c.told-entries in
    let w = turn c.below.result c.args.entries.now c.args.place (word_of Num 0 0) place (ap (λ s. c.args.base + s) c.span.ensures) c.split_at.ensures.front c.split_at.ensures.back c.below.ensures.low c.below.ensures.high f in
    c.in_err-entry.ensures.full w.first _ C w.part whole (named_each w (C ∷ []) named).0)

pub put_from-returns-in_err-entry-clause-looks : goal.put_from-returns-in_err-entry-clause-looks
put_from-returns-in_err-entry-clause-looks g t c = λ As L n k f low high.
    let place = in_place c.requires.place c.if-place-eq4.false c.told-entries in
    let w = turn c.below.result c.args.entries.now c.args.place (word_of Num 0 0) place (ap (λ s. c.args.base + s) c.span.ensures) c.split_at.ensures.front c.split_at.ensures.back c.below.ensures.low c.below.ensures.high f in
    first_looks _ _ _ _ n _ k _ _ _ w.lengths (turns.levels_before w n low).0 (turns.levels_after w k high).0 (c.put.ensures.looks w.first _ w.part)

pub put-returns-in-Some-clause-looks : goal.put-returns-in-Some-clause-looks
put-returns-in-Some-clause-looks g t c = λ A L f.
    c.put_low.ensures.looks A L (subst (λ x. CanPut (line_at (g.M.HoldCounts.memory c.args.mem.now)) c.args.height x c.args.base c.args.changes.now A L) (c.is_zero.ensures.word.0 c.if-is_zero.true) f)

pub put_low-put-requires : goal.put_low-put-requires
put_low-put-requires g t c κs within =
    let (A, L, f) = c.requires.put in
    let w : Lowered (line_at (g.M.HoldCounts.memory c.args.mem.now)) c.args.height c.args.base _ c.args.changes.now c.args.part A L = record { can = f; lower = c.requires.lower; inside = c.requires.inside; takes = c.requires.takes; at = ap (λ s. c.args.base + c.args.part.number * s) c.span.ensures } in (
      search rules,
      (
        search rules,
        (
          search rules,
          (
            c.requires.held,
            (
              ([], L, low_put w c.num.result c.num.ensures.value),
              ((λ id. let few = low_counts c.args.part.height c.args.height (length c.args.changes.now) c.requires.lower.1 c.requires.some in let room = c.requires.room id in omega (arith, few, room)), low_end w c.requires.low),
            ),
          ),
        ),
      ),
    )

pub put_low-returns-in_err-entry-clause-full : goal.put_low-returns-in_err-entry-clause-full
put_low-returns-in_err-entry-clause-full g t c = MatchResult-from_err c.from_residual.result _ _ c.from_residual.ensures.0 (λ _ A L C f whole named.
    let w : Lowered (line_at (g.M.HoldCounts.memory c.args.mem.now)) c.args.height c.args.base _ c.args.changes.now c.args.part A L = record { can = f; lower = c.requires.lower; inside = c.requires.inside; takes = c.requires.takes; at = ap (λ s. c.args.base + c.args.part.number * s) c.span.ensures } in
    c.in_err-entry.ensures.full [] L C (low_put w c.num.result c.num.ensures.value) whole (low_named w (C ∷ []) named))

pub put_low-returns-in_err-entry-clause-looks : goal.put_low-returns-in_err-entry-clause-looks
put_low-returns-in_err-entry-clause-looks g t c = λ A L f.
    let w : Lowered (line_at (g.M.HoldCounts.memory c.args.mem.now)) c.args.height c.args.base _ c.args.changes.now c.args.part A L = record { can = f; lower = c.requires.lower; inside = c.requires.inside; takes = c.requires.takes; at = ap (λ s. c.args.base + c.args.part.number * s) c.span.ensures } in
    low_looks_full w (length c.args.changes.now) (g.M.HoldCounts.memory c.args.mem.now).layout.probe c.args.steps.now c.put.new.steps (c.in_err-entry.ensures.looks [] L (low_put w c.num.result c.num.ensures.value))

pub put_low-lift-requires-clause-held : goal.put_low-lift-requires-clause-held
put_low-lift-requires-clause-held g t c = let (held, h) = c.requires.held in (held, c.in_ok-entry.ensures.trades.passes.holds held h)

pub put_low-lift-requires-clause-part : goal.put_low-lift-requires-clause-part
put_low-lift-requires-clause-part g t c =
    let (A, L, f) = c.requires.put in
    let w : Lowered (line_at (g.M.HoldCounts.memory c.args.mem.now)) c.args.height c.args.base _ c.args.changes.now c.args.part A L = record { can = f; lower = c.requires.lower; inside = c.requires.inside; takes = c.requires.takes; at = ap (λ s. c.args.base + c.args.part.number * s) c.span.ensures } in
    (put_at c.args.height c.args.base A L, low_lift w (c.in_ok-entry.ensures.stands [] L (low_put w c.num.result c.num.ensures.value)))

pub put_low-returns-clause-trades : goal.put_low-returns-clause-trades
put_low-returns-clause-trades g t c = IfOk-weaker c.lift.result _ _ (λ x traded.
    let n = length c.args.changes.now in
    trades_then (g.M.HoldCounts.memory c.args.mem.now) (g.M.HoldCounts.memory c.put.new.mem) (g.M.HoldCounts.memory c.lift.new.mem) (c.in_ok-entry.entry ∷ []) (x ∷ []) (4 * c.args.part.height * n + 1) 1 (4 * c.args.height * n + 1)
    c.in_ok-entry.ensures.trades traded (low_counts c.args.part.height c.args.height n c.requires.lower.1 c.requires.some)) c.lift.ensures.trades

pub put_low-returns-clause-stands : goal.put_low-returns-clause-stands
put_low-returns-clause-stands g t c = IfOk-weaker c.lift.result _ _ (λ x stands A L f.
    let w : Lowered (line_at (g.M.HoldCounts.memory c.args.mem.now)) c.args.height c.args.base _ c.args.changes.now c.args.part A L = record { can = f; lower = c.requires.lower; inside = c.requires.inside; takes = c.requires.takes; at = ap (λ s. c.args.base + c.args.part.number * s) c.span.ensures } in
    stands (put_at c.args.height c.args.base A L) (low_lift w (c.in_ok-entry.ensures.stands [] L (low_put w c.num.result c.num.ensures.value)))) c.lift.ensures.stands

pub put_low-returns-clause-gains : goal.put_low-returns-clause-gains
put_low-returns-clause-gains g t c = IfOk-weaker c.lift.result _ _ (λ x gains A L C f whole named.
    let w : Lowered (line_at (g.M.HoldCounts.memory c.args.mem.now)) c.args.height c.args.base _ c.args.changes.now c.args.part A L = record { can = f; lower = c.requires.lower; inside = c.requires.inside; takes = c.requires.takes; at = ap (λ s. c.args.base + c.args.part.number * s) c.span.ensures } in
    let can = low_put w c.num.result c.num.ensures.value in
    gains_after (g.M.HoldCounts.memory c.args.mem.now) (g.M.HoldCounts.memory c.put.new.mem) (g.M.HoldCounts.memory c.lift.new.mem) (C ∷ [])
    (c.in_ok-entry.ensures.gains [] L C can whole (low_named w (C ∷ []) named))
    (gains (put_at c.args.height c.args.base A L) (C ∷ []) (low_lift w (c.in_ok-entry.ensures.stands [] L can)) named)) c.lift.ensures.gains

pub put_low-returns-clause-full : goal.put_low-returns-clause-full
put_low-returns-clause-full g t c = on_err_weaker c.lift.result (λ lacks A L C f whole named.
    let w : Lowered (line_at (g.M.HoldCounts.memory c.args.mem.now)) c.args.height c.args.base _ c.args.changes.now c.args.part A L = record { can = f; lower = c.requires.lower; inside = c.requires.inside; takes = c.requires.takes; at = ap (λ s. c.args.base + c.args.part.number * s) c.span.ensures } in
    let can = low_put w c.num.result c.num.ensures.value in
    lacks_before (g.M.HoldCounts.memory c.args.mem.now) (g.M.HoldCounts.memory c.put.new.mem) (C ∷ [])
    (c.in_ok-entry.ensures.gains [] L C can whole (low_named w (C ∷ []) named)) c.in_ok-entry.ensures.trades.passes.layout
    (lacks (put_at c.args.height c.args.base A L) (C ∷ []) (low_lift w (c.in_ok-entry.ensures.stands [] L can)) named)) c.lift.ensures.full

pub put_low-returns-clause-unchanged : goal.put_low-returns-clause-unchanged
put_low-returns-clause-unchanged g t c =
    let (held, h) = c.requires.held in
    on_err_weaker c.lift.result (λ back. back (g.M.HoldCounts.memory c.args.mem.now) held _ (g.met.M.LineMem.sound c.args.mem.now).keys h c.in_ok-entry.ensures.trades) c.lift.ensures.given_back

pub put_low-returns-clause-looks : goal.put_low-returns-clause-looks
put_low-returns-clause-looks g t c = λ A L f.
    let w : Lowered (line_at (g.M.HoldCounts.memory c.args.mem.now)) c.args.height c.args.base _ c.args.changes.now c.args.part A L = record { can = f; lower = c.requires.lower; inside = c.requires.inside; takes = c.requires.takes; at = ap (λ s. c.args.base + c.args.part.number * s) c.span.ensures } in
    let can = low_put w c.num.result c.num.ensures.value in
    low_looks w (c.in_ok-entry.ensures.stands [] L can) (length c.args.changes.now) (g.M.HoldCounts.memory c.args.mem.now).layout.probe (g.M.HoldCounts.memory c.put.new.mem).layout.probe c.args.steps.now c.put.new.steps c.lift.new.steps c.requires.some
    (same_probe c.in_ok-entry.ensures.trades.passes.layout) (c.put.ensures.looks [] L can) c.lift.ensures.looks

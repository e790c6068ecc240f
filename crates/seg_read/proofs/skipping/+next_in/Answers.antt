use Rattle.std.proofs.Common.{rules, ◌/◌, ◌%◌, refl, sym, ◌∙◌, ap, subst, arith}
use Rattle.std.proofs.Math.Nat.{one-le-pow}
use Rattle.hic_word.specs.Values.{Array, at}
use Rattle.hic_word.specs.Canon.{IsPart, enc}
use Rattle.hic_word.specs.Memory.{line_at}
use Rattle.hic_word.proofs.callers.Standing.{id_live}
use Rattle.seg_canon.proofs.Opening.{zero_opened}
use Rattle.seg_read.specs.Founds.{FoundFor, NextLooks}
use Rattle.seg_read.specs.Levels.{levels}
use Rattle.seg_read.proofs.Entering.{line_levels, line_words, part_top}
use Rattle.seg_read.proofs.Levels.{levels_some}
use Rattle.seg_read.proofs.Places.{line_here, offset_fits, offset_low, packed_words, path_quarter, quarter_offset, whole_line}
use Rattle.seg_read.proofs.Seeking.{blank_to, found_in, found_none, later_some, later_start, none_levels, one_before, one_none, past_none, rest_zero, search_looks, search_low, search_words}
use Rattle.seg_read.proofs.skipping.«+next_in».Goals as goal

pub returns-in-Pack-clause-value : goal.returns-in-Pack-clause-value
returns-in-Pack-clause-value g t c = λ A f.
    let (one, words) = packed_words c.args.height c.unpack.result f c.in-Pack.is (c.unpack.ensures _) in
    search_words c.args.from c.next_word.result (subst (λ h. IsPart 4 h A) one (part_top f)) words c.next_word.ensures.some c.next_word.ensures.none

pub returns-in-Pack-clause-within : goal.returns-in-Pack-clause-within
returns-in-Pack-clause-within g t c =
    let (A, f) = c.requires.part in
    search_low c.unpack.result c.args.from c.args.height c.next_word.result (packed_words c.args.height c.unpack.result f c.in-Pack.is (c.unpack.ensures _)).0 c.next_word.ensures.some

pub returns-in_default : goal.returns-in_default
returns-in_default g t c = record { value = λ A f j from. ap (λ (B : Array). at B j) (zero_opened f c.in_default.not-Node c.in_default.not-Pack); within = tt; looks = λ A f. (omega arith, omega arith) }

pub overflow_mul-base : goal.overflow_mul-base
overflow_mul-base g t c =
    let (A, f) = c.requires.part in
    let pq = path_quarter c.args.height c.path_of.result c.length_of.result c.span-size.result _ f c.in-Node.is c.path_of.ensures c.length_of.ensures c.if-length_of-gt0.true refl c.span-size.ensures in
    let low = offset_low (c.path_of.result % 4) 0 pq.quarters pq.one.place pq.quarters.some in
    let fits = offset_fits _ pq.quarters low in
    omega (arith, fits)

pub returns-then-start-size-clause-value : goal.returns-then-start-size-clause-value
returns-then-start-size-clause-value g t c = λ A f.
    let m = line_at (g.M.HoldCounts.memory c.args.mem.now) in
    let pq = path_quarter c.args.height c.path_of.result c.length_of.result c.span-size.result _ f c.in-Node.is c.path_of.ensures c.length_of.ensures c.if-length_of-gt0.true refl c.span-size.ensures in
    let start = c.saturating_sub-start.result in
    found_none m c.args.from pq.quarters (one_none c.args.from start pq.quarters pq.one refl c.saturating_sub-start.ensures (past_none m (c.path_of.result % 4) start pq.quarters c.if-start-size.true))

pub next_in-requires : goal.next_in-requires
next_in-requires g t c κs within =
    let (A, f) = c.requires.part in
    let pq = path_quarter c.args.height c.path_of.result c.length_of.result c.span-size.result c.shorter.result f c.in-Node.is c.path_of.ensures c.length_of.ensures c.if-length_of-gt0.true c.shorter.ensures c.span-size.ensures in
    let high = pq.quarters.high in
    let less = c.if-start-size.false in
    let size = c.span-size.ensures in
    (search rules, (search rules, (search rules, ((_, pq.one.quarter), omega (arith, less, size)))))

pub returns-in_err-offset-clause-value : goal.returns-in_err-offset-clause-value
returns-in_err-offset-clause-value g t c = λ A f.
    let m = line_at (g.M.HoldCounts.memory c.args.mem.now) in
    let pq = path_quarter c.args.height c.path_of.result c.length_of.result c.span-size.result c.shorter.result f c.in-Node.is c.path_of.ensures c.length_of.ensures c.if-length_of-gt0.true c.shorter.ensures c.span-size.ensures in
    subst (FoundFor m A c.args.from) (sym c.from_residual.ensures) (found_none m c.args.from pq.quarters (one_none c.args.from c.saturating_sub-start.result pq.quarters pq.one refl c.saturating_sub-start.ensures (c.in_err-offset.ensures.value _ pq.one.quarter)))

pub returns-in_err-offset-clause-looks : goal.returns-in_err-offset-clause-looks
returns-in_err-offset-clause-looks g t c = λ A f.
    let pq = path_quarter c.args.height c.path_of.result c.length_of.result c.span-size.result c.shorter.result f c.in-Node.is c.path_of.ensures c.length_of.ensures c.if-length_of-gt0.true c.shorter.ensures c.span-size.ensures in
    let went = c.in_err-offset.ensures.looks _ pq.one.quarter in
    let same = pq.levels in
    let up = went.0 in
    let most = went.1 in
    subst (λ r. NextLooks c.args.from r (levels (enc 4 c.args.height A)) c.args.steps.now c.next_in.new.steps) (sym c.from_residual.ensures) (up, omega (arith, most, same))

pub overflow_add-result : goal.overflow_add-result
overflow_add-result g t c =
    let (A, f) = c.requires.part in
    let pq = path_quarter c.args.height c.path_of.result c.length_of.result c.span-size.result c.shorter.result f c.in-Node.is c.path_of.ensures c.length_of.ensures c.if-length_of-gt0.true c.shorter.ensures c.span-size.ensures in
    let low = offset_low (c.path_of.result % 4) c.in_ok-offset.offset pq.quarters pq.one.place (quarter_offset _ pq.quarters c.in_ok-offset.ensures.within) in
    let fits = offset_fits _ pq.quarters low in
    omega (arith, fits)

pub returns-then-length_of-gt0-clause-value : goal.returns-then-length_of-gt0-clause-value
returns-then-length_of-gt0-clause-value g t c = λ A f.
    let pq = path_quarter c.args.height c.path_of.result c.length_of.result c.span-size.result c.shorter.result f c.in-Node.is c.path_of.ensures c.length_of.ensures c.if-length_of-gt0.true c.shorter.ensures c.span-size.ensures in
    let low = quarter_offset c.in_ok-offset.offset pq.quarters c.in_ok-offset.ensures.within in
    found_in c.args.from (c.path_of.result % 4) c.saturating_sub-start.result c.in_ok-offset.offset c.in_ok-offset.word pq.quarters c.saturating_sub-start.ensures low (one_before c.args.from pq.quarters pq.one refl) (c.in_ok-offset.ensures.value _ pq.one.quarter)

pub returns-then-length_of-gt0-clause-looks : goal.returns-then-length_of-gt0-clause-looks
returns-then-length_of-gt0-clause-looks g t c = λ A f.
    let pq = path_quarter c.args.height c.path_of.result c.length_of.result c.span-size.result c.shorter.result f c.in-Node.is c.path_of.ensures c.length_of.ensures c.if-length_of-gt0.true c.shorter.ensures c.span-size.ensures in
    let went = c.in_ok-offset.ensures.looks _ pq.one.quarter in
    let same = pq.levels in
    let begin = c.saturating_sub-start.ensures in
    let up = went.0.0 in
    let most = went.0.1 in
    ((up, omega (arith, most, same)), λ start. let least = went.1 (omega (arith, begin, start)) in let fewest = least.1 in (up, omega (arith, fewest, same)))

pub line-line-requires : goal.line-line-requires
line-line-requires g t c =
    let (A, f) = c.requires.part in
    let l = whole_line c.args.height c.make.result c.length_of.result f c.in-Node.is c.length_of.ensures c.if-length_of-gt0.false (c.make.ensures ∙ c.id_of.ensures) in
    (omega arith, id_live l.line)

pub returns-then-height-eq1-clause-value : goal.returns-then-height-eq1-clause-value
returns-then-height-eq1-clause-value g t c = λ A f.
    let l = whole_line c.args.height c.make.result c.length_of.result f c.in-Node.is c.length_of.ensures c.if-length_of-gt0.false (c.make.ensures ∙ c.id_of.ensures) in
    let one = c.if-height-eq1.true in
    search_words c.args.from c.next_word-then-height-eq1.result (subst (λ h. IsPart 4 h A) one (part_top f)) (line_words c.line-line.result.w l c.line-line.ensures.line one) c.next_word-then-height-eq1.ensures.some c.next_word-then-height-eq1.ensures.none

pub returns-then-height-eq1-clause-looks : goal.returns-then-height-eq1-clause-looks
returns-then-height-eq1-clause-looks g t c = λ A f.
    let l = whole_line c.args.height c.make.result c.length_of.result f c.in-Node.is c.length_of.ensures c.if-length_of-gt0.false (c.make.ensures ∙ c.id_of.ensures) in
    let all = line_levels l in
    let some = levels_some l.value in
    search_looks c.args.from (levels (enc 4 c.args.height A)) c.args.steps.now c.line-line.new.steps c.next_word-then-height-eq1.result (omega (arith, all, some)) c.line-line.ensures.one_look

pub next_in-requires-2 : goal.next_in-requires-2
next_in-requires-2 g t c κs within =
    let (A, f) = c.requires.part in
    let l = whole_line c.args.height c.make.result c.length_of.result f c.in-Node.is c.length_of.ensures c.if-length_of-gt0.false (c.make.ensures ∙ c.id_of.ensures) in
    let w = line_here c.args.height c.span-size-2.result c.args.from c.line-line.result.w f l c.line-line.ensures.line (search rules) c.span-size-2.ensures c.if-height-eq1.false c.requires.from in
    let high = w.all.quarters.high in
    (search rules, (search rules, (search rules, ((_, w.stand), w.here.rest))))

pub overflow_add-result-in-Some : goal.overflow_add-result-in-Some
overflow_add-result-in-Some g t c =
    let (A, f) = c.requires.part in
    let l = whole_line c.args.height c.make.result c.length_of.result f c.in-Node.is c.length_of.ensures c.if-length_of-gt0.false (c.make.ensures ∙ c.id_of.ensures) in
    let w = line_here c.args.height c.span-size-2.result c.args.from c.line-line.result.w f l c.line-line.ensures.line (search rules) c.span-size-2.ensures c.if-height-eq1.false c.requires.from in
    let low = offset_low (c.args.from / c.span-size-2.result) c.in-Some.offset w.all.quarters w.here.place (quarter_offset _ w.all.quarters c.in-Some.ensures.within) in
    let fits = offset_fits _ w.all.quarters low in
    omega (arith, fits)

pub returns-in_err-later-in-None-clause-value : goal.returns-in_err-later-in-None-clause-value
returns-in_err-later-in-None-clause-value g t c = λ A f.
    let m = line_at (g.M.HoldCounts.memory c.args.mem.now) in
    let l = whole_line c.args.height c.make.result c.length_of.result f c.in-Node.is c.length_of.ensures c.if-length_of-gt0.false (c.make.ensures ∙ c.id_of.ensures) in
    let w = line_here c.args.height c.span-size-2.result c.args.from c.line-line.result.w f l c.line-line.ensures.line (search rules) c.span-size-2.ensures c.if-height-eq1.false c.requires.from in
    subst (FoundFor m A c.args.from) (sym c.from_residual-in_err-later-in-None.ensures) (found_none m c.args.from w.all.quarters (blank_to c.args.from 4 w.all (c.in-None.ensures.value _ w.stand) (omega arith) c.in_err-later-in-None.ensures.none))

pub returns-in_err-later-in-None-clause-looks : goal.returns-in_err-later-in-None-clause-looks
returns-in_err-later-in-None-clause-looks g t c = λ A f.
    let l = whole_line c.args.height c.make.result c.length_of.result f c.in-Node.is c.length_of.ensures c.if-length_of-gt0.false (c.make.ensures ∙ c.id_of.ensures) in
    let w = line_here c.args.height c.span-size-2.result c.args.from c.line-line.result.w f l c.line-line.ensures.line (search rules) c.span-size-2.ensures c.if-height-eq1.false c.requires.from in
    let went = c.in-None.ensures.looks _ w.stand in
    let one = c.line-line.ensures.one_look in
    let fewer = w.fewer in
    let up = went.0 in
    let most = went.1 in
    subst (λ r. NextLooks c.args.from r (levels (enc 4 c.args.height A)) c.args.steps.now c.next_in-2.new.steps) (sym c.from_residual-in_err-later-in-None.ensures) (omega (arith, one, up), omega (arith, one, fewer, most))

pub next_in-requires-in-None : goal.next_in-requires-in-None
next_in-requires-in-None g t c κs within =
    let (A, f) = c.requires.part in
    let l = whole_line c.args.height c.make.result c.length_of.result f c.in-Node.is c.length_of.ensures c.if-length_of-gt0.false (c.make.ensures ∙ c.id_of.ensures) in
    let w = line_here c.args.height c.span-size-2.result c.args.from c.line-line.result.w f l c.line-line.ensures.line (search rules) c.span-size-2.ensures c.if-height-eq1.false c.requires.from in
    let later = c.in_ok-later-in-None.later in
    let first = c.in_ok-later-in-None.ensures.some in
    let high = w.all.quarters.high in
    (search rules, (search rules, (search rules, ((_, w.all.stand later first.low), one-le-pow _ 4 (omega arith)))))

pub returns-in_err-offset-in-None-clause-value : goal.returns-in_err-offset-in-None-clause-value
returns-in_err-offset-in-None-clause-value g t c = λ A f.
    let l = whole_line c.args.height c.make.result c.length_of.result f c.in-Node.is c.length_of.ensures c.if-length_of-gt0.false (c.make.ensures ∙ c.id_of.ensures) in
    let w = line_here c.args.height c.span-size-2.result c.args.from c.line-line.result.w f l c.line-line.ensures.line (search rules) c.span-size-2.ensures c.if-height-eq1.false c.requires.from in
    let later = c.in_ok-later-in-None.later in
    let first = c.in_ok-later-in-None.ensures.some in
    absurd (later_some _ later w.all first (c.in_err-offset-in-None.ensures.value _ (w.all.stand later first.low)))

pub returns-in_err-offset-in-None-clause-looks : goal.returns-in_err-offset-in-None-clause-looks
returns-in_err-offset-in-None-clause-looks g t c = λ A f.
    let l = whole_line c.args.height c.make.result c.length_of.result f c.in-Node.is c.length_of.ensures c.if-length_of-gt0.false (c.make.ensures ∙ c.id_of.ensures) in
    let w = line_here c.args.height c.span-size-2.result c.args.from c.line-line.result.w f l c.line-line.ensures.line (search rules) c.span-size-2.ensures c.if-height-eq1.false c.requires.from in
    let later = c.in_ok-later-in-None.later in
    let first = c.in_ok-later-in-None.ensures.some in
    absurd (later_some _ later w.all first (c.in_err-offset-in-None.ensures.value _ (w.all.stand later first.low)))

pub overflow_mul-result-in-None : goal.overflow_mul-result-in-None
overflow_mul-result-in-None g t c =
    let (A, f) = c.requires.part in
    let l = whole_line c.args.height c.make.result c.length_of.result f c.in-Node.is c.length_of.ensures c.if-length_of-gt0.false (c.make.ensures ∙ c.id_of.ensures) in
    let w = line_here c.args.height c.span-size-2.result c.args.from c.line-line.result.w f l c.line-line.ensures.line (search rules) c.span-size-2.ensures c.if-height-eq1.false c.requires.from in
    let later = c.in_ok-later-in-None.later in
    let first = c.in_ok-later-in-None.ensures.some in
    let low = quarter_offset c.in_ok-offset-in-None.offset w.all.quarters c.in_ok-offset-in-None.ensures.within in
    let fits = offset_fits _ w.all.quarters (offset_low later _ w.all.quarters first.low low) in
    omega (arith, fits)

pub overflow_add-result-in-None : goal.overflow_add-result-in-None
overflow_add-result-in-None g t c =
    let (A, f) = c.requires.part in
    let l = whole_line c.args.height c.make.result c.length_of.result f c.in-Node.is c.length_of.ensures c.if-length_of-gt0.false (c.make.ensures ∙ c.id_of.ensures) in
    let w = line_here c.args.height c.span-size-2.result c.args.from c.line-line.result.w f l c.line-line.ensures.line (search rules) c.span-size-2.ensures c.if-height-eq1.false c.requires.from in
    let later = c.in_ok-later-in-None.later in
    let first = c.in_ok-later-in-None.ensures.some in
    let low = quarter_offset c.in_ok-offset-in-None.offset w.all.quarters c.in_ok-offset-in-None.ensures.within in
    let fits = offset_fits _ w.all.quarters (offset_low later _ w.all.quarters first.low low) in
    omega (arith, fits)

pub returns-in-Some-clause-value : goal.returns-in-Some-clause-value
returns-in-Some-clause-value g t c = λ A f.
    let l = whole_line c.args.height c.make.result c.length_of.result f c.in-Node.is c.length_of.ensures c.if-length_of-gt0.false (c.make.ensures ∙ c.id_of.ensures) in
    let w = line_here c.args.height c.span-size-2.result c.args.from c.line-line.result.w f l c.line-line.ensures.line (search rules) c.span-size-2.ensures c.if-height-eq1.false c.requires.from in
    let whole = w.here.whole in
    let low = quarter_offset c.in-Some.offset w.all.quarters c.in-Some.ensures.within in
    found_in c.args.from (c.args.from / c.span-size-2.result) (c.args.from % c.span-size-2.result) c.in-Some.offset c.in-Some.word w.all.quarters (omega (arith, whole)) low (λ j above less. absurd (omega (arith, whole, above, less))) (c.in-Some.ensures.value _ w.stand)

pub returns-in-Some-clause-looks : goal.returns-in-Some-clause-looks
returns-in-Some-clause-looks g t c = λ A f.
    let l = whole_line c.args.height c.make.result c.length_of.result f c.in-Node.is c.length_of.ensures c.if-length_of-gt0.false (c.make.ensures ∙ c.id_of.ensures) in
    let w = line_here c.args.height c.span-size-2.result c.args.from c.line-line.result.w f l c.line-line.ensures.line (search rules) c.span-size-2.ensures c.if-height-eq1.false c.requires.from in
    let went = c.in-Some.ensures.looks _ w.stand in
    let one = c.line-line.ensures.one_look in
    let fewer = w.fewer in
    let up = went.0.0 in
    let most = went.0.1 in
    ((omega (arith, one, up), omega (arith, one, fewer, most)), λ start. let least = (went.1 (rest_zero c.args.from c.span-size-2.result w.all.quarters.some start)).1 in (omega (arith, one, up), omega (arith, one, fewer, least)))

pub returns-in_ok-offset-in-None-clause-value : goal.returns-in_ok-offset-in-None-clause-value
returns-in_ok-offset-in-None-clause-value g t c = λ A f.
    let l = whole_line c.args.height c.make.result c.length_of.result f c.in-Node.is c.length_of.ensures c.if-length_of-gt0.false (c.make.ensures ∙ c.id_of.ensures) in
    let w = line_here c.args.height c.span-size-2.result c.args.from c.line-line.result.w f l c.line-line.ensures.line (search rules) c.span-size-2.ensures c.if-height-eq1.false c.requires.from in
    let later = c.in_ok-later-in-None.later in
    let first = c.in_ok-later-in-None.ensures.some in
    let low = quarter_offset c.in_ok-offset-in-None.offset w.all.quarters c.in_ok-offset-in-None.ensures.within in
    let place = first.low in
    found_in c.args.from later 0 c.in_ok-offset-in-None.offset c.in_ok-offset-in-None.word w.all.quarters (later_start c.args.from later w.all first) low (blank_to c.args.from later w.all (c.in-None.ensures.value _ w.stand) (omega (arith, place)) first.zeros) (c.in_ok-offset-in-None.ensures.value _ (w.all.stand later first.low))

pub returns-in_ok-offset-in-None-clause-looks : goal.returns-in_ok-offset-in-None-clause-looks
returns-in_ok-offset-in-None-clause-looks g t c = λ A f.
    let l = whole_line c.args.height c.make.result c.length_of.result f c.in-Node.is c.length_of.ensures c.if-length_of-gt0.false (c.make.ensures ∙ c.id_of.ensures) in
    let w = line_here c.args.height c.span-size-2.result c.args.from c.line-line.result.w f l c.line-line.ensures.line (search rules) c.span-size-2.ensures c.if-height-eq1.false c.requires.from in
    let later = c.in_ok-later-in-None.later in
    let first = c.in_ok-later-in-None.ensures.some in
    let went = c.in-None.ensures.looks _ w.stand in
    let one = c.line-line.ensures.one_look in
    let fewer = w.fewer in
    let fewer_later = w.all.levels later first.low in
    let last = (c.in_ok-offset-in-None.ensures.looks _ (w.all.stand later first.low)).1 refl in
    let up = went.0 in
    let most = went.1 in
    let on = last.0 in
    let end = last.1 in
    ((omega (arith, one, up, on), omega (arith, one, fewer, most, fewer_later, end)), λ start. let none = none_levels c.args.from w.all start (c.in-None.ensures.value _ w.stand) in (omega (arith, one, up, on), omega (arith, one, most, none, fewer_later, end)))

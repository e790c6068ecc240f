use Rattle.std.proofs.Common.{suc, ◌-◌, ◌/◌, ◌^◌, ◌<◌, ◌∙◌, ap, subst, sym, length-set, arith}
use Rattle.line_mem.specs.Sound.{one_if}
use Rattle.hic_word.specs.Memory.{line_at}
use Rattle.hic_word.specs.Stands.{WordFor}
use Rattle.seg_cursor.specs.Pieces.{HasValue}
use Rattle.seg_cursor.proofs.Walking.{arrived, ended_at, opened_stands, turned_at}
use Rattle.seg_cursor.proofs.Lines.{opened_line}
use Rattle.seg_cursor.proofs.way.go_down.Goals as goal

pub open_quarters-requires : goal.open_quarters-requires
open_quarters-requires g c =
    let (root, A, w) = c.requires.way in
    (_, _, _, opened_stands c.loop-height.height (c.loop-height.invariant.way root A w).0 c.loop-height-test.true)

pub returns-then-not-open_quarters-clause-word : goal.returns-then-not-open_quarters-clause-word
returns-then-not-open_quarters-clause-word g c = λ root A w.
    let end = ended_at c.loop-height.height c.open_quarters.result _ (c.loop-height.invariant.way root A w).0 c.loop-height-test.true c.if-not-open_quarters.true c.open_quarters.ensures.opens in
    subst (WordFor 4 (line_at (g.M.HoldCounts.memory c.args.mem.now)) c.num.result) (sym end.nothing) (c.num.ensures.stands 4 _)

pub returns-then-not-open_quarters-clause-kept : goal.returns-then-not-open_quarters-clause-kept
returns-then-not-open_quarters-clause-kept g c = λ root A w.
    (ended_at c.loop-height.height c.open_quarters.result _ (c.loop-height.invariant.way root A w).0 c.loop-height-test.true c.if-not-open_quarters.true c.open_quarters.ensures.opens).kept

pub returns-then-not-open_quarters-clause-some : goal.returns-then-not-open_quarters-clause-some
returns-then-not-open_quarters-clause-some g c = λ root A w less. (c.loop-height.invariant.way root A w).1 less

pub loop-height-preserved : goal.loop-height-preserved
loop-height-preserved g c =
    let inv = c.loop-height.invariant in
    let low = inv.low in
    let more = inv.more in
    let looks = inv.looks in
    let long = inv.long in
    let small = c.requires.low in
    let some = c.loop-height-test.true in
    let up = c.open_quarters.ensures.looks in
    let from = up.0 in
    let most = up.1 in
    let one = ap one_if c.if-not-open_quarters.false in
    record {
      low = omega (arith, low);
      long = length-set c.loop-height.lines (c.loop-height.height - 1) _ ∙ long;
      more = omega (arith, more, from);
      looks = omega (arith, looks, most, one, some);
      lines = λ root A w. let before = inv.lines root A w in let line = opened_line c.args.offset A c.loop-height.height c.loop-height.steps c.open_quarters.new.steps some (inv.way root A w).0 c.open_quarters.ensures.line in omega (arith, before, line);
      way = λ root A w. let t = turned_at c.loop-height.height c.place_at.result c.open_quarters.result _ (inv.way root A w).0 some c.if-not-open_quarters.false c.open_quarters.ensures.opens c.open_quarters.ensures.reached (omega (arith, long, low, small, some)) c.place_at.ensures.place c.word-entry.result c.word-entry.ensures in (t.way, λ less. t.some);
    }

pub returns-then-not-open_quarters-clause-way : goal.returns-then-not-open_quarters-clause-way
returns-then-not-open_quarters-clause-way g c = λ root A w.
    let before = c.loop-height.invariant.lines root A w in
    let none = ap one_if c.if-not-open_quarters.true in
    let most = c.open_quarters.ensures.looks.1 in
    omega (arith, before, none, most)

pub returns-clause-way : goal.returns-clause-way
returns-clause-way g c = λ root A w. let before = c.loop-height.invariant.lines root A w in omega (arith, before)

pub returns-clause-word : goal.returns-clause-word
returns-clause-word g c = λ root A w. let done = c.loop-height-test.false in (arrived c.loop-height.height (c.loop-height.invariant.way root A w).0 (omega (arith, done))).0

pub returns-clause-kept : goal.returns-clause-kept
returns-clause-kept g c = λ root A w. let done = c.loop-height-test.false in (arrived c.loop-height.height (c.loop-height.invariant.way root A w).0 (omega (arith, done))).1

pub returns-clause-some : goal.returns-clause-some
returns-clause-some g c = λ root A w less.
    let done = c.loop-height-test.false in
    subst (λ h. h < c.args.height → HasValue A (suc h) (c.args.offset / 4 ^ suc h)) (omega (arith, done)) (c.loop-height.invariant.way root A w).1 less

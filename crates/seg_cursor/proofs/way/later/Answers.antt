use Rattle.std.proofs.Common.{◌≡◌, ℕ, ◌<◌, ◌≤◌, suc, ◌+◌, ◌*◌, ◌/◌, ◌^◌, List, length, get_or, [], subst, rules, arith}
use Rattle.std.proofs.Math.Nat.{mul-le-mul, pow-le-pow_right}
use Rattle.std.proofs.lemmas.List.{get_or_default}
use Rattle.hic_word.specs.declared.Word.{Word}
use Rattle.seg_read.specs.Founds.{AreZero, IsFirst}
use Rattle.seg_cursor.specs.Pieces.{IsBlank}
use Rattle.seg_cursor.proofs.Cutting.{blank_ended, blank_on, blank_to_all, blank_up}
use Rattle.seg_cursor.proofs.way.later.Goals as goal

-- the line of a height
line_read : (lines : List (List Word)) (h top : ℕ) (line : List Word) → length lines ≡ 16 → top ≤ 16 → h < top → get_or lines h line ≡ get_or lines h []
line_read lines h top line long most low = get_or_default lines h line [] (omega (arith, long, most, low))

pub loop-height-init : goal.loop-height-init
loop-height-init c = λ m root A below tall kept none. blank_ended A c.args.end c.args.offset kept.0 none

pub returns-in-Some : goal.returns-in-Some
returns-in-Some c = λ m root A below tall kept none.
    let h = c.loop-height.height in
    let words = get_or c.args.lines.now h [] in
    let place = c.place_at-from.ensures.place in
    let high = c.loop-height-test.true in
    let first : IsFirst words (c.place_at-from.result + 1) c.in-Some.place = subst (λ line. IsFirst line (c.place_at-from.result + 1) c.in-Some.place) (line_read c.args.lines.now h c.args.top c.index-lines-height.result (search rules) c.requires high) c.in-Some.ensures.some in
    let from = first.from in
    let low = first.low in
    record {
      from = c.loop-height.auto.height;
      high = high;
      past = omega (arith, from, place);
      low = low;
      some = first.some;
      blank = blank_on m words A h c.args.offset c.in-Some.place (kept.1 h c.loop-height.auto.height (omega (arith, high, tall))).pieces (subst (λ d. AreZero words (d + 1) c.in-Some.place) place first.zeros) (omega (arith, low)) (c.loop-height.invariant m root A below tall kept none);
    }

pub loop-height-preserved : goal.loop-height-preserved
loop-height-preserved c = λ m root A below tall kept none.
    let h = c.loop-height.height in
    let words = get_or c.args.lines.now h [] in
    let high = c.loop-height-test.true in
    let up : suc h ≡ h + 1 = omega arith in
    subst (λ n. IsBlank A c.args.offset ((c.args.offset / 4 ^ n + 1) * 4 ^ n)) up
    (blank_up m words A h c.args.offset (kept.1 h c.loop-height.auto.height (omega (arith, high, tall))).pieces (subst (λ d. AreZero words (d + 1) 4) c.place_at-from.ensures.place (subst (λ line. AreZero line (c.place_at-from.result + 1) 4) (line_read c.args.lines.now h c.args.top c.index-lines-height.result (search rules) c.requires high) c.in-None.ensures.none)) (c.loop-height.invariant m root A below tall kept none))

pub returns : goal.returns
returns c = λ m root A below tall kept none.
    let h = c.loop-height.height in
    let i = c.args.offset in
    let done = c.loop-height-test.false in
    let high : 4 ^ c.args.top ≤ 4 ^ h = pow-le-pow_right (omega arith) done in
    let most : 1 * 4 ^ h ≤ (i / 4 ^ h + 1) * 4 ^ h = mul-le-mul (omega arith) (omega arith) in
    blank_to_all (4 ^ c.args.top) i A below ((i / 4 ^ h + 1) * 4 ^ h) (omega (arith, high, most)) (c.loop-height.invariant m root A below tall kept none)

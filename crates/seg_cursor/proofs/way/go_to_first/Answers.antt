use Rattle.std.proofs.Common.{◌+◌, ◌-◌, ◌*◌, ◌^◌, ◌∙◌, sym, length-set, rules, arith}
use Rattle.seg_cursor.proofs.Cutting.{blank_joined}
use Rattle.seg_cursor.proofs.Firsts.{first_blank, first_fits, first_found, first_way, first_within, fits_number, number_at}
use Rattle.seg_cursor.proofs.Walking.{opened_stands}
use Rattle.seg_cursor.proofs.way.go_to_first.Goals as goal

pub loop-height-init : goal.loop-height-init
loop-height-init g c = record {
  low = omega arith;
  fits = c.requires.fits;
  some = c.requires.some;
  long = search rules;
  more = omega arith;
  looks = omega arith;
  within = number_at c.args.number c.args.height;
  way = λ root A w. (w, λ j from less. absurd (omega (arith, from, less)));
}

pub open_first-place-requires : goal.open_first-place-requires
open_first-place-requires g c =
    let (root, A, w) = c.requires.way in
    record {
      part = (_, _, _, opened_stands c.loop-height.height (c.loop-height.invariant.way root A w).0 c.loop-height-test.true);
      some = c.loop-height.invariant.some;
    }

pub overflow_mul-number : goal.overflow_mul-number
overflow_mul-number g c =
    let low = c.open_first-place.ensures.first.low in
    let fits = fits_number (4 * c.loop-height.number + c.open_first-place.result.0) (c.loop-height.height - 1) (first_fits c.loop-height.number c.loop-height.height c.open_first-place.result.0 c.loop-height-test.true low c.loop-height.invariant.fits) in
    omega (arith, fits)

pub overflow_add-number : goal.overflow_add-number
overflow_add-number g c =
    let low = c.open_first-place.ensures.first.low in
    let fits = fits_number (4 * c.loop-height.number + c.open_first-place.result.0) (c.loop-height.height - 1) (first_fits c.loop-height.number c.loop-height.height c.open_first-place.result.0 c.loop-height-test.true low c.loop-height.invariant.fits) in
    omega (arith, fits)

pub loop-height-preserved : goal.loop-height-preserved
loop-height-preserved g c =
    let inv = c.loop-height.invariant in
    let n = c.loop-height.number in
    let h = c.loop-height.height in
    let p = c.open_first-place.result.0 in
    let words = c.open_first-place.new.quarters in
    let opened = c.open_first-place.ensures in
    let first = opened.first in
    let low = inv.low in
    let long = inv.long in
    let small = c.requires.low in
    let more = inv.more in
    let looks = inv.looks in
    let up = c.loop-height-test.true in
    let from = opened.looks.0 in
    let most = opened.looks.1 in
    record {
      low = omega (arith, low);
      fits = first_fits n h p up first.low inv.fits;
      some = λ z. first.some (sym opened.word ∙ z);
      long = length-set c.loop-height.lines (h - 1) _ ∙ long;
      more = omega (arith, more, from);
      looks = omega (arith, looks, most, up);
      within = first_within n h p c.args.height c.args.number up low first.low inv.within;
      way = λ root A w.
          let all = inv.way root A w in
          let place = first.low in (
            first_way n h words all.0 up opened.opens opened.reached p first.low (omega (arith, long, low, small, up)) c.open_first-place.result.1 opened.word,
            blank_joined A (c.args.number * 4 ^ c.args.height) (n * 4 ^ h) ((4 * n + p) * 4 ^ (h - 1)) all.1 (first_blank n h words all.0 up opened.opens opened.reached p (omega (arith, place)) first.zeros),
          );
    }

pub returns-clause-first : goal.returns-clause-first
returns-clause-first g c = λ root A w.
    let done = c.loop-height-test.false in
    let inv = c.loop-height.invariant in
    let all = inv.way root A w in
    first_found c.loop-height.number c.loop-height.height c.args.height c.args.number all.0 (omega (arith, done)) inv.some inv.within all.1

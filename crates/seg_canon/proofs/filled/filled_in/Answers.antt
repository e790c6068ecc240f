use Rattle.std.proofs.Common.{◌<◌, length, sym, ap, arith}
use Rattle.seg_canon.proofs.Filling.{all_filled, none_filled, place_filled, told, told_several, zero_passed}
use Rattle.seg_canon.proofs.filled.filled_in.Goals as goal
use Rattle.seg_canon.proofs.filled.filled_in.Goals.{then-not-is_zero, else-not-is_zero}

pub loop-place-init : goal.loop-place-init
loop-place-init g c = record { few = omega arith; places = none_filled c.args.words.now }

pub loop-place-preserved : goal.loop-place-preserved
loop-place-preserved g c =
    let words = c.args.words.now in
    let low : c.loop-place.place < length words = omega arith in
    let was = c.loop-place.invariant.places in
    let few = c.loop-place.invariant.few in
    elim c.if-not-is_zero.branch [
      | then-not-is_zero w ↦ record {
        few = omega (arith, few, w.filled-is);
        places = place_filled words c.loop-place.place c.loop-place.filled c.loop-place.last _ _ _ c.is_zero.result low was c.is_zero.ensures.word w.if-not-is_zero.true w.filled-is w.last-is;
      }
      | else-not-is_zero w ↦ record {
        few = omega (arith, few, w.filled-is);
        places = zero_passed words c.loop-place.place c.loop-place.filled c.loop-place.last _ _ _ c.is_zero.result low was c.is_zero.ensures.word w.if-not-is_zero.false w.filled-is w.last-is;
      }
    ]

pub returns-in-0 : goal.returns-in-0
returns-in-0 g c = all_filled c.args.words.now c.loop-place.place (told c.loop-place.filled c.loop-place.last) _ (omega arith) c.loop-place.invariant.places (sym (ap (λ n. told n c.loop-place.last) c.in-0.is))

pub returns-in-1 : goal.returns-in-1
returns-in-1 g c = all_filled c.args.words.now c.loop-place.place (told c.loop-place.filled c.loop-place.last) _ (omega arith) c.loop-place.invariant.places (sym (ap (λ n. told n c.loop-place.last) c.in-1.is))

pub returns-in_default : goal.returns-in_default
returns-in_default g c = all_filled c.args.words.now c.loop-place.place (told c.loop-place.filled c.loop-place.last) _ (omega arith) c.loop-place.invariant.places (sym (told_several c.loop-place.filled c.loop-place.last (omega arith)))

use Rattle.std.proofs.Common.{◌≡◌, ◌<◌, get_or, ap, ◌∙◌, arith}
use Rattle.std.specs.Char.{digit_value}
use Rattle.hic_asm.proofs.Digits.{all_more, value_more, below_more, below_all, product_below}
use Rattle.hic_asm.proofs.operand.digits_of.Goals as goal

pub overflow_mul-value : goal.overflow_mul-value
overflow_mul-value c =
    let bound = product_below c.args.radix c.loop-byte.value c.loop-byte.byte-index c.loop-byte.invariant.below (omega arith) (omega arith) in
    rw c.from-in-loop-byte.ensures (omega arith)

pub overflow_add-value : goal.overflow_add-value
overflow_add-value c =
    let digit : c.in_ok-digit.digit < c.args.radix = omega (arith, c.in_ok-digit.ensures.value) in
    let bound = below_all _ _ (below_more c.args.radix c.loop-byte.value c.in_ok-digit.digit c.loop-byte.byte-index c.loop-byte.invariant.below digit (omega arith)) (omega arith) in
    rw (c.from-in-loop-byte.ensures, c.from-in-loop-byte-2.ensures) (omega arith)

pub loop-byte-preserved : goal.loop-byte-preserved
loop-byte-preserved c =
    let within = c.loop-byte-test.true in
    let is : c.in_ok-digit.digit ≡ digit_value (get_or c.args.digits.now c.loop-byte.byte-index 0) = c.in_ok-digit.ensures.value.1 ∙ ap digit_value c.from.ensures in
    let small : c.in_ok-digit.digit < c.args.radix = omega (arith, c.in_ok-digit.ensures.value) in
    rw (c.from-in-loop-byte.ensures, c.from-in-loop-byte-2.ensures) (record {
      all = all_more c.args.radix c.args.digits.now c.loop-byte.byte-index within c.loop-byte.invariant.all (omega (arith, is));
      value = value_more c.args.radix c.args.digits.now c.loop-byte.byte-index c.loop-byte.value c.in_ok-digit.digit within c.loop-byte.invariant.value is;
      below = below_more c.args.radix c.loop-byte.value c.in_ok-digit.digit c.loop-byte.byte-index c.loop-byte.invariant.below small (omega arith);
    })

use Rattle.std.proofs.Common.{◌≡◌, true, get_or, arith, sym, ◌∙◌}
use Rattle.std.specs.Char.{is_ascii_digit}
use Rattle.task_sched.proofs.Digits.{digit_value_is, all_more, value_more, below_more, below_wider}
use Rattle.task_sched.proofs.item.parse_number.Goals as goal

pub loop-digit-preserved : goal.loop-digit-preserved
loop-digit-preserved c =
    let here : is_ascii_digit (get_or c.args.digits.now c.loop-digit.digit-index 0) ≡ true = sym c.is_ascii_digit.ensures.value ∙ c.if-not-is_ascii_digit.false in
    record {
      digits = all_more c.args.digits.now _ (omega arith) c.loop-digit.invariant.digits here;
      value = rw c.from.ensures (value_more c.args.digits.now _ _ (omega arith) c.loop-digit.invariant.value here);
      below = rw c.from.ensures (below_more _ _ _ c.loop-digit.invariant.below (digit_value_is _ here).1);
    }

pub returns-clause-below : goal.returns-clause-below
returns-clause-below c = below_wider _ _ _ c.loop-digit.invariant.below (omega arith)

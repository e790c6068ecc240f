use Rattle.std.proofs.Common.{◌-◌, ◌*◌, ◌/◌, ◌^◌, ap, length, sym, ◌∙◌, arith}
use Rattle.seg_write.proofs.Covering.{first_from, last_below, offset_below, one_of_all, reached, shift_power}
use Rattle.seg_write.proofs.Cutting.{offset_from}
use Rattle.seg_write.proofs.changes.lone_part.Goals as goal

pub overflow_sub-last : goal.overflow_sub-last
overflow_sub-last c = let (m, L, f) = c.requires.fall in offset_from m c.args.changes.now L c.args.base _ c.in_ok-last.field-0.now f.changes f.ascend (sym c.in_ok-last.ensures.value)

pub overflow_shr-result : goal.overflow_shr-result
overflow_shr-result c = let high = c.requires.high in let less = c.if-low-height.false in omega (arith, high, less)

pub returns-clause-inside : goal.returns-clause-inside
returns-clause-inside c =
    let (m, L, f) = c.requires.fall in
    let low = offset_below m c.args.changes.now L _ 0 c.in_ok-first.field-0.now f.changes f.below (sym c.in_ok-first.ensures.value) in
    let from = offset_from m c.args.changes.now L c.args.base 0 c.in_ok-first.field-0.now f.changes f.ascend (sym c.in_ok-first.ensures.value) in
    one_of_all (c.in_ok-first.field-0.now.0 - c.args.base) c.join-low.result c.args.height (let less = c.if-low-height.false in omega (arith, less)) (omega (arith, low, from))

pub returns-clause-takes : goal.returns-clause-takes
returns-clause-takes c = λ m b L h a.
    let (n, K, f) = c.requires.fall in
    let low = c.join-low.result in
    let cs = c.args.changes.now in
    let first = c.in_ok-first.field-0.now in
    let last = c.in_ok-last.field-0.now in
    let from = offset_from n cs K c.args.base 0 first f.changes f.ascend (sym c.in_ok-first.ensures.value) in
    let reach = (reached (first.0 - c.args.base) low).0 in
    let past = (reached (last.0 - c.args.base) low).1 in
    let power = shift_power low in
    let same = ap (λ s. (first.0 - c.args.base) / s) (sym power) ∙ c.join-low.ensures.joined ∙ ap (λ s. (last.0 - c.args.base) / s) power in
    let start = ap (λ q. q * 4 ^ low) same in
    record {
      changes = h;
      ascend = first_from m cs L b _ first h a (sym c.in_ok-first.ensures.value) (omega (arith, from, reach));
      below = last_below m cs L b _ (length cs - 1) last h a (omega arith) (sym c.in_ok-last.ensures.value) (omega (arith, past, start));
    }

use Rattle.std.proofs.Common.{◌-◌, ◌*◌, ◌^◌, ap, length, sym, arith}
use Rattle.seg_write.proofs.Covering.{first_from, last_below, offset_below, one_of_four, reached}
use Rattle.seg_write.proofs.Cutting.{offset_from}
use Rattle.seg_write.proofs.changes.lone_place.Goals as goal

pub overflow_sub-last : goal.overflow_sub-last
overflow_sub-last c = let (m, L, f) = c.requires.fall in offset_from m c.args.changes.now L c.args.base _ c.in_ok-last.field-0.now f.changes f.ascend (sym c.in_ok-last.ensures.value)

pub returns-then-last-height-clause-inside : goal.returns-then-last-height-clause-inside
returns-then-last-height-clause-inside c =
    let (m, L, f) = c.requires.fall in
    let low = offset_below m c.args.changes.now L _ 0 c.in_ok-first.field-0.now f.changes f.below (sym c.in_ok-first.ensures.value) in
    let from = offset_from m c.args.changes.now L c.args.base 0 c.in_ok-first.field-0.now f.changes f.ascend (sym c.in_ok-first.ensures.value) in
    one_of_four (c.in_ok-first.field-0.now.0 - c.args.base) c.args.height (omega (arith, low, from))

pub returns-then-last-height-clause-from : goal.returns-then-last-height-clause-from
returns-then-last-height-clause-from c = λ m b L h a.
    let (n, K, f) = c.requires.fall in
    let first = offset_from n c.args.changes.now K c.args.base 0 c.in_ok-first.field-0.now f.changes f.ascend (sym c.in_ok-first.ensures.value) in
    let reach = (reached (c.in_ok-first.field-0.now.0 - c.args.base) c.args.height).0 in
    first_from m c.args.changes.now L b _ c.in_ok-first.field-0.now h a (sym c.in_ok-first.ensures.value) (omega (arith, first, reach))

pub returns-then-last-height-clause-below : goal.returns-then-last-height-clause-below
returns-then-last-height-clause-below c = λ m b L h a.
    let past = (reached (c.in_ok-last.field-0.now.0 - c.args.base) c.args.height).1 in
    let same = ap (λ q. q * 4 ^ c.args.height) c.if-last-height.true in
    last_below m c.args.changes.now L b _ (length c.args.changes.now - 1) c.in_ok-last.field-0.now h a (omega arith) (sym c.in_ok-last.ensures.value) (omega (arith, past, same))

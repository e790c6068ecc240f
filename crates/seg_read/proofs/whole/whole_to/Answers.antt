use Rattle.std.proofs.Common.{arith}
use Rattle.hic_word.specs.Memory.{line_at}
use Rattle.seg_read.proofs.Rooting.{as_whole, empty_array, empty_at, root_low, root_part, root_past}
use Rattle.seg_read.proofs.Ways.{lines_none, lines_past}
use Rattle.seg_read.proofs.whole.whole_to.Goals as goal

pub returns-then-root-eq0-clause-none : goal.returns-then-root-eq0-clause-none
returns-then-root-eq0-clause-none c = λ m A r i above. empty_at r c.if-root-eq0.true i

pub part_of-requires-clause-low : goal.part_of-requires-clause-low
part_of-requires-clause-low c = root_low c.requires.2

pub returns-then-is_within-clause-part : goal.returns-then-is_within-clause-part
returns-then-is_within-clause-part c = λ m A r.
    let some = c.if-root-eq0.false in
    let at = c.part_of.ensures.at in
    as_whole c.args.root.height c.part_of.result c.part_of.ensures.top (omega (arith, some, at)) (root_part c.part_of.result (c.part_of.ensures.part (line_at m)) r)

pub returns-else-is_within-clause-none : goal.returns-else-is_within-clause-none
returns-else-is_within-clause-none c = λ m A r i high.
    let some = c.if-root-eq0.false in
    let past = c.if-is_within.ensures in
    let out = c.if-is_within.false in
    root_past r (omega (arith, some)) i (grind (arith, past, out, high))

pub returns-then-root-eq0-clause-lines : goal.returns-then-root-eq0-clause-lines
returns-then-root-eq0-clause-lines c = λ m A r. lines_none c.args.offset A (empty_array r c.if-root-eq0.true)

pub returns-else-is_within-clause-lines : goal.returns-else-is_within-clause-lines
returns-else-is_within-clause-lines c = λ m A r.
    let some = c.if-root-eq0.false in
    let past = c.if-is_within.ensures in
    let out = c.if-is_within.false in
    lines_past c.args.offset r (omega (arith, some)) (grind (arith, past, out))

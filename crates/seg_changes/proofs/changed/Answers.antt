use Rattle.std.proofs.Common.{◌^◌, ◌≤◌, length, refl, sym, ◌∙◌, ap, arith}
use Rattle.std.proofs.Math.Nat.{pow-le-pow_right}
use Rattle.seg_read.proofs.Rooting.{root_part}
use Rattle.seg_changes.proofs.EqualParts.{told_not}
use Rattle.seg_changes.proofs.RootLooks.{equal_arrays, other_entries, root_looks, roots, top_low}
use Rattle.seg_changes.proofs.WholeArrays.{differ_nothing, no_changes, parts_differ, whole_changes, whole_length}
use Rattle.seg_changes.proofs.changed.Goals as goal

pub part_of-requires-clause-low : goal.part_of-requires-clause-low
part_of-requires-clause-low g c = top_low c.max.result c.max-top.result c.requires.before.1 c.requires.after.1 c.max.ensures c.max-top.ensures

pub part_of-requires-2-clause-low : goal.part_of-requires-2-clause-low
part_of-requires-2-clause-low g c = top_low c.max.result c.max-top.result c.requires.before.1 c.requires.after.1 c.max.ensures c.max-top.ensures

pub differ_in-requires-clause-before : goal.differ_in-requires-clause-before
differ_in-requires-clause-before g c = (c.requires.before.0, root_part c.part_of.result (c.part_of.ensures.part _) c.requires.before.1)

pub differ_in-requires-clause-after : goal.differ_in-requires-clause-after
differ_in-requires-clause-after g c = (c.requires.after.0, root_part c.part_of-2.result (c.part_of-2.ensures.part _) c.requires.after.1)

pub differ_in-requires-clause-fits : goal.differ_in-requires-clause-fits
differ_in-requires-clause-fits g c =
    let most = top_low c.max.result c.max-top.result c.requires.before.1 c.requires.after.1 c.max.ensures c.max-top.ensures in
    let top = c.part_of.ensures.top in
    let low : c.part_of.result.top ≤ 16 = omega (arith, most, top) in
    let less : 4 ^ c.part_of.result.top ≤ 4 ^ 16 = pow-le-pow_right (omega arith) low in
    omega (arith, less)

pub differ_in-requires-clause-other : goal.differ_in-requires-clause-other
differ_in-requires-clause-other g c =
    let r = c.requires.before.1 in
    let s = c.requires.after.1 in
    let w = roots c.part_of.result c.part_of-2.result c.max.result c.max-top.result r s c.max.ensures c.max-top.ensures (c.part_of.ensures.part _) (c.part_of-2.ensures.part _) c.part_of.ensures.top c.part_of-2.ensures.top c.part_of.ensures.at c.part_of-2.ensures.at in
    other_entries (g.met.M.LineMem.sound c.args.mem.now).unique w (told_not c.same_word.result c.same_word.ensures c.if-same_word.false)

-- one word, and equal arrays
pub returns-then-same_word-clause-differences : goal.returns-then-same_word-clause-differences
returns-then-same_word-clause-differences g c = λ A B r s.
    let same = equal_arrays (g.met.M.LineMem.sound c.args.mem.now).unique r s (c.same_word.ensures.0 c.if-same_word.true) in
    no_changes _ A B c.clear.new.self c.clear.ensures (differ_nothing A B r.valid s.valid same)

pub returns-then-same_word-clause-wide : goal.returns-then-same_word-clause-wide
returns-then-same_word-clause-wide g c = λ A B r s.
    let same = equal_arrays (g.met.M.LineMem.sound c.args.mem.now).unique r s (c.same_word.ensures.0 c.if-same_word.true) in
    let none = ap length (differ_nothing A B r.valid s.valid same) in
    (λ e. cc, λ many. absurd (omega (arith, none, many)))

-- two words
pub returns-in-Ok-clause-differences : goal.returns-in-Ok-clause-differences
returns-in-Ok-clause-differences g c = λ A B r s.
    let w = roots c.part_of.result c.part_of-2.result c.max.result c.max-top.result r s c.max.ensures c.max-top.ensures (c.part_of.ensures.part _) (c.part_of-2.ensures.part _) c.part_of.ensures.top c.part_of-2.ensures.top c.part_of.ensures.at c.part_of-2.ensures.at in
    whole_changes B c.clear.ensures (parts_differ w.old w.new (c.part_of.ensures.top ∙ sym c.part_of-2.ensures.top)) (c.in-Ok.ensures.differences A B w.old w.new)

pub returns-in-Ok-clause-wide : goal.returns-in-Ok-clause-wide
returns-in-Ok-clause-wide g c = λ A B r s.
    let w = roots c.part_of.result c.part_of-2.result c.max.result c.max-top.result r s c.max.ensures c.max-top.ensures (c.part_of.ensures.part _) (c.part_of-2.ensures.part _) c.part_of.ensures.top c.part_of-2.ensures.top c.part_of.ensures.at c.part_of-2.ensures.at in
    let as_many = whole_length B c.clear.ensures (parts_differ w.old w.new (c.part_of.ensures.top ∙ sym c.part_of-2.ensures.top)) (c.in-Ok.ensures.differences A B w.old w.new) in
    let few = c.in-Ok.ensures.few in
    (λ e. cc, λ many. absurd (omega (arith, as_many, few, many)))

pub returns-in-Ok-clause-looks : goal.returns-in-Ok-clause-looks
returns-in-Ok-clause-looks g c = λ A B r s.
    let w = roots c.part_of.result c.part_of-2.result c.max.result c.max-top.result r s c.max.ensures c.max-top.ensures (c.part_of.ensures.part _) (c.part_of-2.ensures.part _) c.part_of.ensures.top c.part_of-2.ensures.top c.part_of.ensures.at c.part_of-2.ensures.at in
    root_looks (length c.clear.new.self) (ap length c.clear.ensures) w (c.in-Ok.ensures.looks A B w.old w.new)

pub returns-in-Err-clause-wide : goal.returns-in-Err-clause-wide
returns-in-Err-clause-wide g c = λ A B r s.
    let w = roots c.part_of.result c.part_of-2.result c.max.result c.max-top.result r s c.max.ensures c.max-top.ensures (c.part_of.ensures.part _) (c.part_of-2.ensures.part _) c.part_of.ensures.top c.part_of-2.ensures.top c.part_of.ensures.at c.part_of-2.ensures.at in
    let all = ap length (parts_differ w.old w.new (c.part_of.ensures.top ∙ sym c.part_of-2.ensures.top)) in
    let none = ap length c.clear.ensures in
    let wide = c.in-Err.ensures.wide A B w.old w.new in
    (λ e. omega (arith, all, none, wide), λ many. refl)

pub returns-in-Err-clause-looks : goal.returns-in-Err-clause-looks
returns-in-Err-clause-looks g c = λ A B r s.
    let w = roots c.part_of.result c.part_of-2.result c.max.result c.max-top.result r s c.max.ensures c.max-top.ensures (c.part_of.ensures.part _) (c.part_of-2.ensures.part _) c.part_of.ensures.top c.part_of-2.ensures.top c.part_of.ensures.at c.part_of-2.ensures.at in
    root_looks (length c.clear.new.self) (ap length c.clear.ensures) w (c.in-Err.ensures.looks A B w.old w.new)

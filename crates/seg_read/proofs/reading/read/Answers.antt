use Rattle.std.proofs.Common.{sym, ◌∙◌, subst, arith}
use Rattle.hic_word.specs.Memory.{line_at}
use Rattle.hic_word.specs.Stands.{WordFor}
use Rattle.hic_word.proofs.callers.Standing.{id_live}
use Rattle.seg_read.proofs.Descending.{along_path, arrived, at_empty, at_packed, few_looks, first_way, off_path, shifted, through_line, turn, way_line}
use Rattle.seg_read.proofs.reading.read.Goals as goal

pub loop-height-init : goal.loop-height-init
loop-height-init g c = λ A r. let (some, low) = c.in-Some.ensures.some in first_way c.args.offset c.args.steps.now r some low (c.in-Some.ensures.part _ A r)

pub overflow_shr-place : goal.overflow_shr-place
overflow_shr-place g c =
    let (n, w, all) = turn _ _ _ _ _ _ _ (c.loop-height.invariant c.requires.0 c.requires.1) c.loop-height-test.true in
    let high = w.stands.low in
    omega (arith, high)

pub returns-in-Pack-clause-value : goal.returns-in-Pack-clause-value
returns-in-Pack-clause-value g c = λ A r.
    let (n, w, all) = turn _ _ _ _ _ _ _ (c.loop-height.invariant A r) c.loop-height-test.true in
    (at_packed w c.in-Pack.is (shifted c.args.offset _) (c.number_at.ensures _)).0

pub returns-in-Pack-clause-looks : goal.returns-in-Pack-clause-looks
returns-in-Pack-clause-looks g c = λ A r.
    let (n, w, all) = turn _ _ _ _ _ _ _ (c.loop-height.invariant A r) c.loop-height-test.true in
    let none = (at_packed w c.in-Pack.is (shifted c.args.offset _) (c.number_at.ensures _)).1 in
    omega (arith, all, none)

pub returns-in-Pack-clause-height : goal.returns-in-Pack-clause-height
returns-in-Pack-clause-height g c = few_looks c.args.offset c.args.steps.now c.loop-height.steps _ c.requires.1 c.in-Some.ensures.some (c.loop-height.invariant _ c.requires.1).2

pub returns-in_default-clause-value : goal.returns-in_default-clause-value
returns-in_default-clause-value g c = λ A r.
    let (n, w, all) = turn _ _ _ _ _ _ _ (c.loop-height.invariant A r) c.loop-height-test.true in
    subst (WordFor 4 (line_at (g.M.HoldCounts.memory c.args.mem.now)) c.num-in_default.result) (sym (at_empty w c.in_default.not-Node c.in_default.not-Pack).0) (c.num-in_default.ensures.stands 4 _)

pub returns-in_default-clause-looks : goal.returns-in_default-clause-looks
returns-in_default-clause-looks g c = λ A r.
    let (n, w, all) = turn _ _ _ _ _ _ _ (c.loop-height.invariant A r) c.loop-height-test.true in
    let none = (at_empty w c.in_default.not-Node c.in_default.not-Pack).1 in
    omega (arith, all, none)

pub returns-in_default-clause-height : goal.returns-in_default-clause-height
returns-in_default-clause-height g c = few_looks c.args.offset c.args.steps.now c.loop-height.steps _ c.requires.1 c.in-Some.ensures.some (c.loop-height.invariant _ c.requires.1).2

pub word-entry-requires-clause-live : goal.word-entry-requires-clause-live
word-entry-requires-clause-live g c =
    let (n, w, all) = turn _ _ _ _ _ _ _ (c.loop-height.invariant c.requires.0 c.requires.1) c.loop-height-test.true in
    id_live (way_line c.make.result w c.in-Node.is (let l = c.length_of.ensures in let z = c.if-length_of-eq0.true in omega (arith, l, z)) (c.make.ensures ∙ c.id_of.ensures)).line

pub loop-height-preserved-then-length_of-eq0 : goal.loop-height-preserved-then-length_of-eq0
loop-height-preserved-then-length_of-eq0 g c = λ A r.
    let (n, w, all) = turn _ _ _ _ _ _ _ (c.loop-height.invariant A r) c.loop-height-test.true in
    let (l, down, left) = through_line c.make.result _ c.word-entry.result w c.in-Node.is (let l = c.length_of.ensures in let z = c.if-length_of-eq0.true in omega (arith, l, z)) (c.make.ensures ∙ c.id_of.ensures) (shifted c.args.offset _) c.word-entry.ensures.word in
    let one = c.word-entry.ensures.one_look in
    (l, down, omega (arith, all, left, one))

pub loop-height-preserved : goal.loop-height-preserved
loop-height-preserved g c = λ A r.
    let (n, w, all) = turn _ _ _ _ _ _ _ (c.loop-height.invariant A r) c.loop-height-test.true in
    (n, along_path c.path_of.result c.length_of.result w c.in-Node.is c.path_of.ensures c.length_of.ensures (let some = c.if-length_of-eq0.false in omega (arith, some)) c.shorter-entry.ensures (c.if-path_of-place.true ∙ shifted c.args.offset _), all)

pub returns-else-path_of-place-clause-value : goal.returns-else-path_of-place-clause-value
returns-else-path_of-place-clause-value g c = λ A r.
    let (n, w, all) = turn _ _ _ _ _ _ _ (c.loop-height.invariant A r) c.loop-height-test.true in
    let off = off_path c.path_of.result c.length_of.result w c.in-Node.is c.path_of.ensures c.length_of.ensures (let some = c.if-length_of-eq0.false in omega (arith, some)) (λ e. c.if-path_of-place.false (e ∙ sym (shifted c.args.offset _))) in
    subst (WordFor 4 (line_at (g.M.HoldCounts.memory c.args.mem.now)) c.num-else-path_of-place.result) (sym off.0) (c.num-else-path_of-place.ensures.stands 4 _)

pub returns-else-path_of-place-clause-looks : goal.returns-else-path_of-place-clause-looks
returns-else-path_of-place-clause-looks g c = λ A r.
    let (n, w, all) = turn _ _ _ _ _ _ _ (c.loop-height.invariant A r) c.loop-height-test.true in
    let off = off_path c.path_of.result c.length_of.result w c.in-Node.is c.path_of.ensures c.length_of.ensures (let some = c.if-length_of-eq0.false in omega (arith, some)) (λ e. c.if-path_of-place.false (e ∙ sym (shifted c.args.offset _))) in
    let none = off.1 in
    omega (arith, all, none)

pub returns-else-path_of-place-clause-height : goal.returns-else-path_of-place-clause-height
returns-else-path_of-place-clause-height g c = few_looks c.args.offset c.args.steps.now c.loop-height.steps _ c.requires.1 c.in-Some.ensures.some (c.loop-height.invariant _ c.requires.1).2

pub returns-clause-value : goal.returns-clause-value
returns-clause-value g c = λ A r. let done = c.loop-height-test.false in (arrived A c.args.offset c.loop-height.height (omega (arith, done)) (c.loop-height.invariant A r).1).0

pub returns-clause-looks : goal.returns-clause-looks
returns-clause-looks g c = λ A r.
    let (n, reach, all) = c.loop-height.invariant A r in
    let done = c.loop-height-test.false in
    let none = (arrived A c.args.offset c.loop-height.height (omega (arith, done)) reach).1 in
    omega (arith, all, none)

pub returns-clause-height : goal.returns-clause-height
returns-clause-height g c = few_looks c.args.offset c.args.steps.now c.loop-height.steps _ c.requires.1 c.in-Some.ensures.some (c.loop-height.invariant _ c.requires.1).2

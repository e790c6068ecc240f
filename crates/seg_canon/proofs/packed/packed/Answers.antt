use Rattle.std.proofs.Common.{◌≡◌, ◌+◌, ◌-◌, arith}
use Rattle.hic_word.specs.Width.{pack_limit}
use Rattle.seg_canon.proofs.Packing.{all_packed, all_packed_names, large_at, none_packed, not_true, packed_place, packed_step, words_large}
use Rattle.seg_canon.proofs.packed.packed.Goals as goal

pub loop-done-init : goal.loop-done-init
loop-done-init g c = packed_place (omega arith) (none_packed g.row.W c.args.words.now c.told-words)

pub returns-then-not-is_small-clause-numbers : goal.returns-then-not-is_small-clause-numbers
returns-then-not-is_small-clause-numbers g c = λ m vs f.
    words_large (pack_limit g.row.W) f (large_at (pack_limit g.row.W) c.args.words.now (g.row.W - 1 - c.loop-done.done) _ (omega arith) (not_true _ c.is_small.ensures.1 c.if-not-is_small.true))

pub overflow_mul-bits : goal.overflow_mul-bits
overflow_mul-bits g c =
    let step = packed_step c.requires.wide c.args.words.now (g.row.W - 1 - c.loop-done.done) (g.row.W - c.loop-done.done) c.first_large.result c.loop-done.bits _ c.told-words (omega arith) (omega arith) c.first_large.ensures c.loop-done.invariant (c.is_small.ensures.0 c.if-not-is_small.false) in
    let room = step.room in
    omega (arith, room)

pub overflow_add-bits : goal.overflow_add-bits
overflow_add-bits g c =
    let step = packed_step c.requires.wide c.args.words.now (g.row.W - 1 - c.loop-done.done) (g.row.W - c.loop-done.done) c.first_large.result c.loop-done.bits _ c.told-words (omega arith) (omega arith) c.first_large.ensures c.loop-done.invariant (c.is_small.ensures.0 c.if-not-is_small.false) in
    let room = step.room in
    omega (arith, room)

pub loop-done-preserved : goal.loop-done-preserved
loop-done-preserved g c =
    let step = packed_step c.requires.wide c.args.words.now (g.row.W - 1 - c.loop-done.done) (g.row.W - c.loop-done.done) c.first_large.result c.loop-done.bits _ c.told-words (omega arith) (omega arith) c.first_large.ensures c.loop-done.invariant (c.is_small.ensures.0 c.if-not-is_small.false) in
    let same : g.row.W - 1 - c.loop-done.done ≡ g.row.W - (c.loop-done.done + 1) = omega arith in
    packed_place same step.packed

pub returns-clause-numbers : goal.returns-clause-numbers
returns-clause-numbers g c = λ m vs f. all_packed m c.args.words.now vs c.loop-done.bits (packed_place (omega arith) c.loop-done.invariant) f

pub returns-clause-names : goal.returns-clause-names
returns-clause-names g c = all_packed_names g.row.W c.args.words.now c.loop-done.bits (packed_place (omega arith) c.loop-done.invariant)

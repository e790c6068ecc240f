use Rattle.std.proofs.Common.{◌≡◌, ◌-◌, ◌+◌, length, take, ◌∙◌, ap, arith}
use Rattle.hic_word.specs.Changes.{with}
use Rattle.seg_write.proofs.Trimming.{drops_last, last_taken, take_whole}
use Rattle.seg_write.proofs.whole.needed.Goals as goal

pub loop-gone-init : goal.loop-gone-init
loop-gone-init c = λ m A L a f ascend.
    let cs = c.args.changes.now in
    ap (λ n. with A (take n L)) (let all : length cs - 0 ≡ length cs = omega arith in all) ∙ ap (with A) (take_whole m cs L f)

pub returns-then-is_needed-clause-last : goal.returns-then-is_needed-clause-last
returns-then-is_needed-clause-last c =
    let cs = c.args.changes.now in
    let gone = c.loop-gone-test.true in
    last_taken cs (length cs - c.loop-gone.gone) _ _ _ (omega (arith, gone)) (omega arith) (c.is_needed.ensures.some c.if-is_needed.true)

pub loop-gone-preserved : goal.loop-gone-preserved
loop-gone-preserved c = λ m A L a f ascend.
    let cs = c.args.changes.now in
    let gone = c.loop-gone-test.true in
    let k = length cs - c.loop-gone.gone in
    let idle = c.is_needed.ensures.none c.if-is_needed.false in
    let less : length cs - (c.loop-gone.gone + 1) ≡ k - 1 = omega arith in
    ap (λ n. with A (take n L)) less ∙ drops_last m c.args.height k cs A L _ a f ascend (omega (arith, gone)) (omega arith) idle.0 idle.1 ∙ c.loop-gone.invariant m A L a f ascend

pub returns-clause-same : goal.returns-clause-same
returns-clause-same c = λ m A L a f ascend.
    let cs = c.args.changes.now in
    let done = c.loop-gone-test.false in
    let none : 0 ≡ length cs - c.loop-gone.gone = omega (arith, done) in
    ap (λ n. with A (take n L)) none ∙ c.loop-gone.invariant m A L a f ascend

use Rattle.std.proofs.Common.{◌+◌, ◌∙◌, ap, sym, subst, arith}
use Rattle.hic_machine.specs.HeldAt.{sought}
use Rattle.hic_machine.proofs.Seeking.{Going, all_waiting, closed_pairs, ends, goes_on, opened_pairs, passes, stops, waiting_of}
use Rattle.hic_machine.proofs.arrays.past_waiting.Goals as goal
use Rattle.hic_machine.proofs.arrays.past_waiting.Goals.{in-Ok+in_ok-left, in_default}

pub returns-in_err-left : goal.returns-in_err-left
returns-in_err-left c =
    c.from_residual.ensures
    ∙ stops waiting_of c.args.iters.now c.args.k c.loop-iter.iter-index c.loop-iter.left c.iter-item.result c.loop-iter-test.true c.iter-item.is c.loop-iter.invariant c.past_pairs.result _ (c.past_pairs.ensures ∙ ap (λ ws. sought ws c.loop-iter.left) (sym (opened_pairs (λ p. p.now) c.iter-item.result c.pending.result c.in-Ok.pairs c.pending.ensures c.in-Ok.is))) c.in_err-left.was
    ∙ ap (λ ws. sought ws c.args.k) (all_waiting c.args.iters.now)

pub loop-iter-preserved : goal.loop-iter-preserved
loop-iter-preserved c = elim c.match-pending.branch [
  | in-Ok+in_ok-left w ↦ subst (Going waiting_of c.args.iters.now c.args.k (c.loop-iter.iter-index + 1)) (sym w.left-is) (goes_on waiting_of c.args.iters.now c.args.k c.loop-iter.iter-index c.loop-iter.left c.iter-item.result c.loop-iter-test.true c.iter-item.is c.loop-iter.invariant w.past_pairs.result w.in_ok-left.left (w.past_pairs.ensures ∙ ap (λ ws. sought ws c.loop-iter.left) (sym (opened_pairs (λ p. p.now) c.iter-item.result c.pending.result w.in-Ok.pairs c.pending.ensures w.in-Ok.is))) w.in_ok-left.was)
  | in_default w ↦ subst (Going waiting_of c.args.iters.now c.args.k (c.loop-iter.iter-index + 1)) (sym w.left-is) (passes waiting_of c.args.iters.now c.args.k c.loop-iter.iter-index c.loop-iter.left c.iter-item.result c.loop-iter-test.true c.iter-item.is c.loop-iter.invariant (closed_pairs (λ p. p.now) c.iter-item.result c.pending.result w.in_default.field-0 c.pending.ensures w.in_default.is))
]

pub returns : goal.returns
returns c = ends waiting_of c.args.iters.now c.args.k c.loop-iter.iter-index c.loop-iter.left (omega (arith, c.loop-iter-test.false)) c.loop-iter.invariant ∙ ap (λ ws. sought ws c.args.k) (all_waiting c.args.iters.now)

use Rattle.std.proofs.Common.{◌∙◌, ap, sym, arith}
use Rattle.hic_machine.specs.HeldAt.{sought}
use Rattle.hic_machine.proofs.Seeking.{all_snapshots, ends, opened_snapshot, snapshot_of, stops}
use Rattle.hic_machine.proofs.arrays.past_snapshots.Goals as goal

pub returns-in_err-left : goal.returns-in_err-left
returns-in_err-left c =
    c.from_residual.ensures
    ∙ stops snapshot_of c.args.iters.now c.args.k c.loop-iter.iter-index c.loop-iter.left c.iter-item.result c.loop-iter-test.true c.iter-item.is c.loop-iter.invariant c.past_word.result _ (c.past_word.ensures ∙ ap (λ ws. sought ws c.loop-iter.left) (sym (opened_snapshot c.iter-item.result c.in-Ok.root (sym c.snapshot.ensures ∙ c.in-Ok.is)))) c.in_err-left.was
    ∙ ap (λ ws. sought ws c.args.k) (all_snapshots c.args.iters.now)

pub returns : goal.returns
returns c = ends snapshot_of c.args.iters.now c.args.k c.loop-iter.iter-index c.loop-iter.left (omega (arith, c.loop-iter-test.false)) c.loop-iter.invariant ∙ ap (λ ws. sought ws c.args.k) (all_snapshots c.args.iters.now)

use Rattle.std.proofs.Common.{◌++◌, ◌∙◌}
use Rattle.hic_machine.specs.Held.{snapshot_words, waiting_words}
use Rattle.hic_machine.proofs.Seeking.{found_in, left_by}
use Rattle.hic_machine.proofs.arrays.past_task.Goals as goal

pub returns-in_err-k : goal.returns-in_err-k
returns-in_err-k c =
    let T = c.args.task.now in
    c.from_residual.ensures ∙ found_in T.regs (snapshot_words T.iters ++ waiting_words T.iters) c.args.k c.past_registers.result c.past_registers.ensures _ c.in_err-k.was

pub returns-in_err-k-2 : goal.returns-in_err-k-2
returns-in_err-k-2 c =
    let T = c.args.task.now in
    c.from_residual-in_err-k-2.ensures
    ∙ found_in (snapshot_words T.iters) (waiting_words T.iters) c.in_ok-k.k c.past_snapshots.result c.past_snapshots.ensures _ c.in_err-k-2.was
    ∙ left_by T.regs (snapshot_words T.iters ++ waiting_words T.iters) c.args.k c.past_registers.result c.past_registers.ensures c.in_ok-k.k c.in_ok-k.was

pub returns : goal.returns
returns c =
    let T = c.args.task.now in
    c.past_waiting.ensures
    ∙ left_by (snapshot_words T.iters) (waiting_words T.iters) c.in_ok-k.k c.past_snapshots.result c.past_snapshots.ensures c.in_ok-k-2.k c.in_ok-k-2.was
    ∙ left_by T.regs (snapshot_words T.iters ++ waiting_words T.iters) c.args.k c.past_registers.result c.past_registers.ensures c.in_ok-k.k c.in_ok-k.was

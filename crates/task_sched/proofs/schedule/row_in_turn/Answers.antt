use Rattle.std.proofs.Common.{sym, ◌∙◌, arith}
use Rattle.std.proofs.lemmas.Nat.{one_shl}
use Rattle.task_sched.proofs.Tasks.{turn_count-alone, turn_count-others}
use Rattle.task_sched.proofs.schedule.row_in_turn.Goals as goal

pub returns-then-is_alone-clause-count : goal.returns-then-is_alone-clause-count
returns-then-is_alone-clause-count c =
    let task = c.task_in_turn-task in
    sym (turn_count-alone c.args.running task.result (c.if-is_alone.true ∙ one_shl task.result 16 task.ensures.below) task.ensures.below)

pub returns-else-is_alone-clause-count : goal.returns-else-is_alone-clause-count
returns-else-is_alone-clause-count c =
    let task = c.task_in_turn-task in
    sym (turn_count-others c.args.running task.result (omega arith) task.ensures.below task.ensures.runs (λ alone. c.if-is_alone.false (alone ∙ sym (one_shl task.result 16 task.ensures.below))))

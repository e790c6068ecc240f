use Rattle.hic_word.specs.Values.{Number}
use Rattle.hic_task.proofs.task.Task.set_number.Goals as goal

pub set-requires-clause-word : goal.set-requires-clause-word
set-requires-clause-word g c = (Number c.args.number, c.num.ensures.stands _ _)

pub returns-clause-task : goal.returns-clause-task
returns-clause-task g c = λ T d. c.set.ensures.task T (Number c.args.number) d (c.num.ensures.stands _ _)

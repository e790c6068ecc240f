use Rattle.std.proofs.Common.{refl}
use Rattle.hic_task.proofs.OnNumbers.{task_made}
use Rattle.hic_task.proofs.numbers.own_number.Goals as goal

pub returns-then-not-have_numbers : goal.returns-then-not-have_numbers
returns-then-not-have_numbers c = refl

pub put-requires-clause-holds : goal.put-requires-clause-holds
put-requires-clause-holds c = (c.have_numbers.ensures c.if-not-have_numbers.false).first

pub returns : goal.returns
returns c = task_made c.put.ensures c.from.ensures

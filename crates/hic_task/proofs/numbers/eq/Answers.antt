use Rattle.std.proofs.Common.{refl}
use Rattle.hic_task.proofs.OnNumbers.{eq_made}
use Rattle.hic_task.proofs.numbers.eq.Goals as goal

pub returns-then-not-have_numbers : goal.returns-then-not-have_numbers
returns-then-not-have_numbers c = λ number. refl

pub at-x-requires : goal.at-x-requires
at-x-requires c = (c.have_numbers.ensures c.if-not-have_numbers.false).second

pub at-y-requires : goal.at-y-requires
at-y-requires c = (c.have_numbers.ensures c.if-not-have_numbers.false).third

pub put-requires-clause-holds : goal.put-requires-clause-holds
put-requires-clause-holds c = (c.have_numbers.ensures c.if-not-have_numbers.false).first

pub returns : goal.returns
returns c = λ number. eq_made c.put.ensures c.at-x.ensures c.at-y.ensures c.from.ensures

use Rattle.std.proofs.Common.{sym, ◌∙◌, refl}
use Rattle.hic_task.proofs.OnNumbers.{alu_made}
use Rattle.hic_task.proofs.numbers.alu.Goals as goal

pub returns-then-not-have_numbers : goal.returns-then-not-have_numbers
returns-then-not-have_numbers c = λ number. refl

pub at-x-requires : goal.at-x-requires
at-x-requires c = (c.have_numbers.ensures c.if-not-have_numbers.false).second

pub at-y-requires : goal.at-y-requires
at-y-requires c = (c.have_numbers.ensures c.if-not-have_numbers.false).third

pub put-requires-clause-holds : goal.put-requires-clause-holds
put-requires-clause-holds c = (c.have_numbers.ensures c.if-not-have_numbers.false).first

pub returns-in-Ok : goal.returns-in-Ok
returns-in-Ok c = λ number. alu_made c.put.ensures c.at-x.ensures c.at-y.ensures (sym c.alu.ensures ∙ c.in-Ok.is)

pub returns-in-Err : goal.returns-in-Err
returns-in-Err c = λ number. refl

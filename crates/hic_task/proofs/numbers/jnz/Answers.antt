use Rattle.std.proofs.Common.{refl}
use Rattle.hic_task.proofs.OnNumbers.{jnz_made}
use Rattle.hic_task.proofs.numbers.jnz.Goals as goal

pub returns-then-not-have_numbers : goal.returns-then-not-have_numbers
returns-then-not-have_numbers c = λ number. refl

pub at-n-requires : goal.at-n-requires
at-n-requires c = (c.have_numbers.ensures c.if-not-have_numbers.false).first

pub returns : goal.returns
returns c = λ number. jnz_made c.at-n.ensures c.jump_if.ensures

use Rattle.std.proofs.Common.{sym, subst}
use Rattle.reg_file.specs.Numbers.{HasNumber, HoldsNumber}
use Rattle.hic_task.proofs.numbers.at.Goals as goal

pub number-requires-clause-number : goal.number-requires-clause-number
number-requires-clause-number c = subst (HasNumber c.args.regs.now) (sym c.get.ensures.number) c.requires

pub returns : goal.returns
returns c = subst (λ r. HoldsNumber c.args.regs.now r c.number.result) c.get.ensures.number c.number.ensures

use Rattle.std.specs.Prelude.{bit_and}
use Rattle.std.proofs.lemmas.Bool.{eqb-true}
use Rattle.hic_task.proofs.OnNumbers.{all_numbers, have_numbers}
use Rattle.hic_task.proofs.numbers.have_numbers.Goals as goal

pub returns-then-others-eq0 : goal.returns-then-others-eq0
returns-then-others-eq0 c = λ yes. all_numbers c.others-others.result c.args.regs.now c.args.a c.args.b c.args.c c.if-others-eq0.true c.others-others.ensures

pub returns : goal.returns
returns c = λ yes. have_numbers c.others-others.result c.bits.result (eqb-true (bit_and c.others-others.result c.bits.result) 0 yes) c.args.regs.now c.others-others.ensures c.bits.ensures

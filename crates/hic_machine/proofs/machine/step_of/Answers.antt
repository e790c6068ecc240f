use Rattle.std.proofs.Common.{[], refl}
use Rattle.hic_word.proofs.callers.Holds.{exchanges_nothing, exchanges_reshapes}
use Rattle.hic_task.proofs.Wider.{no_looks}
use Rattle.hic_machine.proofs.Keeping.{kept_so, number_stepped, short}
use Rattle.hic_machine.proofs.machine.step_of.Goals as goal

pub number_step-requires : goal.number_step-requires
number_step-requires g c = let (ks, P, h) = c.requires in short h.stands

pub whole_step-requires : goal.whole_step-requires
whole_step-requires g c = let (ks, P, h) = c.requires in (ks, P, kept_so c.number_step.new.regs c.in-None.ensures h)

pub returns-in-None-clause-step : goal.returns-in-None-clause-step
returns-in-None-clause-step g c = λ ks P h. c.whole_step.ensures.step ks P (kept_so c.number_step.new.regs c.in-None.ensures h)

pub returns-in-None-clause-looks : goal.returns-in-None-clause-looks
returns-in-None-clause-looks g c = λ ks P h. c.whole_step.ensures.looks ks P (kept_so c.number_step.new.regs c.in-None.ensures h)

pub returns-in-Some-clause-step : goal.returns-in-Some-clause-step
returns-in-Some-clause-step g c = λ ks P h. number_stepped c.number_step.new.regs c.in-Some.next c.in-Some.ensures h

pub returns-in-Some-clause-lines : goal.returns-in-Some-clause-lines
returns-in-Some-clause-lines g c = (exchanges_reshapes (exchanges_nothing (g.S.HoldCounts.memory c.args.mem.now) [])).lines

pub returns-in-Some-clause-looks : goal.returns-in-Some-clause-looks
returns-in-Some-clause-looks g c = λ ks P h. no_looks _ refl

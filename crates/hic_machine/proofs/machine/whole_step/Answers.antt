use Rattle.std.proofs.Common.{sym, ◌∙◌}
use Rattle.hic_machine.proofs.Stepping.{looks_there, ready_with, stepped_on, stepped_past}
use Rattle.hic_machine.proofs.machine.whole_step.Goals as goal

pub act-requires : goal.act-requires
act-requires g c =
    let (ks, P, h) = c.requires in
    ready_with (g.S.HoldCounts.memory c.args.mem.now) c.args.code.now c.args.shared.now c.args.one.now c.args.task ks P h c.in-Some.instr (sym c.fetch.ensures ∙ c.in-Some.is)

pub returns-in-None-clause-step : goal.returns-in-None-clause-step
returns-in-None-clause-step g c = λ ks P h. stepped_past (g.S.HoldCounts.memory c.args.mem.now) c.args.code.now c.args.shared.now c.args.one.now c.args.task ks P h (sym c.fetch.ensures ∙ c.in-None.is)

pub returns-in-Some-clause-step : goal.returns-in-Some-clause-step
returns-in-Some-clause-step g c = λ ks P h. stepped_on (g.S.HoldCounts.memory c.args.mem.now) c.args.code.now c.args.shared.now c.args.one.now c.args.task ks P h _ _ _ c.in-Some.instr _ (sym c.fetch.ensures ∙ c.in-Some.is) c.act.ensures.row

pub returns-in-Some-clause-looks : goal.returns-in-Some-clause-looks
returns-in-Some-clause-looks g c = λ ks P h. looks_there (g.S.HoldCounts.memory c.args.mem.now) c.args.code.now c.args.shared.now c.args.one.now c.args.task ks P h c.in-Some.instr _ _ (sym c.fetch.ensures ∙ c.in-Some.is) c.act.ensures.looks

use Rattle.hic_task.specs.Acting.{turn_of}
use Rattle.hic_machine.proofs.Keeping.{one_looks, one_made, one_ran}
use Rattle.hic_machine.proofs.running.run.Goals as goal

pub returns-then-most-eq1-clause-run : goal.returns-then-most-eq1-clause-run
returns-then-most-eq1-clause-run g c = λ ks P h.
    one_ran (g.S.HoldCounts.memory c.args.mem.now).layout.probe c.args.steps.now h (g.S.HoldCounts.memory c.step_of-done.new.mem) c.step_of-done.new.shared c.step_of-done.new.one c.step_of-done.new.steps (c.step_of-done.ensures.looks ks P h)
    (turn_of c.step_of-done.result c.step_of-done.new.shared.printed) c.stop_after-stop.result c.stop_after-stop.new.printed (c.step_of-done.ensures.step ks P h) c.stop_after-stop.ensures

pub returns-then-most-eq1-clause-made : goal.returns-then-most-eq1-clause-made
returns-then-most-eq1-clause-made g c = one_made c.args.most c.stop_after-stop.result c.stop_after-stop.new.printed c.if-most-eq1.true

pub returns-then-most-eq1-clause-looks : goal.returns-then-most-eq1-clause-looks
returns-then-most-eq1-clause-looks g c = λ ks P h.
    one_looks (g.S.HoldCounts.memory c.args.mem.now).layout.probe c.args.steps.now h (g.S.HoldCounts.memory c.step_of-done.new.mem) c.step_of-done.new.shared c.step_of-done.new.one c.step_of-done.new.steps (c.step_of-done.ensures.looks ks P h)
    (turn_of c.step_of-done.result c.step_of-done.new.shared.printed) c.args.most c.if-most-eq1.true (c.step_of-done.ensures.step ks P h)

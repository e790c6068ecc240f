use Rattle.std.proofs.Common.{◌-◌, sym, ◌∙◌, ap}
use Rattle.hicamp.specs.Running.{run_by, told_by}
use Rattle.hicamp.proofs.RunLaws.{same_run}
use Rattle.hicamp.proofs.running.drop_run.Goals as goal

pub told-init : goal.told-init
told-init g c =
    let same = same_run c.args.machine.now.plain c.make-running.ensures.schedule c.make-running.ensures.left in
    record {
      end = ap (λ x. x.end) same;
      last = ap (λ x. x.last) same;
      tasks = c.make-running.ensures.tasks;
    }

pub told-preserved : goal.told-preserved
told-preserved g c =
    let m = c.go_on.new.machine in
    let rest = run_by m.plain c.go_on.new.self.schedule c.go_on.new.self.left in
    let made = c.told.running.left - c.go_on.new.self.left in
    let goes = c.go_on.ensures.run ∙ ap (λ told. told_by told made m.printed m.plain rest) c.in-Printed.is in
    record {
      end = ap (λ x. x.end) (sym goes) ∙ c.told.invariant.end;
      last = ap (λ x. x.last) (sym goes) ∙ c.told.invariant.last;
      tasks = c.go_on.ensures.tasks;
    }

pub returns-in-Ended-clause-end : goal.returns-in-Ended-clause-end
returns-in-Ended-clause-end g c =
    let m = c.go_on.new.machine in
    let rest = run_by m.plain c.go_on.new.self.schedule c.go_on.new.self.left in
    let made = c.told.running.left - c.go_on.new.self.left in
    let ends = c.go_on.ensures.run ∙ ap (λ told. told_by told made m.printed m.plain rest) c.in-Ended.is in
    ap (λ x. x.end) (sym ends) ∙ c.told.invariant.end

pub returns-in-Ended-clause-last : goal.returns-in-Ended-clause-last
returns-in-Ended-clause-last g c =
    let m = c.go_on.new.machine in
    let rest = run_by m.plain c.go_on.new.self.schedule c.go_on.new.self.left in
    let made = c.told.running.left - c.go_on.new.self.left in
    let ends = c.go_on.ensures.run ∙ ap (λ told. told_by told made m.printed m.plain rest) c.in-Ended.is in
    ap (λ x. x.last) (sym ends) ∙ c.told.invariant.last

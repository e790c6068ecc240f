use Rattle.std.proofs.Common.{◌≤◌, ◌-◌, ◌++◌, ℕ, List, length, IsTrue, sym, ◌∙◌, ap, subst}
use Rattle.std.proofs.lemmas.Result.{MatchResult-from_err}
use Rattle.hic_io.specs.Output.{Puts, WrotePart}
use Rattle.hic_io.specs.declared.writing.Side.TheVariants.{Output}
use Rattle.hicamp.specs.Running.{run_by, told_by}
use Rattle.hicamp.proofs.RunLaws.{run-ends, run-failed, run-out, run-room, run-start, same_run}
use Rattle.hicamp.proofs.running.write_run.Goals as goal

pub told-init : goal.told-init
told-init g c = record {
  so_far = run-start (g.H.Host.state c.args.host.now) c.args.out.now _ _ (same_run c.args.machine.now.plain c.make-running.ensures.schedule c.make-running.ensures.left);
  tasks = c.make-running.ensures.tasks;
}

-- ---- what was printed is put

pub told-preserved : goal.told-preserved
told-preserved g c =
    let m = c.go_on.new.machine in
    let rest = run_by m.plain c.go_on.new.self.schedule c.go_on.new.self.left in
    let made = c.told.running.left - c.go_on.new.self.left in
    let goes = c.go_on.ensures.run ∙ ap (λ told. told_by told made m.printed m.plain rest) c.in-Printed.is in
    let put = subst (λ (bs : List ℕ). Puts (g.H.Host.state c.told.host) (g.H.Host.state c.put.new.host) (c.told.out ++ bs) c.put.new.self) c.printed.ensures c.in_ok-put-in-Printed.ensures.ok in
    record {
      so_far = run-out c.told.invariant.so_far made m.printed rest goes put;
      tasks = c.go_on.ensures.tasks;
    }

pub returns-in_err-put-in-Printed-clause-failed : goal.returns-in_err-put-in-Printed-clause-failed
returns-in_err-put-in-Printed-clause-failed g c =
    let m = c.go_on.new.machine in
    let rest = run_by m.plain c.go_on.new.self.schedule c.go_on.new.self.left in
    let made = c.told.running.left - c.go_on.new.self.left in
    let goes = c.go_on.ensures.run ∙ ap (λ told. told_by told made m.printed m.plain rest) c.in-Printed.is in
    let put = subst (λ (bs : List ℕ). WrotePart Output (g.H.Host.state c.told.host) (g.H.Host.state c.put.new.host) (c.told.out ++ bs)) c.printed.ensures c.in_err-put-in-Printed.ensures.failed.part in
    MatchResult-from_err c.from_residual.result _ _ c.from_residual.ensures.0 (λ _. run-failed c.told.invariant.so_far made m.printed rest goes put)

pub returns-in_err-put-in-Printed-clause-sound : goal.returns-in_err-put-in-Printed-clause-sound
returns-in_err-put-in-Printed-clause-sound g c sound room =
    let m = c.go_on.new.machine in
    let rest = run_by m.plain c.go_on.new.self.schedule c.go_on.new.self.left in
    let made = c.told.running.left - c.go_on.new.self.left in
    let goes = c.go_on.ensures.run ∙ ap (λ told. told_by told made m.printed m.plain rest) c.in-Printed.is in
    let enough = run-room c.told.invariant.so_far made m.printed rest goes sound room in
    absurd (cc (c.in_err-put-in-Printed.ensures.sound (subst IsTrue (sym c.told.invariant.so_far.puts.wrote.quiet.sound) sound)
    (subst (λ (bs : List ℕ). length (c.told.out ++ bs) ≤ (g.H.Host.state c.told.host).room) (sym c.printed.ensures) enough)))

-- ---- the run has ended

pub returns-in-Ended-clause-ok : goal.returns-in-Ended-clause-ok
returns-in-Ended-clause-ok g c =
    let m = c.go_on.new.machine in
    let rest = run_by m.plain c.go_on.new.self.schedule c.go_on.new.self.left in
    let made = c.told.running.left - c.go_on.new.self.left in
    let ends = c.go_on.ensures.run ∙ ap (λ told. told_by told made m.printed m.plain rest) c.in-Ended.is in
    (run-ends c.told.invariant.so_far (ap (λ x. x.out) ends), ap (λ x. x.end) (sym ends) ∙ c.told.invariant.so_far.end)

pub returns-in-Ended-clause-last : goal.returns-in-Ended-clause-last
returns-in-Ended-clause-last g c =
    let m = c.go_on.new.machine in
    let rest = run_by m.plain c.go_on.new.self.schedule c.go_on.new.self.left in
    let made = c.told.running.left - c.go_on.new.self.left in
    let ends = c.go_on.ensures.run ∙ ap (λ told. told_by told made m.printed m.plain rest) c.in-Ended.is in
    ap (λ x. x.last) (sym ends) ∙ c.told.invariant.so_far.last

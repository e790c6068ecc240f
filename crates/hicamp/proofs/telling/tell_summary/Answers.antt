use Rattle.std.proofs.Common.{◌≡◌, ℕ, List, Some, subst}
use Rattle.hicamp.specs.Asked.{answer_bytes}
use Rattle.hicamp.specs.Outcome.{Fulfils}
use Rattle.hicamp.specs.Running.{run_by}
use Rattle.hicamp.specs.Summary.{summary}
use Rattle.hicamp.proofs.OutcomeLaws.{fulfils-left, fulfils-no_memory}
use Rattle.hicamp.proofs.telling.tell_summary.Goals as goal

pub returns-in-Ok-clause-fulfils : goal.returns-in-Ok-clause-fulfils
returns-in-Ok-clause-fulfils g c =
    let r = run_by c.args.machine.now.plain c.args.schedule c.args.most in
    let told = c.count_run-counted.ensures in
    let text = c.in-Ok.ensures in
    let slice = c.as_slice.ensures.value in
    let is : c.as_slice.result.now ≡ summary r = cc (slice, text, told.end, told.steps, told.last, told.zeros, told.ones, told.twos) in
    fulfils-left (Some r.last) (subst (λ (bytes : List ℕ). Fulfils (g.H.Host.state c.args.host.now) (g.H.Host.state c.write_bytes.new.host) c.write_bytes.result (answer_bytes bytes)) is c.write_bytes.ensures.fulfils)

pub returns-in-Err-clause-fulfils : goal.returns-in-Err-clause-fulfils
returns-in-Err-clause-fulfils g c = fulfils-no_memory _ _

use Rattle.std.proofs.Common.{◌≡◌, ◌++◌, ℕ, List, [], Some, IsTrue, length, sym, ap, subst, arith}
use Rattle.std.proofs.lemmas.List.{append-nil}
use Rattle.hic_io.specs.Output.{WrotePart}
use Rattle.hic_io.specs.declared.writing.Side.TheVariants.{Output}
use Rattle.hic_io.proofs.CallLaws.{part-later, room-kept}
use Rattle.hicamp.specs.Messages.{end_message, end_status}
use Rattle.hicamp.specs.Asked.{answer_run}
use Rattle.hicamp.specs.Running.{run_by}
use Rattle.hicamp.specs.Outcome.{Fulfils}
use Rattle.hicamp.proofs.OutcomeLaws.{fulfils-cut, fulfils-then, puts-flushed, end-some}
use Rattle.hicamp.proofs.telling.tell_output.Goals as goal

pub returns-in-Err-clause-fulfils : goal.returns-in-Err-clause-fulfils
returns-in-Err-clause-fulfils g c =
    let r = run_by c.args.machine.now.plain c.args.schedule c.args.most in
    let all : c.make-out.result ++ r.out ≡ r.out = ap (λ (xs : List ℕ). xs ++ r.out) c.make-out.ensures in
    fulfils-cut (answer_run r) all c.in-Err.ensures.failed (λ sound room. absurd (cc (c.in-Err.ensures.sound sound (omega (arith, room, ap length all)))))

pub returns-in-Err-flush-clause-fulfils : goal.returns-in-Err-flush-clause-fulfils
returns-in-Err-flush-clause-fulfils g c =
    let r = run_by c.args.machine.now.plain c.args.schedule c.args.most in
    let all : c.make-out.result ++ r.out ≡ r.out = ap (λ (xs : List ℕ). xs ++ r.out) c.make-out.ensures in
    let whole = c.make-out.result ++ r.out in
    let puts = c.in-Ok.ensures.ok.0 in
    let part = subst (λ (xs : List ℕ). WrotePart Output (g.H.Host.state c.write_run.new.host) (g.H.Host.state c.flush.new.host) xs) (append-nil c.write_run.new.out) c.in-Err-flush.ensures.failed.part in
    fulfils-cut (answer_run r) all (part-later whole [] puts part (sym (append-nil whole)))
    (λ sound room. absurd (cc (c.in-Err-flush.ensures.sound (subst IsTrue (sym puts.wrote.quiet.sound) sound) (room-kept whole [] puts (sym (append-nil whole)) sound (omega (arith, room, ap length all))))))

pub returns-clause-fulfils : goal.returns-clause-fulfils
returns-clause-fulfils g c =
    let r = run_by c.args.machine.now.plain c.args.schedule c.args.most in
    let all : c.make-out.result ++ r.out ≡ r.out = ap (λ (xs : List ℕ). xs ++ r.out) c.make-out.ensures in
    let ran = c.in-Ok.ensures.ok in
    subst (λ e. Fulfils (g.H.Host.state c.args.host.now) (g.H.Host.state c.report_end.new.host) c.report_end.result (record { out = r.out; err = end_message e; status = end_status e; last = Some r.last })) ran.1
    (fulfils-then r.out (end_message c.in-Ok.end) (end_status c.in-Ok.end) (Some r.last) (puts-flushed all ran.0 c.in_default.ensures.ok.1)
    (end-some c.in-Ok.end c.report_end.ensures.status) c.report_end.ensures.fulfils)

use Rattle.std.proofs.Common.{[], List, ℕ, sym, ◌∙◌, subst}
use Rattle.std.proofs.lemmas.Result.{MatchResult-from_err, IfErr-weaker}
use Rattle.hic_io.specs.Calls.{Wrote}
use Rattle.hic_io.specs.Output.{KeepsUnwritten}
use Rattle.hic_io.proofs.CallLaws.{keeps-more, keeps-none}
use Rattle.hic_io.proofs.out_buf.OutBuf.put.Goals as goal

pub returns-in_err-flush-clause-failed : goal.returns-in_err-flush-clause-failed
returns-in_err-flush-clause-failed g c =
    let old = g.H.Host.state c.args.host.now in
    let new = g.H.Host.state c.flush.new.host in
    let failed = subst (λ (xs : List ℕ). KeepsUnwritten old new xs [] c.flush.new.self) c.if-keep.ensures.same c.in_err-flush.ensures.failed in
    MatchResult-from_err c.from_residual.result _ _ c.from_residual.ensures.0 (λ _. keeps-more c.args.bytes.now failed)

pub returns-clause-failed : goal.returns-clause-failed
returns-clause-failed g c =
    let old = g.H.Host.state c.args.host.now in
    let middle = g.H.Host.state c.flush.new.host in
    let new = g.H.Host.state c.write_all.new.host in
    let ok = c.in_ok-flush.ensures.ok in
    let wrote = subst (λ (xs : List ℕ). Wrote old middle xs []) c.if-keep.ensures.same ok.1 in
    IfErr-weaker c.write_all.result _ _ (λ _ part.
    subst (λ (xs : List ℕ). KeepsUnwritten old new c.args.self.now c.args.bytes.now xs) (sym (c.if-keep-2.ensures.same ∙ ok.0))
    (keeps-none c.args.self.now c.args.bytes.now wrote part))
    c.write_all.ensures.failed

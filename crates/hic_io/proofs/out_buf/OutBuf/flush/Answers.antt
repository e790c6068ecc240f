use Rattle.std.proofs.Common.{◌≡◌, ◌<◌, ℕ, zero, suc, false, List, [], drop, take, length, length-drop, sym, ◌∙◌, ap, subst, arith, lit<}
use Rattle.std.specs.Prelude.{◌==◌}
use Rattle.hic_io.specs.Output.{WroteThenFailed, KeepsUnwritten}
use Rattle.hic_io.specs.declared.writing.Side.TheVariants.{Output}
use Rattle.hic_io.proofs.CallLaws.{keeps-rest}
use Rattle.hic_io.proofs.out_buf.OutBuf.flush.Goals as goal

above_0 : (n : ℕ) → (n == 0) ≡ false → 0 < n
above_0 zero other = absurd (cc other)
above_0 (suc n) other = omega arith

pub returns-then-not-is_empty-clause-failed : goal.returns-then-not-is_empty-clause-failed
returns-then-not-is_empty-clause-failed g c =
    let old = g.H.Host.state c.args.host.now in
    let new = g.H.Host.state c.write_front-written.new.host in
    let before = c.args.self.now in
    let written = c.write_front-written.result in
    let handed : c.as_slice.result.now ≡ before = c.as_slice.ensures.value ∙ c.self.view_is in
    let kept : c.drop-drain.new.self.0.items ≡ drop written before =
    c.drop-drain.ensures (lit< tt) ∙ c.drain.ensures.kept ∙ ap (λ (xs : List ℕ). drop written xs) c.self.view_is in
    let some : 0 < length c.drop-drain.new.self.0.items = above_0 _ (sym c.is_empty.ensures ∙ c.if-not-is_empty.true) in
    let short : written < length before = omega (arith, some, ap length kept, length-drop written before) in
    let failed = c.write_front-written.ensures.failed (omega (arith, short, ap length handed)) in
    subst (λ (xs : List ℕ). KeepsUnwritten old new before [] xs) (sym kept)
    (keeps-rest before written short (subst (λ (xs : List ℕ). WroteThenFailed Output old new (take written xs)) handed failed))

use Rattle.std.proofs.Common.{◌≡◌, ◌-◌, [], List, ℕ, zero, suc, subst, sym, refl, take, drop, ap, arith, length, ◌<◌, length-drop}
use Rattle.std.proofs.lemmas.List.{length-take}
use Rattle.hic_io.specs.Calls.{WroteTo}
use Rattle.hic_io.proofs.CallLaws.{wrote_to-then, front_more}
use Rattle.hic_io.proofs.writing.write_front.Goals as goal

above_0 : (n : ℕ) (xs : List ℕ) → (n ≡ 0 → xs ≡ []) → 0 < length xs → 0 < n
above_0 zero xs none some = absurd (omega (arith, ap length (none refl), some))
above_0 (suc n) xs none some = omega arith

pub loop-done-preserved : goal.loop-done-preserved
loop-done-preserved g c =
    let bytes = c.args.bytes.now in
    let done = c.loop-done.done in
    let count = c.in-Ok.count in
    let left = take (length bytes - done) (drop done bytes) in
    let ok = c.in-Ok.ensures.gives in
    let before = c.loop-done.invariant in
    record {
      in_range = omega (arith, ok.0, length-take {A = ℕ}, length-drop {A = ℕ});
      wrote = subst (λ (xs : List ℕ). WroteTo c.args.side (g.H.Host.state c.args.host.now) (g.H.Host.state c.write_some.new.host) xs)
          (sym (front_more bytes done count before.in_range)) (wrote_to-then c.args.side (take done bytes) (take count left) before.wrote ok.1);
      calls =
          let some : 0 < count = above_0 count left ok.2 (omega (arith, length-take {A = ℕ}, length-drop {A = ℕ}, c.loop-done-test.true)) in
          omega (arith, some, c.in-Ok.ensures.call.calls, before.calls);
    }

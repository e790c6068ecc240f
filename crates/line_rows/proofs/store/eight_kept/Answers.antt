use Rattle.std.proofs.Common.{◌∙◌, arith}
use Rattle.line_rows.proofs.store.eight_kept.Goals as goal
use Rattle.line_rows.proofs.store.eight_kept.Goals.{in-Ok, in-Err}

pub loop-n-preserved : goal.loop-n-preserved
loop-n-preserved g c =
    let kept = c.loop-n.invariant.kept in
    record {
      no_dead = c.intern_numbers.ensures.no_dead;
      few = λ id. c.intern_numbers.ensures.counts c.loop-n.n c.loop-n.invariant.few id;
      within = let below = c.loop-n-test.true in omega (arith, below);
      kept = elim c.match-intern_numbers.branch [
        | in-Ok w ↦ let is = w.kept-is in omega (arith, is, kept)
        | in-Err w ↦ let is = w.kept-is in omega (arith, is, kept)
      ];
      layout = c.intern_numbers.ensures.layout ∙ c.loop-n.invariant.layout;
    }

use Rattle.std.proofs.Common.{[], ◌∷◌, arith}
use Rattle.form_rows.proofs.folded.array.Goals as goal

pub lowest-requires-2-clause-few : goal.lowest-requires-2-clause-few
lowest-requires-2-clause-few g c = λ id. let a = c.in_ok-d.ensures.counts 0 c.requires.none id in omega (arith, a)

pub lowest-requires-3-clause-few : goal.lowest-requires-3-clause-few
lowest-requires-3-clause-few g c = λ id. let a = c.in_ok-c.ensures.counts 1 (c.in_ok-d.ensures.counts 0 c.requires.none) id in omega (arith, a)

pub lowest-requires-4-clause-few : goal.lowest-requires-4-clause-few
lowest-requires-4-clause-few g c = λ id. let a = c.in_ok-b.ensures.counts 2 (c.in_ok-c.ensures.counts 1 (c.in_ok-d.ensures.counts 0 c.requires.none)) id in omega (arith, a)

pub stored-requires-clause-few : goal.stored-requires-clause-few
stored-requires-clause-few g c = λ id. let a = c.in_ok-a.ensures.counts 3 (c.in_ok-b.ensures.counts 2 (c.in_ok-c.ensures.counts 1 (c.in_ok-d.ensures.counts 0 c.requires.none))) id in omega (arith, a)

pub stored-requires-clause-held : goal.stored-requires-clause-held
stored-requires-clause-held g c =
    let d = c.in_ok-d.ensures.covers [] (λ id. omega arith) in
    let cd = c.in_ok-c.ensures.covers (c.in_ok-d.d ∷ []) d in
    let bcd = c.in_ok-b.ensures.covers (c.in_ok-c.c ∷ c.in_ok-d.d ∷ []) cd in
    c.in_ok-a.ensures.covers (c.in_ok-b.b ∷ c.in_ok-c.c ∷ c.in_ok-d.d ∷ []) bcd

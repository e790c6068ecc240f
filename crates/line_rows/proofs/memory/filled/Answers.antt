use Rattle.std.proofs.Common.{arith}
use Rattle.line_rows.proofs.memory.filled.Goals as goal

pub kept-again-requires-clause-few : goal.kept-again-requires-clause-few
kept-again-requires-clause-few g c = λ id. let a = c.kept-first.ensures.counts 0 c.requires.none id in omega (arith, a)

pub kept-second-requires-clause-few : goal.kept-second-requires-clause-few
kept-second-requires-clause-few g c = λ id. let a = c.kept-again.ensures.counts 1 (c.kept-first.ensures.counts 0 c.requires.none) id in omega (arith, a)

pub kept-third-requires-clause-few : goal.kept-third-requires-clause-few
kept-third-requires-clause-few g c = λ id. let a = c.kept-second.ensures.counts 2 (c.kept-again.ensures.counts 1 (c.kept-first.ensures.counts 0 c.requires.none)) id in omega (arith, a)

pub kept-last-requires-clause-few : goal.kept-last-requires-clause-few
kept-last-requires-clause-few g c = λ id. let a = c.kept-third.ensures.counts 3 (c.kept-second.ensures.counts 2 (c.kept-again.ensures.counts 1 (c.kept-first.ensures.counts 0 c.requires.none))) id in omega (arith, a)

use Rattle.std.proofs.Common.{[], ◌∷◌}
use Rattle.hic_machine.proofs.Seeking.{Going}
use Rattle.hic_machine.proofs.arrays.past_pairs.Given as goal

abbrev pub invariant-loop-word : goal.invariant-loop-word
invariant-loop-word l = Going (λ p. p.1 ∷ []) l.pairs l.k l.word-index l.left

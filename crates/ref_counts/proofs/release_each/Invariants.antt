use Rattle.std.proofs.Common.{◌≡◌, drop}
use Rattle.hic_word.specs.Exchanges.{Exchanges}
use Rattle.ref_counts.proofs.release_each.Given as goal

abbrev pub invariant-loop-word : goal.invariant-loop-word
invariant-loop-word g l = record {
  exchanges : Exchanges (g.M.HoldCounts.memory l.fn.mem) (g.M.HoldCounts.memory l.mem) l.words (drop l.word-index l.words);
  looks : l.steps ≡ l.fn.steps;
}

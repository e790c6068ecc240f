use Rattle.std.proofs.Common.{◌≡◌, drop}
use Rattle.hic_word.specs.Exchanges.{Exchanges}
use Rattle.iter_regs.specs.Iters.{words_of}
use Rattle.iter_regs.proofs.opened.release_words.Given as goal

abbrev pub invariant-loop-pair : goal.invariant-loop-pair
invariant-loop-pair g l = record {
  exchanges : Exchanges (g.M.HoldCounts.memory l.fn.mem) (g.M.HoldCounts.memory l.mem) (words_of l.pairs) (words_of (drop l.pair-index l.pairs));
  looks : l.steps ≡ l.fn.steps;
}

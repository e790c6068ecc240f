use Rattle.std.proofs.Common.{◌≡◌, [], take}
use Rattle.hic_word.specs.Exchanges.{CountsRise, Exchanges}
use Rattle.ref_counts.proofs.hold_each.Given as goal

abbrev pub invariant-loop-word : goal.invariant-loop-word
invariant-loop-word g l = record {
  exchanges : Exchanges (g.M.HoldCounts.memory l.fn.mem) (g.M.HoldCounts.memory l.mem) [] (take l.word-index l.words);
  lines : (g.M.HoldCounts.memory l.mem).lines ≡ (g.M.HoldCounts.memory l.fn.mem).lines;
  counts : CountsRise l.word-index (g.M.HoldCounts.memory l.fn.mem) (g.M.HoldCounts.memory l.mem);
}

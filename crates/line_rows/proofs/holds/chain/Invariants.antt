use Rattle.std.proofs.Common.{[], ◌∷◌}
use Rattle.hic_word.specs.Holds.{Holds}
use Rattle.hic_word.specs.Memory.{line_at, width}
use Rattle.ref_counts.specs.Links.{IsLink}
use Rattle.line_rows.proofs.holds.chain.Given as goal

abbrev pub invariant-loop : goal.invariant-loop
invariant-loop g l = record {
  held : Holds (width (g.M.HoldCounts.memory l.mem)) (g.M.HoldCounts.memory l.mem) (l.word ∷ []);
  link : IsLink (line_at (g.M.HoldCounts.memory l.mem)) l.word;
}

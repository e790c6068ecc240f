use Rattle.std.proofs.Common.{◌≡◌, ℕ, ◌≤◌, take, drop}
use Rattle.hic_word.specs.Lists.{times}
use Rattle.hic_word.specs.Memory.{count_at}
use Rattle.hic_word.specs.MemorySteps.{without_holds}
use Rattle.hic_word.specs.Names.{names_in}
use Rattle.line_mem.proofs.sinks.sink_line.Given as goal

abbrev pub invariant-loop-word : goal.invariant-loop-word
invariant-loop-word g l = record {
  sunk : g.M.HoldCounts.memory l.mem ≡ without_holds (g.M.HoldCounts.memory l.initial.mem) (names_in (take l.word-index l.word-items));
  held : (id : ℕ) → times id (names_in (drop l.word-index l.word-items)) ≤ count_at (g.M.HoldCounts.memory l.mem) id;
}

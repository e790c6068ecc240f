use Rattle.std.proofs.Common.{[], ◌∷◌}
use Rattle.hic_word.specs.Values.{Array}
use Rattle.hic_word.specs.Holds.{Holds}
use Rattle.hic_word.specs.Memory.{width}
use Rattle.hic_word.specs.InMemory.{RootIn}
use Rattle.form_rows.proofs.made.made.Given as goal

abbrev pub invariant-loop-run : goal.invariant-loop-run
invariant-loop-run g l = record {
  next : (goal.iterator-loop-run g).can_next l.run-iterator;
  finite : (goal.iterator-loop-run g).is_finite l.run-iterator;
  held : Holds (width (g.M.HoldCounts.memory l.mem)) (g.M.HoldCounts.memory l.mem) (l.root ∷ []);
  root : (A : Array) × RootIn (g.M.HoldCounts.memory l.mem) l.root A;
}

use Rattle.std.proofs.Common.{◌+◌, ◌*◌, ◌≤◌, drop, length}
use Rattle.hic_word.specs.Values.{Array}
use Rattle.hic_word.specs.InMemory.{CanApply, RootIn}
use Rattle.line_mem.specs.Looks.{LooksUpTo}
use Rattle.segment_map.specs.Merging.{effective}
use Rattle.merge_update.proofs.Rounds.{Joining}
use Rattle.merge_update.proofs.join.join_writes.Given as goal

abbrev pub invariant-loop-write : goal.invariant-loop-write
invariant-loop-write g l = record {
  joining : (S W P : Array) → CanApply (g.M.HoldCounts.memory l.mem) l.snapshot l.writes S W → RootIn (g.M.HoldCounts.memory l.mem) l.segment.root P
      → Joining (g.M.HoldCounts.memory l.mem) l.segment.kind (effective S) S W P (drop l.write-index l.writes) l.joined.items;
  few : length l.joined.items ≤ l.write-index;
  looks : LooksUpTo (l.write-index * (l.snapshot.height + l.segment.root.height)) l.fn.steps l.steps;
}

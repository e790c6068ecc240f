use Rattle.std.proofs.Common.{◌≡◌, ◌+◌, ◌*◌, drop, take, length}
use Rattle.hic_word.specs.Values.{Array}
use Rattle.hic_word.specs.InMemory.{CanApply, RootIn}
use Rattle.line_mem.specs.Looks.{LooksUpTo}
use Rattle.merge_update.proofs.Rounds.{Joining}
use Rattle.merge_update.proofs.join.join_changes.Given as goal

abbrev pub invariant-loop-k : goal.invariant-loop-k
invariant-loop-k g l = record {
  joining : (B D P : Array) → CanApply (g.M.HoldCounts.memory l.mem) l.base l.fn.changes B D → RootIn (g.M.HoldCounts.memory l.mem) l.segment.root P
      → Joining (g.M.HoldCounts.memory l.mem) l.segment.kind (λ cs. cs) B D P (drop l.k l.changes) (take l.k l.changes);
  few : length l.changes ≡ length l.fn.changes;
  looks : LooksUpTo (l.k * (l.base.height + l.segment.root.height)) l.fn.steps l.steps;
}

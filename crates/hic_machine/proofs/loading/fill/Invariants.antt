use Rattle.std.proofs.Common.{◌≡◌, ◌≤◌, length}
use Rattle.hic_object.specs.Parts.{Parts}
use Rattle.hic_machine.specs.Loads.{CanLoad, Filled}
use Rattle.hic_machine.proofs.loading.fill.Given as goal

abbrev pub invariant-loop-list : goal.invariant-loop-list
invariant-loop-list g l = record {
  filled : (o : Parts) → CanLoad (g.M.HoldCounts.memory l.fn.mem) l.fn.segments o l.fn.writes.items → Filled (g.M.HoldCounts.memory l.mem) l.segments o l.vsid;
  count : l.vsid ≡ length l.yielded;
  layout : (g.M.HoldCounts.memory l.mem).layout ≡ (g.M.HoldCounts.memory l.fn.mem).layout;
  looks : l.fn.steps ≤ l.steps;
}

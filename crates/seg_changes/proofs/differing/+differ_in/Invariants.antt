use Rattle.std.proofs.Common.{◌*◌, ◌≤◌, length}
use Rattle.hic_word.specs.Values.{Array}
use Rattle.hic_word.specs.Memory.{line_at}
use Rattle.seg_canon.specs.Parts.{PartFor}
use Rattle.seg_changes.specs.ChangeList.{most_changes}
use Rattle.seg_changes.specs.Differing.{Adds, differ_from, raised_at}
use Rattle.seg_changes.proofs.Turns.{KeptLooks}
use Rattle.seg_changes.proofs.differing.«+differ_in».Given as goal

abbrev pub decreases-differ_in : goal.decreases-differ_in
decreases-differ_in g l = l.before.top

-- the differences before the quarter are there, and the looks have been few
abbrev pub invariant-loop-place : goal.invariant-loop-place
invariant-loop-place g l = record {
  differences : (A B : Array) → PartFor 4 (line_at (g.M.HoldCounts.memory l.mem)) l.fn.before A → PartFor 4 (line_at (g.M.HoldCounts.memory l.mem)) l.fn.after B
      → Adds (line_at (g.M.HoldCounts.memory l.mem)) l.fn.out l.out (raised_at l.base B (differ_from 0 (l.place * l.size) A B));
  few : length l.out ≤ most_changes;
  looks : (A B : Array) → PartFor 4 (line_at (g.M.HoldCounts.memory l.mem)) l.fn.before A → PartFor 4 (line_at (g.M.HoldCounts.memory l.mem)) l.fn.after B
      → KeptLooks l.fn.before.top l.size l.place A B l.old l.new l.initial.steps l.steps;
}

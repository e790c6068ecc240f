use Rattle.std.proofs.Common.{◌≡◌, ℕ, ◌+◌, ◌≤◌, [], drop, Some}
use Rattle.hic_word.specs.Values.{Array}
use Rattle.hic_word.specs.InMemory.{CanApply}
use Rattle.seg_cursor.specs.Trails.{CursorFor}
use Rattle.iter_regs.specs.Iters.{FoundLooks}
use Rattle.iter_regs.proofs.NextInView.{State}
use Rattle.iter_regs.proofs.searching.next_in_view.Given as goal

abbrev pub invariant-loop-pair : goal.invariant-loop-pair
invariant-loop-pair g l = record {
  root : l.cursor.root ≡ l.fn.cursor.root;
  cursor : (A : Array) → CursorFor (g.M.HoldCounts.memory l.mem) l.fn.cursor A → CursorFor (g.M.HoldCounts.memory l.mem) l.cursor A;
  state : (A L : Array) → CanApply (g.M.HoldCounts.memory l.mem) l.fn.cursor.root l.fn.writes A L → CursorFor (g.M.HoldCounts.memory l.mem) l.fn.cursor A
      → State (g.M.HoldCounts.memory l.mem) l.fn.cursor.root (drop l.pair-index l.pair-items) A L l.from l.found l.fn.steps l.steps;
  last : l.fn.writes ≡ [] → l.cursor.last ≡ l.found;
  near : l.fn.writes ≡ [] → (p : ℕ) → l.fn.cursor.last ≡ Some p → p ≤ l.from → l.from ≤ p + 1 → FoundLooks p l.found l.fn.steps l.steps;
}

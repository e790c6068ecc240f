use Rattle.std.proofs.Common.{◌≡◌, ℕ, ◌≤◌, []}
use Rattle.hic_word.specs.Memory.{count_at}
use Rattle.line_rows.proofs.store.eight_kept.Given as goal

abbrev pub invariant-loop-n : goal.invariant-loop-n
invariant-loop-n g l = record {
  no_dead : (g.M.HoldCounts.memory l.mem).dead ≡ [];
  few : (id : ℕ) → count_at (g.M.HoldCounts.memory l.mem) id ≤ l.n;
  within : l.n ≤ 8;
  kept : l.kept ≤ l.n;
  layout : (g.M.HoldCounts.memory l.mem).layout ≡ (g.M.HoldCounts.memory l.fn.mem).layout;
}

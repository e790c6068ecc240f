use Rattle.std.proofs.Common.{[], ◌∷◌}
use Rattle.ref_counts.proofs.Linked.{turned}
use Rattle.line_rows.proofs.holds.row.Goals as goal

pub release-requires : goal.release-requires
release-requires g c = (c.in_ok-root.root ∷ [], turned (g.M.HoldCounts.memory c.twice.new.mem) c.in_ok-root.root c.in_ok-root.part c.in_ok-root.ensures)

pub release-requires-2 : goal.release-requires-2
release-requires-2 g c = ([], c.release.ensures.exchanges.holds (c.in_ok-root.root ∷ []) (turned (g.M.HoldCounts.memory c.twice.new.mem) c.in_ok-root.root c.in_ok-root.part c.in_ok-root.ensures))

pub twice-requires-2 : goal.twice-requires-2
twice-requires-2 g c = c.release-2.ensures.exchanges.holds [] (c.release.ensures.exchanges.holds (c.in_ok-root.root ∷ []) (turned (g.M.HoldCounts.memory c.twice.new.mem) c.in_ok-root.root c.in_ok-root.part c.in_ok-root.ensures))

pub release-requires-4 : goal.release-requires-4
release-requires-4 g c = ([], c.release-3.ensures.exchanges.holds (c.in_ok-root-2.part ∷ []) c.in_ok-root-2.ensures)

pub twice-requires-3 : goal.twice-requires-3
twice-requires-3 g c = c.release-4.ensures.exchanges.holds [] (c.release-3.ensures.exchanges.holds (c.in_ok-root-2.part ∷ []) c.in_ok-root-2.ensures)

pub release_each-requires : goal.release_each-requires
release_each-requires g c = ([], c.in_ok-root-3.ensures)

use Rattle.std.proofs.Common.{◌≡◌, ℕ, ◌+◌, ◌-◌, ◌*◌, List, length}
use Rattle.std.specs.FinMap as map_of
use Rattle.hic_word.specs.Values.{Array}
use Rattle.hic_list.specs.Walks.{IsNext, IsUnderWay}
use Rattle.hic_list.proofs.walk.visit.Given as goal

abbrev pub invariant-loop-id : goal.invariant-loop-id
invariant-loop-id g l = record {
  under_way : (R : List Array) (k : ℕ) → IsNext (g.S.HoldCounts.memory l.mem) R k l.fn.numbers l.fn.root → IsUnderWay (g.S.HoldCounts.memory l.mem) R k l.numbers l.waiting.items;
  looks : l.steps + length l.fn.numbers ≡ l.fn.steps + length l.numbers;
}

abbrev pub decreases-loop-id : goal.decreases-loop-id
decreases-loop-id g l = 5 * (map_of.len (g.S.HoldCounts.memory l.mem).lines - length l.numbers) + length l.waiting.items

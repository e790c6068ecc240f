use Rattle.std.proofs.Common.{◌≡◌, ◌+◌, ◌-◌, ◌≤◌, [], length}
use Rattle.hic_plain.specs.Machine.{held}
use Rattle.hic_list.specs.Walks.{AreNumbered}
use Rattle.hic_list.proofs.listing.number_lines.Given as goal

abbrev pub invariant-loop-root : goal.invariant-loop-root
invariant-loop-root g l = record {
  numbered : AreNumbered l.machine.memory (held l.machine.plain) l.k l.numbers;
  none : l.waiting.items ≡ [];
  looks : l.steps ≡ l.fn.steps + length l.numbers;
  few : l.k ≤ length (held l.machine.plain);
}

abbrev pub decreases-loop-root : goal.decreases-loop-root
decreases-loop-root g l = length (held l.machine.plain) - l.k

use Rattle.std.proofs.Common.{◌≡◌, ◌+◌, ◌-◌, ◌≤◌, drop, length}
use Rattle.hic_machine.specs.Loads.{run_of}
use Rattle.hic_machine.proofs.loading.end_of.Given as goal

abbrev pub invariant-loop-at : goal.invariant-loop-at
invariant-loop-at l = record {
  run : l.at + run_of l.segment (drop l.at l.records) ≡ l.from + run_of l.segment (drop l.from l.records);
  bound : l.at ≤ length l.records;
}

abbrev pub decreases-loop-at : goal.decreases-loop-at
decreases-loop-at l = length l.records - l.at

use Rattle.std.proofs.Common.{◌≡◌, ◌-◌, ◌++◌}
use Rattle.hic_gen.specs.Draws.{draws}
use Rattle.hic_gen.specs.Demo.{records}
use Rattle.hic_gen.proofs.object.records.Given as goal

-- the records so far and those that are left
abbrev pub invariant-loop-k : goal.invariant-loop-k
invariant-loop-k l = l.words.items ++ records l.k (draws (l.fn.size - l.k) l.generator.state) ≡ records 0 (draws l.fn.size l.fn.seed)

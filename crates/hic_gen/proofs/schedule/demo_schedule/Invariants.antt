use Rattle.std.proofs.Common.{◌≡◌, ◌-◌, ◌++◌, flat_map}
use Rattle.hic_gen.specs.Draws.{draws}
use Rattle.hic_gen.specs.Demo.{item_line, demo_schedule}
use Rattle.hic_gen.proofs.schedule.demo_schedule.Given as goal

-- the items so far and those that are left
abbrev pub invariant-loop-item : goal.invariant-loop-item
invariant-loop-item l = l.text.items ++ flat_map item_line (draws (l.fn.size - l._item) l.generator.state) ≡ demo_schedule l.fn.seed l.fn.size

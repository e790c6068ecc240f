use Rattle.form_rows.specs.Usable.{IsUsable}
use Rattle.form_rows.proofs.registers.look_at_each.Given as goal

abbrev pub invariant-loop-offset : goal.invariant-loop-offset
invariant-loop-offset g l = IsUsable (g.M.HoldCounts.memory l.mem) l.reg

use Rattle.form_rows.specs.Usable.{IsUsable}
use Rattle.form_rows.proofs.registers.put_each.Given as goal

abbrev pub invariant-loop-write : goal.invariant-loop-write
invariant-loop-write g l = IsUsable (g.M.HoldCounts.memory l.mem) l.reg

-- The run that the program makes, as far as it is told.
use Rattle.std.specs.Prelude.{◌≡◌, ℕ, ◌+◌, List, [], ◌++◌}
use Rattle.task_sched.specs.Order.{Order}
use Rattle.task_sched.specs.Pick.{tasks_in}
use Rattle.hic_plain.specs.Machine.{Machine}
use Rattle.hic_plain.specs.Run.{Ran, ended, go, running}
use Rattle.hic_plain.specs.Valid.{IsMachine}
use Rattle.hicamp.specs.declared.running.Told.{Told}
use Rattle.hicamp.specs.declared.running.Told.TheVariants.{Printed, Ended}

-- the run from a machine, by what is left of a schedule, with so many steps at most
abbrev pub run_by : Machine → Order → ℕ → Ran
run_by m order most = go m order.entries order.last most

-- so many steps that wrote these bytes, and then a run
abbrev pub after_steps : ℕ → List ℕ → Ran → Ran
after_steps made bytes r = record { out = bytes ++ r.out; end = r.end; last = r.last; steps = made + r.steps }

-- a run by what it comes to after so many steps: these bytes are printed and this run is left, or it has ended here
abbrev pub told_by : Told → ℕ → List ℕ → Machine → Ran → Ran
told_by Printed made printed m rest = after_steps made printed rest
told_by (Ended end) made printed m rest = after_steps made [] (ended end m)

-- what is true where something was printed
abbrev pub OnPrinted : Told → Type 0 → Type 0
OnPrinted Printed P = P
OnPrinted (Ended end) P = Unit {0}

-- a valid machine, whose tasks that run are those of these bits
pub record HasTasks (m : Machine) (bits : ℕ) : Type 0 where
  pub valid : IsMachine m
  pub tasks : tasks_in bits ≡ running m

-- The task that a schedule gives runs.
use Rattle.std.proofs.Common.{◌≡◌, ℕ, ◌<◌, List, length, sym, ◌∙◌, ap}
use Rattle.std.proofs.lemmas.Option.{slice_get_within}
use Rattle.task_sched.specs.Order.{Order}
use Rattle.task_sched.specs.Pick.{Picked, pick, tasks_in}
use Rattle.hic_plain.specs.Machine.{Machine}
use Rattle.hic_plain.specs.Run.{running}
use Rattle.hic_plain.proofs.RunLaws.{picked_runs}
use Rattle.hic_machine.specs.Steps.{Runs}

module _ (m : Machine) (order : Order) (bits t : ℕ) (rest : List ℕ) (same : tasks_in bits ≡ running m) (is : Picked t rest ≡ pick (tasks_in bits) order.entries order.last) where
  pub next_runs : Runs m t
  next_runs =
      let r = picked_runs m order.entries order.last t rest (sym (is ∙ ap (λ tasks. pick tasks order.entries order.last) same)) in
      record { task = r.task; there = r.there; runs = r.runs }

  pub next_there : t < length m.tasks
  next_there = slice_get_within m.tasks t next_runs.task next_runs.there

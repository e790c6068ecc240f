use Rattle.std.proofs.Common.{◌≡◌, ◌≤◌, ◌-◌, []}
use Rattle.hicamp.specs.Running.{HasTasks, after_steps, run_by}
use Rattle.hicamp.proofs.running.Running.go_on.Given as goal

-- the steps so far wrote nothing, and what is left of the run is that from here
abbrev pub invariant-loop-row : goal.invariant-loop-row
invariant-loop-row g l = record {
  so_far : run_by l.fn.machine.plain l.fn.self.schedule l.fn.self.left ≡ after_steps (l.fn.self.left - l.self.left) [] (run_by l.machine.plain l.self.schedule l.self.left);
  within : l.self.left ≤ l.fn.self.left;
  tasks : HasTasks l.machine.plain l.self.tasks;
}

abbrev pub decreases-loop-row : goal.decreases-loop-row
decreases-loop-row g l = l.self.left

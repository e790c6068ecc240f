use Rattle.hicamp.specs.Running.{HasTasks, run_by}
use Rattle.hicamp.proofs.RunLaws.{RunSoFar}
use Rattle.hicamp.proofs.running.write_run.Given as goal

-- what is left of the run is that from here
abbrev pub invariant-told : goal.invariant-told
invariant-told g l = record {
  so_far : RunSoFar (g.H.Host.state l.fn.host) (g.H.Host.state l.host) l.fn.out l.out (run_by l.fn.machine.plain l.fn.schedule l.most) (run_by l.machine.plain l.running.schedule l.running.left);
  tasks : HasTasks l.machine.plain l.running.tasks;
}

abbrev pub decreases-told : goal.decreases-told
decreases-told g l = l.running.left

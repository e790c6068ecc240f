use Rattle.std.proofs.Common.{◌≡◌, ◌≤◌, ◌+◌, ◌-◌}
use Rattle.hicamp.specs.Running.{HasTasks, run_by}
use Rattle.hicamp.proofs.RunLaws.{CountsSoFar}
use Rattle.hicamp.proofs.running.count_run.Given as goal

-- the run that is left from here ends alike, after the steps and the answers so far
abbrev pub invariant-told : goal.invariant-told
invariant-told g l = record {
  end : (run_by l.machine.plain l.running.schedule l.running.left).end ≡ (run_by l.fn.machine.plain l.fn.schedule l.most).end;
  last : (run_by l.machine.plain l.running.schedule l.running.left).last ≡ (run_by l.fn.machine.plain l.fn.schedule l.most).last;
  steps : (run_by l.fn.machine.plain l.fn.schedule l.most).steps ≡ (l.most - l.running.left) + (run_by l.machine.plain l.running.schedule l.running.left).steps;
  within : l.running.left ≤ l.most;
  zeros : CountsSoFar 48 (run_by l.fn.machine.plain l.fn.schedule l.most).out (run_by l.machine.plain l.running.schedule l.running.left).out l.answers.zeros l.running.left l.most;
  ones : CountsSoFar 49 (run_by l.fn.machine.plain l.fn.schedule l.most).out (run_by l.machine.plain l.running.schedule l.running.left).out l.answers.ones l.running.left l.most;
  twos : CountsSoFar 50 (run_by l.fn.machine.plain l.fn.schedule l.most).out (run_by l.machine.plain l.running.schedule l.running.left).out l.answers.twos l.running.left l.most;
  tasks : HasTasks l.machine.plain l.running.tasks;
}

abbrev pub decreases-told : goal.decreases-told
decreases-told g l = l.running.left

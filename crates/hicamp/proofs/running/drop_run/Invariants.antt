use Rattle.std.proofs.Common.{◌≡◌}
use Rattle.hicamp.specs.Running.{HasTasks, run_by}
use Rattle.hicamp.proofs.running.drop_run.Given as goal

-- the run that is left from here ends alike
abbrev pub invariant-told : goal.invariant-told
invariant-told g l = record {
  end : (run_by l.machine.plain l.running.schedule l.running.left).end ≡ (run_by l.fn.machine.plain l.fn.schedule l.most).end;
  last : (run_by l.machine.plain l.running.schedule l.running.left).last ≡ (run_by l.fn.machine.plain l.fn.schedule l.most).last;
  tasks : HasTasks l.machine.plain l.running.tasks;
}

abbrev pub decreases-told : goal.decreases-told
decreases-told g l = l.running.left

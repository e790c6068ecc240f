use Rattle.task_sched.proofs.Schedules.{IsSchedule-from_faultless, faultless-from_IsSchedule, sched_fault-no_memory}
use Rattle.task_sched.proofs.laws.faultless_texts_are_schedules.Goals as goal

pub returns : goal.returns
returns c = record {
  faultless = λ text tasks. (IsSchedule-from_faultless text tasks, faultless-from_IsSchedule text tasks);
  fault = sched_fault-no_memory;
}

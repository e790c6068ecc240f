use Rattle.std.proofs.Common.{◌≡◌, None, ⊎_elim}
use Rattle.std.proofs.lemmas.Result.{err_from_is_err_and}
use Rattle.task_sched.specs.Faults.{sched_fault}
use Rattle.task_sched.proofs.Schedules.{IsSchedule-from_faultless, faultless-from_IsSchedule}
use Rattle.task_sched.proofs.schedule.Schedule.parse.Goals as goal

pub returns-in_err-items-clause-complete : goal.returns-in_err-items-clause-complete
returns-in_err-items-clause-complete c =
    let p = err_from_is_err_and c.from_residual.result c.from_residual.ensures.1 in
    rw (p.1, p.2) (λ schedule.
    let faultless : sched_fault c.args.bytes.now c.args.tasks ≡ None = faultless-from_IsSchedule c.args.bytes.now c.args.tasks schedule in
    ⊎_elim (λ memory. memory) (λ fault. absurd (cc (fault, faultless))) c.in_err-items.ensures.fault)

pub returns-clause-schedule : goal.returns-clause-schedule
returns-clause-schedule c = IsSchedule-from_faultless c.args.bytes.now c.args.tasks c.in_ok-items.ensures.faultless

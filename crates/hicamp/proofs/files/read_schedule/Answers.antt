use Rattle.hicamp.proofs.OutcomeLaws.{if_err, if_ok, no_schedule-refused, reads-no_schedule}
use Rattle.hicamp.proofs.files.read_schedule.Goals as goal

pub returns-in-Some-clause-refused : goal.returns-in-Some-clause-refused
returns-in-Some-clause-refused g c = rw c.in-Some.is c.read_named_schedule.ensures.refused

pub returns-in-None-clause-read : goal.returns-in-None-clause-read
returns-in-None-clause-read g c = rw c.in-None.is (if_ok c.schedule_of.result c.schedule_of.ensures.still c.schedule_of.ensures.goes_on (λ schedule still goes_on. reads-no_schedule _ _ c.args.tasks schedule.entries still goes_on))

pub returns-in-None-clause-refused : goal.returns-in-None-clause-refused
returns-in-None-clause-refused g c = rw c.in-None.is (if_err c.schedule_of.result c.schedule_of.ensures.refused (λ status refuses next. no_schedule-refused c.args.tasks next refuses))

use Rattle.hicamp.proofs.OutcomeLaws.{asked-faultless, refuses-schedule}
use Rattle.hicamp.proofs.files.schedule_of.Goals as goal

pub returns-in-Ok-clause-goes_on : goal.returns-in-Ok-clause-goes_on
returns-in-Ok-clause-goes_on g c = asked-faultless c.args.bytes.now c.in-Ok.schedule.entries c.args.tasks c.in-Ok.ensures.faultless c.in-Ok.ensures.entries

pub returns-in-Err-clause-refused : goal.returns-in-Err-clause-refused
returns-in-Err-clause-refused g c =
    refuses-schedule c.args.bytes.now c.args.tasks c.in-Err.fault c.refuse_schedule.ensures.wants c.refuse_schedule.ensures.refused c.in-Err.ensures.fault

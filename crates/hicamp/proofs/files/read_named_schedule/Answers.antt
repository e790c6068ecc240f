use Rattle.std.proofs.Common.{Some}
use Rattle.hicamp.specs.declared.files.FileKind.TheVariants as file
use Rattle.hicamp.specs.Asked.{asked_of_schedule}
use Rattle.hicamp.proofs.OutcomeLaws.{asked-bytes, entries_asked, if_err, serves-refuses}
use Rattle.hicamp.proofs.files.read_named_schedule.Goals as goal

pub returns-in-Ok-clause-refused : goal.returns-in-Ok-clause-refused
returns-in-Ok-clause-refused g c = if_err c.schedule_of.result c.schedule_of.ensures.refused (λ status refuses next.
    let read = c.in-Ok.ensures.read in
    let same = c.as_slice.ensures.value in
    serves-refuses (λ fs. asked_of_schedule (Some c.args.name.now) c.args.tasks fs (next fs)) (entries_asked c.as_slice.result.now c.args.tasks) next _
    read.read (asked-bytes file.Schedule (λ bytes. entries_asked bytes c.args.tasks) (g.H.Host.state c.args.host.now).files c.args.name.now c.in-Ok.bytes.items c.as_slice.result.now same next read.goes_on) refuses)

pub returns-in-Err-clause-refused : goal.returns-in-Err-clause-refused
returns-in-Err-clause-refused g c next = c.in-Err.ensures.refused (λ files bytes. entries_asked bytes c.args.tasks (next files))

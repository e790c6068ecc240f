use Rattle.std.specs.FinMap as map
use Rattle.hicamp.specs.declared.files.FileKind.TheVariants as file
use Rattle.hicamp.specs.Asked.{asked_of_source}
use Rattle.hicamp.proofs.OutcomeLaws.{asked-bytes, if_err, serves-refuses, source_asked}
use Rattle.hicamp.proofs.sources.read_source.Goals as goal

pub returns-in-Ok-clause-refused : goal.returns-in-Ok-clause-refused
returns-in-Ok-clause-refused g c = if_err c.assembled.result c.assembled.ensures.refused (λ status refuses next.
    let read = c.in-Ok.ensures.read in
    let same = c.as_slice.ensures.value in
    serves-refuses (λ fs. asked_of_source (map.get fs c.args.name.now) (next fs)) (source_asked c.as_slice.result.now) next _
    read.read (asked-bytes file.Source source_asked (g.H.Host.state c.args.host.now).files c.args.name.now c.in-Ok.text.items c.as_slice.result.now same next read.goes_on) refuses)

pub returns-in-Err-clause-refused : goal.returns-in-Err-clause-refused
returns-in-Err-clause-refused g c next = c.in-Err.ensures.refused (λ files text. source_asked text (next files))

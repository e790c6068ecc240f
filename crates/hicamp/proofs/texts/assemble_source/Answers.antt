use Rattle.std.proofs.Common.{◌∙◌}
use Rattle.std.specs.Prelude.{IsSome}
use Rattle.std.specs.FinMap as map
use Rattle.hic_object.specs.Spelled.{spelled}
use Rattle.hicamp.specs.Asked.{answer_bytes, asked_of_asm, asked_of_source}
use Rattle.hicamp.proofs.OutcomeLaws.{serves-no_memory}
use Rattle.hicamp.proofs.TextLaws.{serves-bytes}
use Rattle.hicamp.proofs.texts.assemble_source.Goals as goal

pub returns-in-Err-clause-serves : goal.returns-in-Err-clause-serves
returns-in-Err-clause-serves g c = c.in-Err.ensures.refused (λ files o. answer_bytes (spelled o))

pub returns-in-Ok-write-clause-serves : goal.returns-in-Ok-write-clause-serves
returns-in-Ok-write-clause-serves g c =
    serves-bytes asked_of_source c.args.source.now c.in-Ok.object spelled (c.as_slice.ensures.value ∙ c.in-Ok-write.ensures) c.in-Ok.ensures.read c.write_bytes.ensures.fulfils

pub returns-clause-serves : goal.returns-clause-serves
returns-clause-serves g c = serves-no_memory (asked_of_asm c.args.source.now) (λ files. IsSome (map.get files c.args.source.now)) c.in-Ok.ensures.read.read

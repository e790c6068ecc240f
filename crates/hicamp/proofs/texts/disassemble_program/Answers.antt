use Rattle.std.proofs.Common.{◌∙◌}
use Rattle.std.specs.Prelude.{IsSome}
use Rattle.std.specs.FinMap as map
use Rattle.hic_asm.specs.ObjectText.{dis_text}
use Rattle.hicamp.specs.Asked.{answer_bytes, asked_of_dis, asked_of_program}
use Rattle.hicamp.proofs.OutcomeLaws.{serves-no_memory}
use Rattle.hicamp.proofs.TextLaws.{serves-bytes}
use Rattle.hicamp.proofs.texts.disassemble_program.Goals as goal

pub returns-in-Err-clause-serves : goal.returns-in-Err-clause-serves
returns-in-Err-clause-serves g c = c.in-Err.ensures.refused (λ files o. answer_bytes (dis_text o))

pub returns-in-Ok-disassemble-clause-serves : goal.returns-in-Ok-disassemble-clause-serves
returns-in-Ok-disassemble-clause-serves g c =
    serves-bytes asked_of_program c.args.program.now c.in-Ok.object dis_text (c.as_bytes.ensures.value ∙ c.in-Ok-disassemble.ensures) c.in-Ok.ensures.read c.write_bytes.ensures.fulfils

pub returns-clause-serves : goal.returns-clause-serves
returns-clause-serves g c = serves-no_memory (asked_of_dis c.args.program.now) (λ files. IsSome (map.get files c.args.program.now)) c.in-Ok.ensures.read.read

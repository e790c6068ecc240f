use Rattle.std.proofs.Common.{ap, ◌∙◌}
use Rattle.hic_isa.specs.Spelling.{row}
use Rattle.std.proofs.Common.{get_or}
use Rattle.hic_asm.proofs.FieldLaws.{fields_in-spelling}
use Rattle.hic_asm.proofs.fields.fields_of.Goals as goal

pub returns : goal.returns
returns c =
    let bytes = c.encode.result in
    ap (row (get_or bytes 0 0) (get_or bytes 1 0) (get_or bytes 2 0) (get_or bytes 3 0)) c.from_le_bytes.ensures ∙ fields_in-spelling c.args.instr bytes c.encode.ensures.fields c.encode.ensures.spelled

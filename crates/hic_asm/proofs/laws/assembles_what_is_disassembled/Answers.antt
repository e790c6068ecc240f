use Rattle.hic_asm.proofs.ProgramBack.{assembled-dis_text}
use Rattle.hic_asm.proofs.laws.assembles_what_is_disassembled.Goals as goal

pub returns : goal.returns
returns c = assembled-dis_text

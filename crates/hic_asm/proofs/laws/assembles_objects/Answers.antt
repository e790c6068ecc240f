use Rattle.hic_asm.proofs.Rules.{assembled-rules, assembled-memory}
use Rattle.hic_asm.proofs.laws.assembles_objects.Goals as goal

pub returns : goal.returns
returns c = record { rules = assembled-rules; fault = assembled-memory }

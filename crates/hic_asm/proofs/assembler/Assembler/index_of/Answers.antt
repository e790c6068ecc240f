use Rattle.std.proofs.Common.{sym, ◌∙◌}
use Rattle.hic_asm.proofs.LabelLaws.{index_named-lookup}
use Rattle.hic_asm.proofs.assembler.Assembler.index_of.Goals as goal

pub returns : goal.returns
returns c = c.copied.ensures ∙ c.get.ensures.value ∙ sym (index_named-lookup c.args.self.now.labels.entries c.args.name.now)

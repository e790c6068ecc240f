use Rattle.std.proofs.Common.{sym, ◌∙◌}
use Rattle.hic_asm.proofs.TextLaws.{uncommented_text-some, uncommented_text-none}
use Rattle.hic_asm.proofs.words.uncommented_text.Goals as goal

pub returns-then-is_text : goal.returns-then-is_text
returns-then-is_text c =
    uncommented_text-some c.args.line.now c.split_at.result.0.now c.split_at.result.1.now c.plain_len.result c.plain_len.ensures.len c.split_at.ensures.front c.split_at.ensures.back (sym c.is_text.ensures ∙ c.if-is_text.true)

pub returns-else-is_text : goal.returns-else-is_text
returns-else-is_text c =
    uncommented_text-none c.args.line.now c.split_at.result.1.now c.plain_len.result c.plain_len.ensures.len c.split_at.ensures.back (sym c.is_text.ensures ∙ c.if-is_text.false)

use Rattle.hic_asm.proofs.RuleLaws.{line_after-rules}
use Rattle.hic_asm.proofs.laws.lines_break_rules_in_order.Goals as goal

pub returns : goal.returns
returns c = line_after-rules

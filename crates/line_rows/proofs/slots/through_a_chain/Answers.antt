use Rattle.std.proofs.Common.{rules}
use Rattle.line_rows.proofs.slots.through_a_chain.Goals as goal

pub next-after_middle-requires : goal.next-after_middle-requires
next-after_middle-requires c = (1, search rules)

pub next-after_last-requires : goal.next-after_last-requires
next-after_last-requires c = (1, search rules)

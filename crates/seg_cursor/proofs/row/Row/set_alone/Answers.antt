use Rattle.std.proofs.Common.{rules}
use Rattle.seg_cursor.proofs.Words.{alone_ends}
use Rattle.seg_cursor.proofs.row.Row.set_alone.Goals as goal

pub invariant_of-self : goal.invariant_of-self
invariant_of-self c = (search rules, alone_ends c.args.place c.args.word.bits c.tag_of.result c.requires)

use Rattle.std.proofs.Common.{sym, arith}
use Rattle.line_rows.proofs.Keeping.{one_live}
use Rattle.line_rows.proofs.walks.look.Goals as goal

pub count-requires : goal.count-requires
count-requires g c = one_live (g.M.HoldCounts.memory c.args.mem.now) c.args.words.now c.args.at _ c.requires.inside c.requires.kept c.in-Some.id (sym c.in-Some.ensures)

pub line-requires : goal.line-requires
line-requires g c = (omega arith, one_live (g.M.HoldCounts.memory c.args.mem.now) c.args.words.now c.args.at _ c.requires.inside c.requires.kept c.in-Some.id (sym c.in-Some.ensures))

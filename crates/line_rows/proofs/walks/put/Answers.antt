use Rattle.line_rows.proofs.Keeping.{swapped_held, swapped_kept}
use Rattle.line_rows.proofs.walks.put.Goals as goal

pub give_up-requires : goal.give_up-requires
give_up-requires g c = (_, swapped_held (g.M.HoldCounts.memory c.args.mem.now) c.args.words.now c.args.at c.args.word _ c.requires.inside c.requires.kept.held)

pub returns : goal.returns
returns g c = swapped_kept (g.M.HoldCounts.memory c.args.mem.now) (g.M.HoldCounts.memory c.give_up.new.mem) c.args.words.now c.args.at c.args.word _ c.requires.inside c.requires.kept c.give_up.ensures

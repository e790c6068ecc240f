use Rattle.line_rows.proofs.Keeping.{zero_beside}
use Rattle.line_rows.proofs.walks.clear.Goals as goal

pub put-requires-clause-kept : goal.put-requires-clause-kept
put-requires-clause-kept g c = zero_beside (g.M.HoldCounts.memory c.args.mem.now) c.args.words.now c.num.result c.num.ensures.value c.requires.kept

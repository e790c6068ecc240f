use Rattle.line_rows.proofs.Keeping.{zeros_kept}
use Rattle.line_rows.proofs.walks.walk.Goals as goal

pub loop-init : goal.loop-init
loop-init g c = zeros_kept (g.M.HoldCounts.memory c.args.mem.now) 8 c.num-words.result c.num-words.ensures.value c.requires

use Rattle.std.proofs.Common.{[], rules}
use Rattle.seg_read.proofs.Examples.{empty_is}
use Rattle.form_rows.proofs.Rooting.{empty_held}
use Rattle.form_rows.proofs.made.made.Goals as goal

pub loop-run-init : goal.loop-run-init
loop-run-init g c = record {
  next = search rules;
  finite = search rules;
  held = empty_held (g.M.HoldCounts.memory c.args.mem.now) c.empty-root.result c.empty-root.ensures.value c.requires;
  root = ([], empty_is _ c.empty-root.result (c.empty-root.ensures.stands 4 _));
}

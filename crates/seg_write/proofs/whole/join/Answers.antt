use Rattle.seg_write.proofs.Covering.{one_part}
use Rattle.seg_write.proofs.whole.join.Goals as goal

pub returns-clause-joined : goal.returns-clause-joined
returns-clause-joined c = one_part c.args.a c.args.b c.height_to.result c.height_to.ensures.within

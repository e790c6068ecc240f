use Rattle.std.proofs.Common.{arith}
use Rattle.seg_write.proofs.Covering.{told_least, told_within}
use Rattle.seg_write.proofs.whole.height_to.Goals as goal

pub returns-clause-within : goal.returns-clause-within
returns-clause-within c = told_within c.args.offset c.max.result (omega arith) c.max.ensures

pub returns-clause-least : goal.returns-clause-least
returns-clause-least c = λ h some within. told_least c.args.offset c.max.result h (omega arith) c.max.ensures some within

use Rattle.std.proofs.Common.{arith}
use Rattle.seg_cursor.proofs.Joining.{told_joined, told_least}
use Rattle.seg_cursor.proofs.join.join.Goals as goal

pub returns-clause-joined : goal.returns-clause-joined
returns-clause-joined c = told_joined c.args.a c.args.b c.max.result (omega arith) (omega arith) c.max.ensures

pub returns-clause-least : goal.returns-clause-least
returns-clause-least c = λ k some joined. told_least c.args.a c.args.b c.max.result k (omega arith) (omega arith) c.max.ensures some joined

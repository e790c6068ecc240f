use Rattle.line_store.proofs.IndexCalls.{none_has}
use Rattle.line_store.proofs.index.Index.may_have.Goals as goal

pub returns : goal.returns
returns c = λ absent. none_has c.args.self.now.bits c.args.self.now.chains c.args.key c.number.result c.args.self.now.kept c.number.ensures.number (c.may_have.ensures absent)

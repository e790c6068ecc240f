use Rattle.std.proofs.Common.{arith}
use Rattle.line_store.proofs.IndexCalls.{entered_index, entered_same, still_apart}
use Rattle.line_store.proofs.index.Index.enter.Goals as goal

pub push-requires-clause-apart : goal.push-requires-clause-apart
push-requires-clause-apart c = still_apart c.args.self.now.chains c.widen.new.self.chains c.args.entry c.widen.ensures.entries c.requires.apart

pub invariant_of-self : goal.invariant_of-self
invariant_of-self c = record { kept = entered_index c.args.self.now.chains c.widen.new.self.chains c.args.entry c.widen.ensures.entries c.requires.apart c.number-number.result c.push.new.self c.number-number.ensures.below c.push.ensures c.widen.new.self.bits c.widen.new.self.kept (omega arith) c.number-number.ensures.number }

pub returns-clause-entries : goal.returns-clause-entries
returns-clause-entries c = entered_same c.args.self.now.chains c.widen.new.self.chains c.args.entry c.widen.ensures.entries c.requires.apart c.number-number.result c.push.new.self c.number-number.ensures.below c.push.ensures

use Rattle.line_store.proofs.IndexCalls.{index_begun, none_begun}
use Rattle.line_store.proofs.index.Index.make.Goals as goal

pub invariant_of-result : goal.invariant_of-result
invariant_of-result c = record { kept = index_begun c.args.slots c.in_ok-chains.chains c.regrow.new.self c.requires.0 c.requires.1 c.in_ok-chains.ensures c.regrow.ensures.count c.regrow.ensures.own c.regrow.ensures.entries c.regrow.ensures.slots }

pub returns-clause-entries : goal.returns-clause-entries
returns-clause-entries c = none_begun c.args.slots c.in_ok-chains.chains c.regrow.new.self c.in_ok-chains.ensures c.regrow.ensures.entries

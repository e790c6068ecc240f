use Rattle.line_store.proofs.IndexCalls.{in_its_chain, left_entries, left_index, some_chain}
use Rattle.line_store.proofs.index.Index.leave.Goals as goal

pub key-requires : goal.key-requires
key-requires c = some_chain c.args.self.now.chains c.args.slot c.requires

pub remove-requires : goal.remove-requires
remove-requires c = in_its_chain c.args.self.now.kept c.key.ensures c.number-number.ensures.number c.requires

pub invariant_of-self : goal.invariant_of-self
invariant_of-self c = record { kept = left_index c.args.self.now.kept c.key.ensures c.number-number.ensures.number c.remove.ensures c.requires }

pub returns-clause-entries : goal.returns-clause-entries
returns-clause-entries c = left_entries c.args.self.now.kept c.key.ensures c.number-number.ensures.number c.remove.ensures

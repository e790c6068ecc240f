use Rattle.line_store.proofs.IndexCalls.{few_bits}
use Rattle.line_store.proofs.index.Index.number.Goals as goal

pub chain_number-requires : goal.chain_number-requires
chain_number-requires c = few_bits c.args.self.now.bits c.args.self.now.chains c.args.self.now.kept

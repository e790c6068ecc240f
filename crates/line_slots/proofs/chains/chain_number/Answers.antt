use Rattle.line_slots.proofs.KeyNumbers.{masked}
use Rattle.line_slots.proofs.chains.chain_number.Goals as goal

pub returns-clause-number : goal.returns-clause-number
returns-clause-number c = masked c.args.bits c.args.key c.from.result c.from-2.result c.requires c.from.ensures c.from-2.ensures

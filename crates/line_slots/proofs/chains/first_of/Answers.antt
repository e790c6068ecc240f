use Rattle.std.proofs.lemmas.Nat.{and_mask}
use Rattle.line_slots.proofs.chains.first_of.Goals as goal

pub returns : goal.returns
returns c = and_mask c.args.head 24

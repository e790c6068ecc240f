use Rattle.std.proofs.Common.{◌+◌, arith}
use Rattle.line_store.proofs.IndexCalls.{few_bits, regrown, room_for_twice}
use Rattle.line_store.proofs.index.Index.widen.Goals as goal

pub overflow_add-self : goal.overflow_add-self
overflow_add-self c = omega (arith, few_bits c.args.self.now.bits c.args.self.now.chains c.args.self.now.kept)

pub regrow-requires : goal.regrow-requires
regrow-requires c = room_for_twice c.args.self.now.bits c.args.self.now.chains c.args.self.now.kept c.count.result c.args.slot c.count.ensures (omega arith) c.requires

pub invariant_of-self : goal.invariant_of-self
invariant_of-self c = record { kept = regrown (c.args.self.now.bits + 1) c.args.self.now.chains c.regrow.new.self (room_for_twice c.args.self.now.bits c.args.self.now.chains c.args.self.now.kept c.count.result c.args.slot c.count.ensures (omega arith) c.requires) c.args.self.now.kept.few c.args.self.now.kept.once c.args.self.now.kept.small c.regrow.ensures.count c.regrow.ensures.own c.regrow.ensures.entries c.regrow.ensures.slots }

use Rattle.std.proofs.Common.{◌-◌, refl, sym, ◌∙◌, arith}
use Rattle.line_store.proofs.StoreCalls.{held_alive, held_slot, held_stored, less_memory, same_length_then, slot_holds, some, still_alive, sunk_length, sunk_memory, sunk_stored, uncounted}
use Rattle.line_store.proofs.bucket_store.BucketStoreHoldCounts.sink.Goals as goal

pub count-count-requires : goal.count-count-requires
count-count-requires g c = (omega arith, held_slot c.args.self.now.slots c.args.id c.get.result c.get.ensures.value c.requires)

pub overflow_sub-count : goal.overflow_sub-count
overflow_sub-count g c = let few = slot_holds c.args.self.now.slots c.args.id c.get.result c.count-count.result c.get.ensures.value c.count-count.ensures in let held = c.requires in omega (arith, few, held)

pub set_count-requires : goal.set_count-requires
set_count-requires g c = (omega arith, (held_slot c.args.self.now.slots c.args.id c.get-2.result c.get-2.ensures.value c.requires, held_alive c.args.self.now.slots c.args.id c.get-2.result c.args.self.now.stored.listed c.get-2.ensures.value c.requires))

pub dead_push-requires : goal.dead_push-requires
dead_push-requires g c = (omega arith, (uncounted c.args.self.now.slots c.set_count.new.self c.args.self.now.index.chains c.args.self.now.divisor c.args.self.now.live c.args.id c.get.result c.get-2.result c.count-count.result (c.count-count.result - 1) c.args.self.now.stored c.get.ensures.value c.get-2.ensures.value c.count-count.ensures c.set_count.ensures c.requires c.get-then-count-eq1.result c.get-then-count-eq1.ensures.value (let one = c.if-count-eq1.true in omega (arith, one)), still_alive c.args.self.now.slots c.set_count.new.self c.args.self.now.index.chains c.args.self.now.divisor c.args.self.now.live c.args.id c.get.result c.get-2.result c.count-count.result (c.count-count.result - 1) c.args.self.now.stored c.get.ensures.value c.get-2.ensures.value c.count-count.ensures c.set_count.ensures c.requires c.get-then-count-eq1.result c.get-then-count-eq1.ensures.value))

pub invariant_of-self : goal.invariant_of-self
invariant_of-self g c = record {
  wide = c.args.self.now.wide;
  stored = sunk_stored c.args.self.now.slots c.set_count.new.self c.args.self.now.index.chains c.args.self.now.divisor c.args.self.now.live c.args.id c.get.result c.get-2.result c.count-count.result (c.count-count.result - 1) c.args.self.now.stored c.get.ensures.value c.get-2.ensures.value c.count-count.ensures c.set_count.ensures c.requires c.dead_push.new.self c.get-then-count-eq1.result c.get-then-count-eq1.ensures.value (let one = c.if-count-eq1.true in omega (arith, one)) c.dead_push.ensures;
  sized = c.args.self.now.sized ∙ sym (sunk_length c.args.self.now.slots c.set_count.new.self c.args.self.now.index.chains c.args.self.now.divisor c.args.self.now.live c.args.id c.get.result c.get-2.result c.count-count.result (c.count-count.result - 1) c.args.self.now.stored c.get.ensures.value c.get-2.ensures.value c.count-count.ensures c.set_count.ensures c.requires c.dead_push.new.self c.get-then-count-eq1.result c.get-then-count-eq1.ensures.value (let one = c.if-count-eq1.true in omega (arith, one)) c.dead_push.ensures);
}

pub invariant_of-self-else-count-eq1 : goal.invariant_of-self-else-count-eq1
invariant_of-self-else-count-eq1 g c = record {
  wide = c.args.self.now.wide;
  stored = held_stored c.args.self.now.slots c.set_count.new.self c.args.self.now.index.chains c.args.self.now.divisor c.args.self.now.live c.args.id c.get.result c.get-2.result c.count-count.result (c.count-count.result - 1) c.args.self.now.stored c.get.ensures.value c.get-2.ensures.value c.count-count.ensures c.set_count.ensures c.requires (let held = some c.args.self.now.slots c.set_count.new.self c.args.self.now.index.chains c.args.self.now.divisor c.args.self.now.live c.args.id c.get.result c.get-2.result c.count-count.result (c.count-count.result - 1) c.args.self.now.stored c.get.ensures.value c.get-2.ensures.value c.count-count.ensures c.set_count.ensures c.requires in let many = c.if-count-eq1.false in omega (arith, held, many));
  sized = c.args.self.now.sized ∙ sym (same_length_then c.args.self.now.slots c.set_count.new.self c.args.self.now.index.chains c.args.self.now.divisor c.args.self.now.live c.args.id c.get.result c.get-2.result c.count-count.result (c.count-count.result - 1) c.args.self.now.stored c.get.ensures.value c.get-2.ensures.value c.count-count.ensures c.set_count.ensures c.requires);
}

pub returns-then-count-eq1 : goal.returns-then-count-eq1
returns-then-count-eq1 g c = sunk_memory c.args.self.now.slots c.set_count.new.self c.args.self.now.index.chains c.args.self.now.divisor c.args.self.now.live c.args.id c.get.result c.get-2.result c.count-count.result (c.count-count.result - 1) c.args.self.now.stored c.get.ensures.value c.get-2.ensures.value c.count-count.ensures c.set_count.ensures c.requires c.dead_push.new.self c.get-then-count-eq1.result c.get-then-count-eq1.ensures.value (let one = c.if-count-eq1.true in omega (arith, one)) c.dead_push.ensures c.if-count-eq1.true

pub returns-else-count-eq1 : goal.returns-else-count-eq1
returns-else-count-eq1 g c = less_memory c.args.self.now.slots c.set_count.new.self c.args.self.now.index.chains c.args.self.now.divisor c.args.self.now.live c.args.id c.get.result c.get-2.result c.count-count.result (c.count-count.result - 1) c.args.self.now.stored c.get.ensures.value c.get-2.ensures.value c.count-count.ensures c.set_count.ensures c.requires refl c.if-count-eq1.false

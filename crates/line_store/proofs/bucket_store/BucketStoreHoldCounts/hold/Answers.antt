use Rattle.std.proofs.Common.{◌+◌, refl, sym, ◌∙◌, arith}
use Rattle.line_store.proofs.StoreCalls.{held_alive, held_memory, held_slot, held_stored, same_length_then, slot_holds}
use Rattle.line_store.proofs.bucket_store.BucketStoreHoldCounts.hold.Goals as goal

pub count-count-requires : goal.count-count-requires
count-count-requires g c = (omega arith, held_slot c.args.self.now.slots c.args.id c.get.result c.get.ensures.value c.requires.live)

pub overflow_add-count : goal.overflow_add-count
overflow_add-count g c = let few = slot_holds c.args.self.now.slots c.args.id c.get.result c.count-count.result c.get.ensures.value c.count-count.ensures in let room = c.requires.room in omega (arith, few, room)

pub set_count-requires : goal.set_count-requires
set_count-requires g c = (omega arith, (held_slot c.args.self.now.slots c.args.id c.get-2.result c.get-2.ensures.value c.requires.live, held_alive c.args.self.now.slots c.args.id c.get-2.result c.args.self.now.stored.listed c.get-2.ensures.value c.requires.live))

pub invariant_of-self : goal.invariant_of-self
invariant_of-self g c = record {
  wide = c.args.self.now.wide;
  stored = held_stored c.args.self.now.slots c.set_count.new.self c.args.self.now.index.chains c.args.self.now.divisor c.args.self.now.live c.args.id c.get.result c.get-2.result c.count-count.result (c.count-count.result + 1) c.args.self.now.stored c.get.ensures.value c.get-2.ensures.value c.count-count.ensures c.set_count.ensures c.requires.live (omega arith);
  sized = c.args.self.now.sized ∙ sym (same_length_then c.args.self.now.slots c.set_count.new.self c.args.self.now.index.chains c.args.self.now.divisor c.args.self.now.live c.args.id c.get.result c.get-2.result c.count-count.result (c.count-count.result + 1) c.args.self.now.stored c.get.ensures.value c.get-2.ensures.value c.count-count.ensures c.set_count.ensures c.requires.live);
}

pub returns : goal.returns
returns g c = held_memory c.args.self.now.slots c.set_count.new.self c.args.self.now.index.chains c.args.self.now.divisor c.args.self.now.live c.args.id c.get.result c.get-2.result c.count-count.result (c.count-count.result + 1) c.args.self.now.stored c.get.ensures.value c.get-2.ensures.value c.count-count.ensures c.set_count.ensures c.requires.live refl

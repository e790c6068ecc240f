use Rattle.std.proofs.Common.{sym, refl, ◌∙◌, ap, length}
use Rattle.std.proofs.lemmas.List.{length-set}
use Rattle.line_mem.specs.declared.slots.Slot.TheVariants.{Vacant}
use Rattle.line_store.proofs.FiledLaws.{entry_of}
use Rattle.line_store.proofs.Interning.{line_entered}
use Rattle.line_store.proofs.SlotViews.{line_is}
use Rattle.line_store.proofs.StoreCalls.{slot_entered, some_live}
use Rattle.line_store.proofs.StoreSteps.{memory_given, stored_given}
use Rattle.line_store.proofs.bucket_store.BucketStoreLineMem.pop_dead.Goals as goal

pub leave-requires : goal.leave-requires
leave-requires g c = slot_entered c.args.self.now.slots c.args.self.now.index.chains c.args.self.now.divisor c.args.self.now.live c.args.self.now.stored c.in_ok-slot.slot c.in_ok-slot.line 0 c.in_ok-slot.ensures.some.taken

pub overflow_sub-self : goal.overflow_sub-self
overflow_sub-self g c = some_live c.args.self.now.slots c.args.self.now.index.chains c.args.self.now.divisor c.args.self.now.live c.args.self.now.stored c.give_slot.new.slots c.in_ok-slot.slot c.in_ok-slot.line c.in_ok-slot.ensures.some

pub invariant_of-self-2 : goal.invariant_of-self-2
invariant_of-self-2 g c = record {
  wide = c.args.self.now.wide;
  stored = stored_given c.args.self.now.slots c.give_slot.new.slots c.args.self.now.index.chains c.args.self.now.divisor c.args.self.now.live c.in_ok-slot.slot c.in_ok-slot.line c.leave.new.self.chains c.args.self.now.stored c.in_ok-slot.ensures.some (c.leave.ensures.entries (entry_of c.args.self.now.divisor c.in_ok-slot.slot c.in_ok-slot.line) (line_entered c.args.self.now.slots c.args.self.now.index.chains c.args.self.now.divisor c.args.self.now.live c.args.self.now.stored c.in_ok-slot.slot c.in_ok-slot.line 0 c.in_ok-slot.ensures.some.taken) refl) c.leave.ensures.slots;
  sized = c.args.self.now.sized ∙ sym (ap length c.in_ok-slot.ensures.some.slots ∙ length-set c.args.self.now.slots.slots c.in_ok-slot.slot Vacant);
}

pub returns-clause-some : goal.returns-clause-some
returns-clause-some g c = (
  c.in_ok-slot.slot,
  c.give_slot.new.slots.dead,
  c.in_ok-slot.ensures.some.dead,
  line_is c.args.self.now.slots.slots c.in_ok-slot.slot c.in_ok-slot.line 0 c.in_ok-slot.ensures.some.taken,
  memory_given c.args.self.now.slots c.give_slot.new.slots c.in_ok-slot.slot c.in_ok-slot.line c.in_ok-slot.ensures.some,
)

use Rattle.std.proofs.Common.{sym, ◌∙◌, ap, length}
use Rattle.std.proofs.lemmas.List.{length-replicate}
use Rattle.line_mem.specs.declared.slots.Slot.{Slot}
use Rattle.line_slots.specs.SlotLists.{SlotLists}
use Rattle.line_store.proofs.EmptyParts.{empty_stored, empty_stored_memory}
use Rattle.line_store.proofs.bucket_store.BucketStore.make.Goals as goal

pub invariant_of-result : goal.invariant_of-result
invariant_of-result g c = record {
  wide = c.requires.width;
  stored = empty_stored c.in_ok-slots.slots c.in_ok-index.index.chains c.make-divisor.result c.args.cap c.requires.cap.0 c.requires.cap.1 c.make-divisor.ensures c.in_ok-slots.ensures c.in_ok-index.ensures.entries c.in_ok-index.ensures.slots;
  sized = sym (ap (λ (v : SlotLists _). length v.slots) c.in_ok-slots.ensures ∙ length-replicate {A = Slot _} c.args.cap _);
}

pub returns : goal.returns
returns g c = empty_stored_memory c.in_ok-slots.slots c.args.cap c.in_ok-slots.ensures

use Rattle.std.proofs.Common.{rules, ◌≤◌, ◌∷◌, refl, sym, ◌∙◌, ap, subst, arith, length}
use Rattle.std.proofs.lemmas.List.{length-set}
use Rattle.std.proofs.lemmas.Option.{slice_get_within}
use Rattle.hic_word.specs.Lists.{times}
use Rattle.hic_word.specs.Memory.{count_at}
use Rattle.hic_word.specs.MemorySteps.{without_holds, Interns}
use Rattle.hic_word.specs.Names.{names_in}
use Rattle.line_mem.specs.declared.slots.Slot.TheVariants.{Taken, Vacant}
use Rattle.line_mem.specs.Places.{line_of}
use Rattle.line_mem.proofs.DeadIds.{alive}
use Rattle.line_mem.proofs.GivenUp.{count-more}
use Rattle.line_mem.proofs.StoreSteps.{no_error}
use Rattle.line_slots.specs.ChainLists.{entries, SameEntries}
use Rattle.line_store.specs.Entries.{entry_for}
use Rattle.line_store.specs.Stored.{memory_of}
use Rattle.line_store.specs.StoredSound.{stored_is_sound}
use Rattle.line_store.proofs.Interning.{entry_taken, interned_new, interned_there, looks_beside, none_free, search_new, some_free, vacant_unused}
use Rattle.line_store.proofs.SlotViews.{line_at_words, no_line}
use Rattle.line_store.proofs.StoreCalls.{looks_within, not_there, small_slot}
use Rattle.line_store.proofs.StoreSteps.{memory_taken, stored_taken}
use Rattle.line_store.proofs.bucket_store.BucketStoreLineMem.intern.Goals as goal

pub find_line-requires : goal.find_line-requires
find_line-requires g c = let wide = c.args.self.now.wide in (omega arith, (search rules, (wide, entry_taken c.args.self.now.slots c.args.self.now.index.chains c.args.self.now.divisor c.args.self.now.live c.args.self.now.stored)))

pub make-id-requires : goal.make-id-requires
make-id-requires g c = small_slot c.args.self.now.slots c.args.self.now.index.chains c.args.self.now.divisor c.args.self.now.live c.args.self.now.stored c.in-Some.slot c.args.line.now c.in-Some.ensures.slot.1

pub hold-requires : goal.hold-requires
hold-requires g c = (omega arith, (alive (memory_of c.args.self.now.slots) (stored_is_sound c.args.self.now.slots c.args.self.now.index.chains c.args.self.now.divisor c.args.self.now.live c.args.self.now.stored) c.requires.no_dead c.make-id.result c.args.line.now.w (ap (line_of c.args.self.now.slots.slots) c.make-id.ensures ∙ line_at_words c.args.self.now.slots.slots c.in-Some.slot c.args.line.now c.in-Some.ensures.slot.1), c.requires.room c.make-id.result (ap (line_of c.args.self.now.slots.slots) c.make-id.ensures ∙ line_at_words c.args.self.now.slots.slots c.in-Some.slot c.args.line.now c.in-Some.ensures.slot.1)))

pub sink_line-requires : goal.sink_line-requires
sink_line-requires g c = let wide = c.args.self.now.wide in (search rules, λ id. subst (λ m. times id (names_in c.args.line.now.w) ≤ count_at m id) (sym c.hold.ensures) (count-more (memory_of c.args.self.now.slots) c.make-id.result id _ (c.requires.names id)))

pub returns-in-Some-clause-interned : goal.returns-in-Some-clause-interned
returns-in-Some-clause-interned g c = interned_there (memory_of c.args.self.now.slots) c.args.line.now.w c.make-id.result _ (ap (line_of c.args.self.now.slots.slots) c.make-id.ensures ∙ line_at_words c.args.self.now.slots.slots c.in-Some.slot c.args.line.now c.in-Some.ensures.slot.1) (c.sink_line.ensures ∙ ap (λ m. without_holds m (names_in c.args.line.now.w)) c.hold.ensures)

pub returns-in-Some-clause-full : goal.returns-in-Some-clause-full
returns-in-Some-clause-full g c = (λ e. absurd (no_error e), λ f. absurd (f.new c.make-id.result (ap (line_of c.args.self.now.slots.slots) c.make-id.ensures ∙ line_at_words c.args.self.now.slots.slots c.in-Some.slot c.args.line.now c.in-Some.ensures.slot.1)))

pub returns-in-Some-clause-beside : goal.returns-in-Some-clause-beside
returns-in-Some-clause-beside g c = looks_beside c.args.self.now.slots c.args.self.now.index.chains c.args.self.now.divisor c.args.self.now.live c.args.self.now.stored c.args.line.now.w c.key_of-key.result c.args.steps.now c.find_line.new.steps c.key_of-key.ensures c.in-Some.ensures.looks

pub returns-in-Some-clause-looks : goal.returns-in-Some-clause-looks
returns-in-Some-clause-looks g c = looks_within c.args.self.now.slots c.args.self.now.index.chains c.args.self.now.divisor c.args.self.now.live c.args.self.now.stored c.args.line.now.w c.key_of-key.result c.args.steps.now c.find_line.new.steps c.key_of-key.ensures c.in-Some.ensures.looks

pub enter-requires-clause-slot : goal.enter-requires-clause-slot
enter-requires-clause-slot g c = let low = slice_get_within c.args.self.now.slots.slots c.in-Some-take_slot.slot Vacant c.in-Some-take_slot.ensures.some.vacant in let room = c.args.self.now.stored.room in omega (arith, low, room)

pub enter-requires-clause-apart : goal.enter-requires-clause-apart
enter-requires-clause-apart g c = vacant_unused c.args.self.now.slots c.args.self.now.index.chains c.args.self.now.divisor c.args.self.now.live c.args.self.now.stored c.in-Some-take_slot.slot c.in-Some-take_slot.ensures.some.vacant

pub invariant_of-self-in-Some-take_slot : goal.invariant_of-self-in-Some-take_slot
invariant_of-self-in-Some-take_slot g c = record {
  wide = c.args.self.now.wide;
  stored = stored_taken c.args.self.now.slots c.take_slot.new.slots c.args.self.now.index.chains c.args.self.now.divisor c.args.self.now.live c.in-Some-take_slot.slot c.args.line.now c.enter.new.self.chains c.args.self.now.stored c.in-Some-take_slot.ensures.some (subst (λ k. SameEntries (entries c.enter.new.self.chains) (entry_for c.in-Some-take_slot.slot k ∷ entries c.args.self.now.index.chains)) c.key_of-key.ensures c.enter.ensures.entries) c.enter.ensures.slots (search_new c.args.self.now.slots c.args.self.now.index.chains c.args.self.now.divisor c.args.self.now.live c.args.self.now.stored c.args.line.now c.key_of-key.result c.args.steps.now c.find_line.new.steps c.key_of-key.ensures c.in-None.ensures);
  sized = c.args.self.now.sized ∙ sym (ap length c.in-Some-take_slot.ensures.some.slots ∙ length-set c.args.self.now.slots.slots c.in-Some-take_slot.slot (Taken c.args.line.now 1));
}

pub returns-in-Some-take_slot-clause-interned : goal.returns-in-Some-take_slot-clause-interned
returns-in-Some-take_slot-clause-interned g c = subst (λ k. Interns (memory_of c.args.self.now.slots) c.args.line.now.w k (memory_of c.take_slot.new.slots)) (sym c.make.ensures) (interned_new (memory_of c.args.self.now.slots) c.args.line.now.w c.in-Some-take_slot.slot (memory_of c.take_slot.new.slots) (no_line c.args.self.now.slots.slots c.in-Some-take_slot.slot c.in-Some-take_slot.ensures.some.vacant) (search_new c.args.self.now.slots c.args.self.now.index.chains c.args.self.now.divisor c.args.self.now.live c.args.self.now.stored c.args.line.now c.key_of-key.result c.args.steps.now c.find_line.new.steps c.key_of-key.ensures c.in-None.ensures) (memory_taken c.args.self.now.slots c.take_slot.new.slots c.in-Some-take_slot.slot c.args.line.now c.in-Some-take_slot.ensures.some))

pub returns-in-Some-take_slot-clause-full : goal.returns-in-Some-take_slot-clause-full
returns-in-Some-take_slot-clause-full g c = (λ e. absurd (no_error e), λ f. absurd (some_free c.args.self.now.slots c.args.self.now.index.chains c.args.self.now.divisor c.args.self.now.live c.args.self.now.stored c.take_slot.new.slots c.in-Some-take_slot.slot c.args.line.now c.in-Some-take_slot.ensures.some f.whole))

pub returns-in-Some-take_slot-clause-beside : goal.returns-in-Some-take_slot-clause-beside
returns-in-Some-take_slot-clause-beside g c = looks_beside c.args.self.now.slots c.args.self.now.index.chains c.args.self.now.divisor c.args.self.now.live c.args.self.now.stored c.args.line.now.w c.key_of-key.result c.args.steps.now c.find_line.new.steps c.key_of-key.ensures c.in-None.ensures.looks

pub returns-in-Some-take_slot-clause-looks : goal.returns-in-Some-take_slot-clause-looks
returns-in-Some-take_slot-clause-looks g c = looks_within c.args.self.now.slots c.args.self.now.index.chains c.args.self.now.divisor c.args.self.now.live c.args.self.now.stored c.args.line.now.w c.key_of-key.result c.args.steps.now c.find_line.new.steps c.key_of-key.ensures c.in-None.ensures.looks

pub returns-in-Some-take_slot-clause-looked : goal.returns-in-Some-take_slot-clause-looked
returns-in-Some-take_slot-clause-looked g c = λ there. absurd (not_there c.args.self.now.slots.slots c.make.result c.in-Some-take_slot.slot c.make.ensures c.in-Some-take_slot.ensures.some.vacant there)

pub returns-in-None-take_slot-clause-full : goal.returns-in-None-take_slot-clause-full
returns-in-None-take_slot-clause-full g c = (λ e. none_free c.args.self.now.slots c.args.self.now.index.chains c.args.self.now.divisor c.args.self.now.live c.args.self.now.stored c.args.line.now.w c.in-None-take_slot.ensures.none.0 (search_new c.args.self.now.slots c.args.self.now.index.chains c.args.self.now.divisor c.args.self.now.live c.args.self.now.stored c.args.line.now c.key_of-key.result c.args.steps.now c.find_line.new.steps c.key_of-key.ensures c.in-None.ensures), λ f. refl)

pub returns-in-None-take_slot-clause-beside : goal.returns-in-None-take_slot-clause-beside
returns-in-None-take_slot-clause-beside g c = looks_beside c.args.self.now.slots c.args.self.now.index.chains c.args.self.now.divisor c.args.self.now.live c.args.self.now.stored c.args.line.now.w c.key_of-key.result c.args.steps.now c.find_line.new.steps c.key_of-key.ensures c.in-None.ensures.looks

pub returns-in-None-take_slot-clause-looks : goal.returns-in-None-take_slot-clause-looks
returns-in-None-take_slot-clause-looks g c = looks_within c.args.self.now.slots c.args.self.now.index.chains c.args.self.now.divisor c.args.self.now.live c.args.self.now.stored c.args.line.now.w c.key_of-key.result c.args.steps.now c.find_line.new.steps c.key_of-key.ensures c.in-None.ensures.looks

use Rattle.std.proofs.Common.{◌≡◌, ◌≤◌, ◌+◌, refl, sym, ◌∙◌, ap, subst, arith, rules, length, Some, vec_len}
use Rattle.std.specs.Prelude.{count_by}
use Rattle.hic_word.specs.Stands.{Unique}
use Rattle.hic_word.specs.Lists.{times}
use Rattle.hic_word.specs.Memory.{count_at}
use Rattle.hic_word.specs.Names.{names_in}
use Rattle.line_mem.specs.Places.{dead_at, line_of, is_dead, is_taken, memory_of}
use Rattle.line_mem.specs.PlacesSound.{slots_are_sound, len-lines}
use Rattle.line_mem.proofs.DeadIds.{alive}
use Rattle.line_mem.proofs.GivenUp.{count-more}
use Rattle.line_mem.proofs.StoreSteps.{no_error, whole, put_each, put_interns}
use Rattle.line_mem.proofs.SlotCounts.{not_whole}
use Rattle.line_mem.proofs.OneLine.{put_unique}
use Rattle.line_mem.proofs.flat_store.FlatStoreLineMem.intern.Goals as goal

pub hold-requires : goal.hold-requires
hold-requires g c =
    let s = c.args.self.now in
    let there : line_of s.slots.items c.make-id.result ≡ Some c.args.line.now.w = ap (λ k. line_of s.slots.items k) c.make-id.ensures ∙ ap (λ ss. line_of ss c.in-Some.at) (sym c.deref.ensures.value) ∙ c.in-Some.ensures.place.1 in
    let live = alive (memory_of s.slots.items s.dead.items (vec_len s.slots)) (slots_are_sound s.slots.items s.dead.items (vec_len s.slots) s.unique s.dead_each s.slots.ok.0 s.sized) c.requires.no_dead c.make-id.result c.args.line.now.w there in
    (omega arith, (live, c.requires.room c.make-id.result there))

pub sink_line-requires : goal.sink_line-requires
sink_line-requires g c = (search rules, λ id. subst (λ m. times id (names_in c.args.line.now.w) ≤ count_at m id) (sym c.hold.ensures) (count-more (memory_of c.args.self.now.slots.items c.args.self.now.dead.items (vec_len c.args.self.now.slots)) c.make-id.result id _ (c.requires.names id)))

pub invariant_of-self-clause-dead_each : goal.invariant_of-self-clause-dead_each
invariant_of-self-clause-dead_each g c =
    let len : length c.put_line.new.slots ≡ length c.args.self.now.slots.items = omega (arith, ap length c.deref_mut.ensures.value) in
    let same = whole c.args.self.now.slots.len c.put_line.new.slots c.args.self.now.slots.items c.args.self.now.slots.ok.0 len in
    λ q. c.args.self.now.dead_each q ∙ sym (put_each c.args.self.now.slots.items c.deref-in-None.result.now c.deref_mut.result.now c.put_line.new.slots c.in-Some-first_vacant.at c.deref-in-None.ensures.value c.deref_mut.ensures.value c.in-Some-first_vacant.ensures.1 c.put_line.ensures.counts q) ∙ ap (λ ss. dead_at ss q) (sym same)

pub invariant_of-self-clause-unique : goal.invariant_of-self-clause-unique
invariant_of-self-clause-unique g c =
    let len : length c.put_line.new.slots ≡ length c.args.self.now.slots.items = omega (arith, ap length c.deref_mut.ensures.value) in
    let same = whole c.args.self.now.slots.len c.put_line.new.slots c.args.self.now.slots.items c.args.self.now.slots.ok.0 len in
    subst (λ ss. Unique (line_of ss)) (sym same) (put_unique c.args.self.now.slots.items c.deref.result.now c.deref_mut.result.now c.put_line.new.slots c.in-Some-first_vacant.at c.args.line.now.w c.deref.ensures.value c.deref_mut.ensures.value c.in-None.ensures.place c.put_line.ensures.lines c.args.self.now.unique)

pub invariant_of-self-clause-dead_count : goal.invariant_of-self-clause-dead_count
invariant_of-self-clause-dead_count g c =
    let len : length c.put_line.new.slots ≡ length c.args.self.now.slots.items = omega (arith, ap length c.deref_mut.ensures.value) in
    let same = whole c.args.self.now.slots.len c.put_line.new.slots c.args.self.now.slots.items c.args.self.now.slots.ok.0 len in
    c.args.self.now.dead_count ∙ sym (ap (count_by is_dead) same ∙ c.put_line.ensures.dead ∙ ap (count_by is_dead) c.deref_mut.ensures.value)

pub invariant_of-self-clause-live_count : goal.invariant_of-self-clause-live_count
invariant_of-self-clause-live_count g c =
    let len : length c.put_line.new.slots ≡ length c.args.self.now.slots.items = omega (arith, ap length c.deref_mut.ensures.value) in
    let same = whole c.args.self.now.slots.len c.put_line.new.slots c.args.self.now.slots.items c.args.self.now.slots.ok.0 len in
    ap (λ n. n + 1) c.args.self.now.live_count ∙ sym (ap (count_by is_taken) same ∙ c.put_line.ensures.taken ∙ ap (λ ss. count_by is_taken ss + 1) c.deref_mut.ensures.value)

pub returns-in-Some-first_vacant-clause-full : goal.returns-in-Some-first_vacant-clause-full
returns-in-Some-first_vacant-clause-full g c =
    let len : length c.put_line.new.slots ≡ length c.args.self.now.slots.items = omega (arith, ap length c.deref_mut.ensures.value) in
    (λ e. absurd (no_error e), λ f. absurd (not_whole c.args.self.now.slots.items c.deref_mut.result.now c.put_line.new.slots (vec_len c.args.self.now.slots) c.deref_mut.ensures.value len c.args.self.now.slots.ok.0 c.put_line.ensures.taken f.whole))

pub returns-in-None-first_vacant-clause-full : goal.returns-in-None-first_vacant-clause-full
returns-in-None-first_vacant-clause-full g c = (
  λ e. record {
    new = λ id there. c.in-None.ensures.place id (subst (λ ss. line_of ss id ≡ Some c.args.line.now.w) (sym c.deref.ensures.value) there);
    whole = len-lines c.args.self.now.slots.items ∙ sym (ap (count_by is_taken) c.deref-in-None.ensures.value) ∙ c.in-None-first_vacant.ensures ∙ ap length c.deref-in-None.ensures.value ∙ sym c.args.self.now.slots.ok.0;
  },
  λ f. refl,
)

pub returns-in-Some-first_vacant-clause-interned : goal.returns-in-Some-first_vacant-clause-interned
returns-in-Some-first_vacant-clause-interned g c =
    let s = c.args.self.now in
    let len : length c.put_line.new.slots ≡ length s.slots.items = omega (arith, ap length c.deref_mut.ensures.value) in
    let same = whole s.slots.len c.put_line.new.slots s.slots.items s.slots.ok.0 len in
    put_interns s.slots.items c.deref.result.now c.deref-in-None.result.now c.deref_mut.result.now c.put_line.new.slots _ c.in-Some-first_vacant.at c.make.result _ s.dead.items c.args.line.now.w c.deref.ensures.value c.deref-in-None.ensures.value c.deref_mut.ensures.value same c.make.ensures c.in-None.ensures.place c.in-Some-first_vacant.ensures.1 c.put_line.ensures.lines c.put_line.ensures.counts

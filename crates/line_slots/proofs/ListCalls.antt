-- What each call makes of the slots and their lists, by the record that it writes.
use Rattle.std.proofs.Common.{◌≡◌, ℕ, ◌-◌, ◌<◌, List, ◌∷◌, ◌++◌, length, get_or, set, Option, Some, None, IsSome, refl, sym, ap, ◌∙◌, subst}
use Rattle.std.specs.Prelude.{slice_get, option_map}
use Rattle.std.specs.List.{range_with_len}
use Rattle.std.proofs.lemmas.List.{length-set}
use Rattle.std.proofs.lemmas.Option.{slice_get_read}
use Rattle.hic_word.specs.Lists.{In}
use Rattle.line_mem.specs.declared.slots.Slot.{Slot}
use Rattle.line_mem.specs.declared.slots.Slot.TheVariants.{Vacant, Taken}
use Rattle.line_slots.specs.declared.content.Content.{Content}
use Rattle.line_slots.specs.declared.slots.Record.{Record}
use Rattle.line_slots.specs.declared.slots.State.{State}
use Rattle.line_slots.specs.declared.slots.State.TheVariants as state
use Rattle.line_slots.specs.Contents.{line_of}
use Rattle.line_slots.specs.Linked.{LeadsTo}
use Rattle.line_slots.specs.SlotLists.{SlotLists, count_at, count_in, line_at, line_in, with_dead, with_free, with_slot, IsVacant}
use Rattle.line_slots.specs.Records.{AreKept, dead_link, link_in, lists_of, members, next_by, no_slot, slot_by, slot_of, vacant_link}
use Rattle.line_slots.proofs.ListReads.{get_set_same, set_there, In-append_left}
use Rattle.line_slots.proofs.Writes.{Becomes, becomes, led_elsewhere, rewritten, slot_seen, slots_written, taken_held, taken_low, vacant_alive, vacant_low}

-- a list with a member in front, whose link leads to the others
led_on : {w : ℕ} (link : State → Option ℕ) (rs : List (Record w)) (k : ℕ) (r : Record w) (first : ℕ) (xs : List ℕ) → k < length rs → link r.state ≡ Some first → (In k xs → ⊥) → LeadsTo (next_by link rs) no_slot first xs → LeadsTo (next_by link (set rs k r)) no_slot k (k ∷ xs)
led_on link rs k r first xs low e n h = (refl, first, ap (link_in link) (get_set_same rs k r low) ∙ e, led_elsewhere link rs k r first xs n h)

-- a slot with the count 0 and a new state without a count is seen as before
count_0 : {w : ℕ} (content : Content w) (s : State) (next : ℕ) → count_in (Some (slot_by content s)) ≡ Some 0 → slot_by content (state.Dead next) ≡ slot_by content s
count_0 content (state.Vacant n) next e = cc
count_0 content (state.Counted n) next e = let f : n ≡ 0 = cc in ap (λ m. Taken (line_of content) m) (sym f)
count_0 content (state.Dead n) next e = refl

counted : {w : ℕ} (o : Option (Slot w)) (n : ℕ) → count_in o ≡ Some n → IsSome (line_in o)
counted None n e = cc
counted (Some Vacant) n e = cc
counted (Some (Taken line m)) n e = refl

module _ {w : ℕ} (rs : List (Record w)) (free dead slots capacity k : ℕ) (v : SlotLists w) (kept : AreKept rs free dead slots capacity) (e : lists_of rs free dead slots ≡ v) where
  -- the slot of the record that is read
  here : (old : Record w) → slice_get rs k ≡ Some old → k < length rs → slice_get v.slots k ≡ Some (slot_of old)
  here old g low = subst (λ w. slice_get w.slots k ≡ Some (slot_of old)) e (slot_seen rs free dead slots capacity k kept low ∙ ap (option_map slot_of) g)

  pub line_here : (old : Record w) → slice_get rs k ≡ Some old → k < length rs → IsSome (line_at v k) → line_at v k ≡ Some (line_of old.content)
  line_here old g low h = go old.state (ap line_in (here old g low))
    where
      go : (s : State) → line_at v k ≡ line_in (Some (slot_by old.content s)) → line_at v k ≡ Some (line_of old.content)
      go (state.Vacant next) f = absurd (let a = subst (λ o. IsSome o) f h in cc)
      go (state.Counted n) f = f
      go (state.Dead next) f = f

  pub vacant_index : IsVacant v k → (In k v.free → ⊥) → k < length rs
  vacant_index h off = vacant_low rs free dead slots capacity k kept (subst (λ w. IsVacant w k) (sym e) h) (λ i. off (subst (λ w. In k w.free) e i))

  pub taken_index : IsSome (line_at v k) → k < length rs
  taken_index h = taken_low rs free dead slots capacity k kept (subst (λ w. IsSome (line_at w k)) (sym e) h)

  off_free : (In k v.free → ⊥) → In k (members vacant_link rs free) → ⊥
  off_free off i = off (subst (λ w. In k w.free) e (In-append_left k (members vacant_link rs free) (range_with_len (length rs) (slots - length rs)) i))

  off_dead : (In k v.dead → ⊥) → In k (members dead_link rs dead) → ⊥
  off_dead off i = off (subst (λ w. In k w.dead) e i)

  alive : IsVacant v k → (In k v.free → ⊥) → In k (members dead_link rs dead) → ⊥
  alive h off = vacant_alive rs free dead slots capacity k kept (vacant_index h off) (subst (λ w. IsVacant w k) (sym e) h)

  held : IsSome (line_at v k) → In k (members vacant_link rs free) → ⊥
  held h = taken_held rs free dead slots capacity k kept (taken_index h) (subst (λ w. IsSome (line_at w k)) (sym e) h)

  seen_as : (r : Record w) → Becomes (set rs k r) free dead slots capacity (with_slot (lists_of rs free dead slots) k (slot_of r)) → Becomes (set rs k r) free dead slots capacity (with_slot v k (slot_of r))
  seen_as r b = record { kept = b.kept; seen = b.seen ∙ ap (λ w. with_slot w k (slot_of r)) e }

  -- a vacant slot that is not free, and a taken one that is not dead, get another record
  pub vacant_becomes : (r : Record w) → IsVacant v k → (In k v.free → ⊥) → Becomes (set rs k r) free dead slots capacity (with_slot v k (slot_of r))
  vacant_becomes r h off = seen_as r (rewritten rs free dead slots capacity k r kept (vacant_index h off) (off_free off) (alive h off))

  pub taken_becomes : (r : Record w) → IsSome (line_at v k) → (In k v.dead → ⊥) → Becomes (set rs k r) free dead slots capacity (with_slot v k (slot_of r))
  taken_becomes r h off = seen_as r (rewritten rs free dead slots capacity k r kept (taken_index h) (held h) (off_dead off))

  -- a slot is put in front of a list
  pub free_becomes : (r : Record w) → r.state ≡ state.Vacant free → IsVacant v k → (In k v.free → ⊥) → Becomes (set rs k r) k dead slots capacity (with_free v (k ∷ v.free))
  free_becomes r s h off =
      let low = vacant_index h off in
      let b = becomes (set rs k r) k dead slots capacity (k ∷ members vacant_link rs free) (members dead_link rs dead) kept.few (rw (length-set rs k r) kept.some) kept.room
      (led_on vacant_link rs k r free _ low (ap vacant_link s) (off_free off) kept.free_ends)
      (led_elsewhere dead_link rs k r dead _ (alive h off) kept.dead_ends) in
      let same : slot_of r ≡ Vacant = ap (slot_by r.content) s in
      let unchanged : set (lists_of rs free dead slots).slots k (slot_of r) ≡ (lists_of rs free dead slots).slots = set_there _ k _ (subst (λ w. IsVacant w k) (sym e) h ∙ ap (λ x. Some x) (sym same)) in
      record {
        kept = b.kept;
        seen = b.seen ∙ (λ i. record {
          slots = (slots_written rs k r slots low ∙ unchanged) i;
          free = (k ∷ members vacant_link rs free) ++ range_with_len (length-set rs k r i) (slots - length-set rs k r i);
          dead = members dead_link rs dead;
        }) ∙ ap (λ w. with_free w (k ∷ w.free)) e;
      }

  pub dead_becomes : (r old : Record w) → slice_get rs k ≡ Some old → r.content ≡ old.content → r.state ≡ state.Dead dead → count_at v k ≡ Some 0 → (In k v.dead → ⊥) → Becomes (set rs k r) free k slots capacity (with_dead v (k ∷ v.dead))
  dead_becomes r old g d s h off =
      let taken = counted (slice_get v.slots k) 0 h in
      let low = taken_index taken in
      let b = becomes (set rs k r) free k slots capacity (members vacant_link rs free) (k ∷ members dead_link rs dead) kept.few (rw (length-set rs k r) kept.some) kept.room
      (led_elsewhere vacant_link rs k r free _ (held taken) kept.free_ends)
      (led_on dead_link rs k r dead _ low (ap dead_link s) (off_dead off) kept.dead_ends) in
      let same : slot_of r ≡ slot_of old = ap (slot_by r.content) s ∙ ap (λ x. slot_by x (state.Dead dead)) d ∙ count_0 old.content old.state dead (sym (ap count_in (here old g low)) ∙ h) in
      let unchanged : set (lists_of rs free dead slots).slots k (slot_of r) ≡ (lists_of rs free dead slots).slots = set_there _ k _ (subst (λ w. slice_get w.slots k ≡ Some (slot_of old)) (sym e) (here old g low) ∙ ap (λ x. Some x) (sym same)) in
      record {
        kept = b.kept;
        seen = b.seen ∙ (λ i. record {
          slots = (slots_written rs k r slots low ∙ unchanged) i;
          free = members vacant_link rs free ++ range_with_len (length-set rs k r i) (slots - length-set rs k r i);
          dead = k ∷ members dead_link rs dead;
        }) ∙ ap (λ w. with_dead w (k ∷ w.dead)) e;
      }

  -- the record that is read of a slot with the count 0
  pub dead_record : (old : Record w) → old ≡ get_or rs k old → count_at v k ≡ Some 0 → slice_get rs k ≡ Some old
  dead_record old g h = slice_get_read rs (length rs) k old refl (taken_index (counted (slice_get v.slots k) 0 h)) g

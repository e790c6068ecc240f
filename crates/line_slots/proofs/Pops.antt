-- The first member of a list is taken.
use Rattle.std.proofs.Common.{◌≡◌, ℕ, suc, ◌+◌, ◌-◌, ◌<◌, ◌≤◌, List, [], ◌∷◌, ◌++◌, length, map, set, Bool, true, false, Option, Some, None, IsSome, refl, sym, ap, ◌∙◌, subst, arith, length-append, append_assoc}
use Rattle.std.specs.Prelude.{slice_get, replicate, option_map}
use Rattle.std.specs.List.{range_with_len}
use Rattle.std.proofs.lemmas.List.{length-set, map-append}
use Rattle.hic_word.specs.Lists.{In}
use Rattle.line_mem.specs.declared.slots.Slot.TheVariants.{Vacant}
use Rattle.line_slots.specs.declared.slots.Record.{Record}
use Rattle.line_slots.specs.declared.slots.State.{State}
use Rattle.line_slots.specs.declared.slots.State.TheVariants as state
use Rattle.line_slots.specs.Linked.{LeadsTo}
use Rattle.line_slots.specs.SlotLists.{SlotLists, with_dead, with_free}
use Rattle.line_slots.specs.Records.{AreKept, dead_link, link_in, lists_of, members, next_by, no_slot, slot_by, slot_of, vacant_link}
use Rattle.line_slots.proofs.LinkLaws.{has_link, leads_same, no_second}
use Rattle.line_slots.proofs.ListReads.{get_append, set_there}
use Rattle.line_slots.proofs.RecordLaws.{low, member_links, none_ends}
use Rattle.line_slots.proofs.Writes.{becomes, led_elsewhere, slot_seen, slots_written}

-- the first member, with the link in it and those that it leads to
record Headed {w : ℕ} (link : State → Option ℕ) (records : List (Record w)) (first : ℕ) (xs : List ℕ) : Type 0 where
  pub others : List ℕ
  pub after : ℕ
  pub split : xs ≡ first ∷ others
  pub linked : next_by link records first ≡ Some after
  pub led : LeadsTo (next_by link records) no_slot after others

headed : {w : ℕ} (link : State → Option ℕ) (rs : List (Record w)) (first : ℕ) (xs : List ℕ) → (first ≡ no_slot → ⊥) → LeadsTo (next_by link rs) no_slot first xs → Headed link rs first xs
headed link rs first [] n h = absurd (n h)
headed link rs first (x ∷ xs) n h = record {
  others = xs;
  after = h.1;
  split = ap (λ y. y ∷ xs) (sym h.0);
  linked = ap (next_by link rs) h.0 ∙ h.2;
  led = h.3;
}

-- no member where there is no first one
none_led : {w : ℕ} (link : State → Option ℕ) (rs : List (Record w)) (xs : List ℕ) → length rs ≤ no_slot → LeadsTo (next_by link rs) no_slot no_slot xs → xs ≡ []
none_led link rs [] fits h = refl
none_led link rs (x ∷ xs) fits h = let a = ap (next_by link rs) h.0 ∙ h.2 in let b = none_ends link rs fits in absurd (let c : ◌≡◌ {A = Option ℕ} None (Some h.1) = sym b ∙ a in cc)

same_link : (x y : ℕ) → ◌≡◌ {A = Option ℕ} (Some x) (Some y) → x ≡ y
same_link x y e = cc

-- what is left of slots after a record more
one_less : (n m : ℕ) → n < m → m - n ≡ suc (m - (n + 1))
one_less n m h = omega arith

module _ {w : ℕ} (rs : List (Record w)) (free dead slots capacity : ℕ) (v : SlotLists w) (kept : AreKept rs free dead slots capacity) (e : lists_of rs free dead slots ≡ v) where
  fits : length rs ≤ no_slot
  fits = let a = kept.few in let b = kept.some in omega (arith, a, b)

  -- the first member of each list has a record, with the link
  pub free_link : (free ≡ no_slot → ⊥) → IsSome (next_by vacant_link rs free)
  free_link n = let h = headed vacant_link rs free _ n kept.free_ends in subst (λ o. IsSome o) (sym h.linked) refl

  pub dead_linked : (dead ≡ no_slot → ⊥) → IsSome (next_by dead_link rs dead)
  dead_linked n = let h = headed dead_link rs dead _ n kept.dead_ends in subst (λ o. IsSome o) (sym h.linked) refl

  pub free_index : (free ≡ no_slot → ⊥) → free < length rs
  free_index n = low vacant_link rs fits free (free_link n)

  pub dead_index : (dead ≡ no_slot → ⊥) → dead < length rs
  dead_index n = low dead_link rs fits dead (dead_linked n)

  -- the first free slot is taken off its list
  pub free_popped : (next : ℕ) → (free ≡ no_slot → ⊥) → next_by vacant_link rs free ≡ Some next → AreKept rs next dead slots capacity × (v ≡ with_free (lists_of rs next dead slots) (free ∷ (lists_of rs next dead slots).free))
  free_popped next n g =
      let h = headed vacant_link rs free _ n kept.free_ends in
      let at : h.after ≡ next = same_link h.after next (sym h.linked ∙ g) in
      let b = becomes rs next dead slots capacity h.others _ kept.few kept.some kept.room (subst (λ x. LeadsTo (next_by vacant_link rs) no_slot x h.others) at h.led) kept.dead_ends in (
        b.kept,
        sym e ∙ (λ i. record {
          slots = map slot_of rs ++ replicate (slots - length rs) Vacant;
          free = h.split i ++ range_with_len (length rs) (slots - length rs);
          dead = members dead_link rs dead;
        }) ∙ sym (ap (λ w. with_free w (free ∷ w.free)) b.seen),
      )

  -- a dead slot is not free
  dead_held : (next : ℕ) (old : Record w) → slice_get rs dead ≡ Some old → old.state ≡ state.Dead next → In dead (members vacant_link rs free) → ⊥
  dead_held next old g s i =
      let a : next_by vacant_link rs dead ≡ None = ap (link_in vacant_link) g ∙ ap vacant_link s in
      let b = subst (λ o. IsSome o) a (member_links vacant_link rs fits dead free i kept.free_ends) in
      absurd (let c : ◌≡◌ {A = Bool} false true = b in cc)

  -- the first dead slot is taken off its list, and keeps its line
  pub dead_popped : (next : ℕ) (old r : Record w) → (dead ≡ no_slot → ⊥) → slice_get rs dead ≡ Some old → old.state ≡ state.Dead next → r ≡ record { content = old.content; state = state.Counted 0 }
      → AreKept (set rs dead r) free next slots capacity × (v ≡ with_dead (lists_of (set rs dead r) free next slots) (dead ∷ (lists_of (set rs dead r) free next slots).dead))
  dead_popped next old r n g s d =
      let h = headed dead_link rs dead _ n kept.dead_ends in
      let at : h.after ≡ next = same_link h.after next (sym h.linked ∙ ap (link_in dead_link) g ∙ ap dead_link s) in
      let low = dead_index n in
      let off : In dead h.others → ⊥ = no_second (next_by dead_link rs) no_slot (none_ends dead_link rs fits) dead dead h.others (refl, h.after, h.linked, h.led) in
      let apart : In dead (members vacant_link rs free) → ⊥ = dead_held next old g s in
      let same : slot_of r ≡ slot_of old = ap slot_of d ∙ sym (ap (slot_by old.content) s) in
      let b = becomes (set rs dead r) free next slots capacity _ h.others kept.few (rw (length-set rs dead r) kept.some) kept.room
      (led_elsewhere vacant_link rs dead r free _ apart kept.free_ends)
      (led_elsewhere dead_link rs dead r next h.others off (subst (λ x. LeadsTo (next_by dead_link rs) no_slot x h.others) at h.led)) in
      let unchanged : set (lists_of rs free dead slots).slots dead (slot_of r) ≡ (lists_of rs free dead slots).slots = set_there _ dead _ (slot_seen rs free dead slots capacity dead kept low ∙ ap (option_map slot_of) g ∙ ap (λ x. Some x) (sym same)) in (
        b.kept,
        sym e ∙ (λ i. record {
          slots = sym (slots_written rs dead r slots low ∙ unchanged) i;
          free = members vacant_link rs free ++ range_with_len (sym (length-set rs dead r) i) (slots - sym (length-set rs dead r) i);
          dead = h.split i;
        }) ∙ sym (ap (λ w. with_dead w (dead ∷ w.dead)) b.seen),
      )

  -- the lists that have no first member are empty
  pub dead_none : dead ≡ no_slot → v.dead ≡ []
  dead_none n = sym (ap (λ w. w.dead) e) ∙ none_led dead_link rs (members dead_link rs dead) fits (subst (λ x. LeadsTo (next_by dead_link rs) no_slot x (members dead_link rs dead)) n kept.dead_ends)

  linked_none : free ≡ no_slot → members vacant_link rs free ≡ []
  linked_none n = none_led vacant_link rs (members vacant_link rs free) fits (subst (λ x. LeadsTo (next_by vacant_link rs) no_slot x (members vacant_link rs free)) n kept.free_ends)

  pub free_none : free ≡ no_slot → length rs ≡ slots → v.free ≡ []
  free_none n whole =
      sym (ap (λ w. w.free) e)
      ∙ ap (λ xs. xs ++ range_with_len (length rs) (slots - length rs)) (linked_none n)
      ∙ ap (λ (m : ℕ). range_with_len (length rs) m) (let z : slots - length rs ≡ 0 = omega (arith, whole) in z)

  longer : (r : Record w) → length (rs ++ r ∷ []) ≡ length rs + 1
  longer r = length-append rs (r ∷ [])

  -- a link that is the same with a record more
  led_longer : (link : State → Option ℕ) (r : Record w) (first : ℕ) (xs : List ℕ) → LeadsTo (next_by link rs) no_slot first xs → LeadsTo (next_by link (rs ++ r ∷ [])) no_slot first xs
  led_longer link r first xs h = leads_same (next_by link rs) (next_by link (rs ++ r ∷ [])) no_slot first xs (λ x i. ap (link_in link) (get_append rs (r ∷ []) x (low link rs fits x (has_link (next_by link rs) no_slot (none_ends link rs fits) x first xs i h)))) h

  more_slots : (r : Record w) → slot_of r ≡ Vacant → length rs < slots → map slot_of rs ++ replicate (slots - length rs) Vacant ≡ map slot_of (rs ++ r ∷ []) ++ replicate (slots - length (rs ++ r ∷ [])) Vacant
  more_slots r s small =
      let left = replicate (slots - (length rs + 1)) Vacant in
      ap (λ m. map slot_of rs ++ replicate m Vacant) (one_less (length rs) slots small)
      ∙ sym (append_assoc (map slot_of rs) (Vacant ∷ []) left)
      ∙ ap (λ slot. (map slot_of rs ++ slot ∷ []) ++ left) (sym s)
      ∙ ap (λ ss. ss ++ left) (sym (map-append slot_of rs (r ∷ [])))
      ∙ ap (λ m. map slot_of (rs ++ r ∷ []) ++ replicate (slots - m) Vacant) (sym (longer r))

  more_free : (r : Record w) → free ≡ no_slot → length rs < slots → members vacant_link rs free ++ range_with_len (length rs) (slots - length rs) ≡ length rs ∷ (members vacant_link rs free ++ range_with_len (length (rs ++ r ∷ [])) (slots - length (rs ++ r ∷ [])))
  more_free r n small =
      ap (λ xs. xs ++ range_with_len (length rs) (slots - length rs)) (linked_none n)
      ∙ ap (range_with_len (length rs)) (one_less (length rs) slots small)
      ∙ ap (λ m. length rs ∷ range_with_len m (slots - m)) (sym (longer r))
      ∙ ap (λ xs. length rs ∷ (xs ++ range_with_len (length (rs ++ r ∷ [])) (slots - length (rs ++ r ∷ [])))) (sym (linked_none n))

  -- the next slot that was never taken is taken off the free ones
  pub fresh_popped : (r : Record w) → slot_of r ≡ Vacant → free ≡ no_slot → length rs < slots → AreKept (rs ++ r ∷ []) free dead slots capacity × (v ≡ with_free (lists_of (rs ++ r ∷ []) free dead slots) (length rs ∷ (lists_of (rs ++ r ∷ []) free dead slots).free))
  fresh_popped r s n small =
      let b = becomes (rs ++ r ∷ []) free dead slots capacity _ _ kept.few (rw (longer r) (omega (arith, small))) kept.room
      (led_longer vacant_link r free _ kept.free_ends)
      (led_longer dead_link r dead _ kept.dead_ends) in (
        b.kept,
        sym e ∙ (λ i. record {
          slots = more_slots r s small i;
          free = more_free r n small i;
          dead = members dead_link rs dead;
        }) ∙ sym (ap (λ w. with_free w (length rs ∷ w.free)) b.seen),
      )

  -- the state of the first member of each list
  pub free_state : (old : Record w) → (free ≡ no_slot → ⊥) → slice_get rs free ≡ Some old → IsSome (vacant_link old.state)
  free_state old n g = subst (λ o. IsSome (link_in vacant_link o)) g (free_link n)

  pub dead_state : (old : Record w) → (dead ≡ no_slot → ⊥) → slice_get rs dead ≡ Some old → IsSome (dead_link old.state)
  dead_state old n g = subst (λ o. IsSome (link_in dead_link o)) g (dead_linked n)

  -- the record with a link is that of the call
  pub free_popped_at : (next : ℕ) (old : Record w) → (free ≡ no_slot → ⊥) → slice_get rs free ≡ Some old → old.state ≡ state.Vacant next → AreKept rs next dead slots capacity × (v ≡ with_free (lists_of rs next dead slots) (free ∷ (lists_of rs next dead slots).free))
  free_popped_at next old n g s = free_popped next n (ap (link_in vacant_link) g ∙ ap vacant_link s)

  pub fresh_popped_at : (more : List (Record w)) (r : Record w) (slot room : ℕ) → slot_of r ≡ Vacant → more ≡ rs ++ r ∷ [] → slot ≡ length rs → (slot ≡ slots → ⊥) → free ≡ no_slot → capacity ≤ room → AreKept more free dead slots room × (v ≡ with_free (lists_of more free dead slots) (slot ∷ (lists_of more free dead slots).free))
  fresh_popped_at more r slot room s p at n none wide =
      let small : length rs < slots = let a = kept.some in let b : length rs ≡ slots → ⊥ = λ h. n (at ∙ h) in omega (arith, a, b) in
      let (k, e) = fresh_popped r s none small in
      subst (λ x. AreKept x free dead slots room × (v ≡ with_free (lists_of x free dead slots) (slot ∷ (lists_of x free dead slots).free))) (sym p) (
        record { few = k.few; some = k.some; room = let a = k.room in omega (arith, a, wide); free_ends = k.free_ends; dead_ends = k.dead_ends },
        e ∙ ap (λ (x : ℕ). with_free (lists_of (rs ++ r ∷ []) free dead slots) (x ∷ (lists_of (rs ++ r ∷ []) free dead slots).free)) (sym at),
      )

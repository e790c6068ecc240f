-- What a write to a record makes of the slots and their lists.
use Rattle.std.proofs.Common.{◌≡◌, ℕ, zero, suc, ◌+◌, ◌-◌, ◌<◌, ◌≤◌, ◌^◌, List, [], ◌∷◌, ◌++◌, length, map, set, Option, Some, None, IsSome, refl, sym, ap, ◌∙◌, subst, arith, inl, inr, length-append}
use Rattle.std.specs.Prelude.{slice_get, replicate, option_map}
use Rattle.std.specs.List.{range_with_len}
use Rattle.std.proofs.lemmas.Bool.{cases_lt}
use Rattle.std.proofs.lemmas.List.{length-set, map-set, set-append_left, length-map}
use Rattle.std.proofs.lemmas.Option.{slice_get_within, slice_get-map}
use Rattle.std.proofs.lemmas.Simd.{length-replicate}
use Rattle.hic_word.specs.Lists.{In}
use Rattle.line_mem.specs.declared.slots.Slot.{Slot}
use Rattle.line_mem.specs.declared.slots.Slot.TheVariants.{Vacant}
use Rattle.line_slots.specs.declared.content.Content.{Content}
use Rattle.line_slots.specs.declared.slots.Record.{Record}
use Rattle.line_slots.specs.declared.slots.State.{State}
use Rattle.line_slots.specs.declared.slots.State.TheVariants as state
use Rattle.line_slots.specs.Linked.{LeadsTo}
use Rattle.line_slots.specs.SlotLists.{SlotLists, line_at, line_in, with_slot}
use Rattle.line_slots.specs.Records.{AreKept, dead_link, link_in, lists_of, members, next_by, no_slot, slot_by, slot_of, vacant_link}
use Rattle.line_slots.proofs.LinkLaws.{leads_same}
use Rattle.line_slots.proofs.ListReads.{get_append, get_set_other, In-append_right, In-range}
use Rattle.line_slots.proofs.RecordLaws.{member_links, members-led}

-- records, and what they are seen as
pub record Becomes {w : ℕ} (records : List (Record w)) (free dead slots capacity : ℕ) (lists : SlotLists w) : Type 0 where
  pub kept : AreKept records free dead slots capacity
  pub seen : lists_of records free dead slots ≡ lists

-- a write leaves the lists that the record is not on
pub led_elsewhere : {w : ℕ} (link : State → Option ℕ) (rs : List (Record w)) (k : ℕ) (r : Record w) (first : ℕ) (xs : List ℕ) → (In k xs → ⊥) → LeadsTo (next_by link rs) no_slot first xs → LeadsTo (next_by link (set rs k r)) no_slot first xs
led_elsewhere link rs k r first xs n h = leads_same (next_by link rs) (next_by link (set rs k r)) no_slot first xs (λ x i. ap (link_in link) (get_set_other rs k x r (λ e. n (subst (λ y. In y xs) e i)))) h

-- the slots after a write
pub slots_written : {w : ℕ} (rs : List (Record w)) (k : ℕ) (r : Record w) (slots : ℕ) → k < length rs → map slot_of (set rs k r) ++ replicate (slots - length (set rs k r)) Vacant ≡ set (map slot_of rs ++ replicate (slots - length rs) Vacant) k (slot_of r)
slots_written rs k r slots h =
    ap (λ n. map slot_of (set rs k r) ++ replicate (slots - n) Vacant) (length-set rs k r)
    ∙ ap (λ ss. ss ++ replicate (slots - length rs) Vacant) (map-set slot_of rs k r)
    ∙ sym (set-append_left (map slot_of rs) (replicate (slots - length rs) Vacant) k (slot_of r) (rw (length-map rs slot_of) h))

-- records whose links lead to these members
pub becomes : {w : ℕ} (rs : List (Record w)) (free dead slots capacity : ℕ) (fs ds : List ℕ) → slots < 2 ^ 24 → length rs ≤ slots → slots ≤ capacity → LeadsTo (next_by vacant_link rs) no_slot free fs → LeadsTo (next_by dead_link rs) no_slot dead ds
    → Becomes rs free dead slots capacity (record { slots = map slot_of rs ++ replicate (slots - length rs) Vacant; free = fs ++ range_with_len (length rs) (slots - length rs); dead = ds })
becomes rs free dead slots capacity fs ds few some room f d =
    let e : members vacant_link rs free ≡ fs = members-led vacant_link rs (omega arith) free fs f in
    let g : members dead_link rs dead ≡ ds = members-led dead_link rs (omega arith) dead ds d in
    record {
      kept = record {
        few = few;
        some = some;
        room = room;
        free_ends = subst (λ xs. LeadsTo (next_by vacant_link rs) no_slot free xs) (sym e) f;
        dead_ends = subst (λ xs. LeadsTo (next_by dead_link rs) no_slot dead xs) (sym g) d;
      };
      seen = λ i. record {
        slots = map slot_of rs ++ replicate (slots - length rs) Vacant;
        free = e i ++ range_with_len (length rs) (slots - length rs);
        dead = g i;
      };
    }

-- a record that is written with no link to or from it
pub rewritten : {w : ℕ} (rs : List (Record w)) (free dead slots capacity k : ℕ) (r : Record w) → AreKept rs free dead slots capacity → k < length rs → (In k (members vacant_link rs free) → ⊥) → (In k (members dead_link rs dead) → ⊥)
    → Becomes (set rs k r) free dead slots capacity (with_slot (lists_of rs free dead slots) k (slot_of r))
rewritten rs free dead slots capacity k r kept low f d =
    let b = becomes (set rs k r) free dead slots capacity _ _ kept.few (rw (length-set rs k r) kept.some) kept.room
    (led_elsewhere vacant_link rs k r free _ f kept.free_ends)
    (led_elsewhere dead_link rs k r dead _ d kept.dead_ends) in
    record {
      kept = b.kept;
      seen = b.seen ∙ (λ i. record {
        slots = slots_written rs k r slots low i;
        free = members vacant_link rs free ++ range_with_len (length-set rs k r i) (slots - length-set rs k r i);
        dead = members dead_link rs dead;
      });
    }

-- only records have lines
past_none : {w : ℕ} (ss : List (Slot w)) (n k : ℕ) → length ss ≤ k → line_in (slice_get (ss ++ replicate n Vacant) k) ≡ None
past_none [] zero k h = refl
past_none [] (suc n) zero h = refl
past_none [] (suc n) (suc k) h = past_none [] n k (omega arith)
past_none (s ∷ ss) n zero h = absurd (omega arith)
past_none (s ∷ ss) n (suc k) h = past_none ss n k (omega arith)

module _ {w : ℕ} (rs : List (Record w)) (free dead slots capacity k : ℕ) (kept : AreKept rs free dead slots capacity) where
  seen_slots : List (Slot w)
  seen_slots = map slot_of rs ++ replicate (slots - length rs) Vacant

  pub taken_low : IsSome (line_at (lists_of rs free dead slots) k) → k < length rs
  taken_low h = elim (cases_lt k (length rs)) [
    | inl low ↦ low
    | inr high ↦ absurd (let e = past_none (map slot_of rs) (slots - length rs) k (rw (length-map rs slot_of) high) in let g = subst (λ o. IsSome o) e h in cc)
  ]

  pub vacant_low : slice_get (lists_of rs free dead slots).slots k ≡ Some Vacant → (In k (lists_of rs free dead slots).free → ⊥) → k < length rs
  vacant_low h off = elim (cases_lt k (length rs)) [
    | inl low ↦ low
    | inr high ↦ absurd (off (In-append_right k (members vacant_link rs free) (range_with_len (length rs) (slots - length rs)) (In-range k (length rs) (slots - length rs) high (in_all high))))
  ]
    where
      in_all : length rs ≤ k → k < length rs + (slots - length rs)
      in_all high =
          let a = slice_get_within (map slot_of rs ++ replicate (slots - length rs) Vacant) k Vacant h in
          let b = length-append (map slot_of rs) (replicate (slots - length rs) Vacant) in
          let c = length-map rs slot_of in
          let d = length-replicate {A = Slot w} (slots - length rs) Vacant in
          omega (arith, a, b, c, d)

  -- the slot of a record
  pub slot_seen : k < length rs → slice_get (lists_of rs free dead slots).slots k ≡ option_map slot_of (slice_get rs k)
  slot_seen low = get_append (map slot_of rs) (replicate (slots - length rs) Vacant) k (rw (length-map rs slot_of) low) ∙ slice_get-map slot_of rs k

  vacant_unlinked : (content : Content w) (s : State) → slot_by content s ≡ Vacant → IsSome (dead_link s) → ⊥
  vacant_unlinked content (state.Vacant next) e h = cc
  vacant_unlinked content (state.Counted n) e h = cc
  vacant_unlinked content (state.Dead next) e h = cc

  taken_unlinked : (content : Content w) (s : State) → IsSome (line_in (Some (slot_by content s))) → IsSome (vacant_link s) → ⊥
  taken_unlinked content (state.Vacant next) e h = cc
  taken_unlinked content (state.Counted n) e h = cc
  taken_unlinked content (state.Dead next) e h = cc

  vacant_case : (o : Option (Record w)) → option_map slot_of o ≡ Some Vacant → IsSome (link_in dead_link o) → ⊥
  vacant_case None e h = cc
  vacant_case (Some r) e h = vacant_unlinked r.content r.state (let f : slot_of r ≡ Vacant = cc in f) h

  taken_case : (o : Option (Record w)) → IsSome (line_in (option_map slot_of o)) → IsSome (link_in vacant_link o) → ⊥
  taken_case None e h = cc
  taken_case (Some r) e h = taken_unlinked r.content r.state e h

  -- a vacant slot is not dead, and a taken one is not free
  pub vacant_alive : k < length rs → slice_get (lists_of rs free dead slots).slots k ≡ Some Vacant → In k (members dead_link rs dead) → ⊥
  vacant_alive low h i = vacant_case (slice_get rs k) (sym (slot_seen low) ∙ h) (member_links dead_link rs (fits kept) k dead i kept.dead_ends)
    where
      fits : AreKept rs free dead slots capacity → length rs ≤ no_slot
      fits kept = let a = kept.few in let b = kept.some in omega (arith, a, b)

  pub taken_held : k < length rs → IsSome (line_at (lists_of rs free dead slots) k) → In k (members vacant_link rs free) → ⊥
  taken_held low h i = taken_case (slice_get rs k) (subst (λ o. IsSome (line_in o)) (slot_seen low) h) (member_links vacant_link rs (fits kept) k free i kept.free_ends)
    where
      fits : AreKept rs free dead slots capacity → length rs ≤ no_slot
      fits kept = let a = kept.few in let b = kept.some in omega (arith, a, b)

-- What is known of the slot that leaves the free list, or the dead one.
use Rattle.std.proofs.Common.{◌≡◌, ℕ, suc, zero, eqb, ◌+◌, ◌<◌, ◌≤◌, List, ◌∷◌, length, set, Option, Some, None, IsSome, refl, sym, ap, ◌∙◌, subst, arith}
use Rattle.std.specs.Prelude.{slice_get}
use Rattle.std.proofs.lemmas.Bool.{ne_eqb}
use Rattle.std.proofs.lemmas.List.{set-set}
use Rattle.std.proofs.lemmas.Option.{slice_get_within}
use Rattle.hic_word.specs.declared.Line.{Line}
use Rattle.hic_word.specs.Lists.{In, times}
use Rattle.hic_word.proofs.callers.Holds.{hit-same, times-cons}
use Rattle.line_mem.specs.declared.slots.Slot.{Slot}
use Rattle.line_mem.specs.declared.slots.Slot.TheVariants.{Vacant, Taken}
use Rattle.line_mem.specs.Places.{dead_at}
use Rattle.line_mem.specs.Sound.{one_if, one_if_dead}
use Rattle.line_slots.specs.SlotLists.{SlotLists, count_in, line_at, line_in, with_dead, with_free, with_slot, IsVacant, Recounts}
use Rattle.line_slots.proofs.ListReads.{get_set_same}
use Rattle.line_store.specs.Stored.{one_if_vacant, AreListed}
use Rattle.line_store.specs.Taking.{GivesSlot, TakesSlot}
use Rattle.line_store.proofs.ListedSteps.{In-times}
use Rattle.line_store.proofs.SlotViews.{count_seen, taken_by_count}

vacant_by : {w : ℕ} (o : Option (Slot w)) → 1 ≤ one_if_vacant o → o ≡ Some Vacant
vacant_by None h = absurd (omega arith)
vacant_by (Some Vacant) h = refl
vacant_by (Some (Taken line n)) h = absurd (omega arith)

once : {w : ℕ} (o : Option (Slot w)) → one_if_vacant o ≤ 1
once None = omega arith
once (Some Vacant) = omega arith
once (Some (Taken line n)) = omega arith

zero_count : (o : Option ℕ) → 1 ≤ one_if_dead o → o ≡ Some 0
zero_count None h = absurd (omega arith)
zero_count (Some zero) h = refl
zero_count (Some (suc n)) h = absurd (let a : one_if (eqb (suc n) 0) ≡ 0 = ap one_if (ne_eqb (suc n) 0 (λ e. omega arith)) in omega (arith, a, h))

once_dead : (o : Option ℕ) → one_if_dead o ≤ 1
once_dead None = omega arith
once_dead (Some zero) = omega arith
once_dead (Some (suc n)) = let a : one_if (eqb (suc n) 0) ≡ 0 = ap one_if (ne_eqb (suc n) 0 (λ e. omega arith)) in omega (arith, a)

dead_seen : {w : ℕ} (ss : List (Slot w)) (k : ℕ) → dead_at ss k ≡ one_if_dead (count_in (slice_get ss k))
dead_seen ss k = ap one_if_dead (count_seen ss k)

-- the first free slot
module _ {w : ℕ} (old popped : SlotLists w) (k : ℕ) (h : AreListed old) (e : old ≡ with_free popped (k ∷ popped.free)) where
  same_slots : old.slots ≡ popped.slots
  same_slots = ap (λ (v : SlotLists _). v.slots) e

  free_first : times k old.free ≡ 1 + times k popped.free
  free_first = let a = ap (λ (v : SlotLists _). times k v.free) e in let b = times-cons k k popped.free in let c = hit-same k k refl in omega (arith, a, b, c)

  old_vacant : slice_get old.slots k ≡ Some Vacant
  old_vacant = vacant_by (slice_get old.slots k) (let a = h.free k in let b = free_first in omega (arith, a, b))

  pub popped_vacant : IsVacant popped k
  popped_vacant = ap (λ ss. slice_get ss k) (sym same_slots) ∙ old_vacant

  pub popped_free : In k popped.free → ⊥
  popped_free i = let a = h.free k in let b = free_first in let c = In-times k popped.free i in let d = once (slice_get old.slots k) in omega (arith, a, b, c, d)

  pub popped_alive : In k popped.dead → ⊥
  popped_alive i =
      let a = h.dead k in
      let b = ap (λ (v : SlotLists _). times k v.dead) e in
      let c = In-times k popped.dead i in
      let d = dead_seen old.slots k in
      let f = ap (λ o. one_if_dead (count_in o)) old_vacant in
      omega (arith, a, b, c, d, f)

  -- it has the line, with the count 0 and then with one hold
  module _ (line : Line w) (put : SlotLists w) (p : put ≡ with_slot popped k (Taken line 0)) where
    low : k < length popped.slots
    low = slice_get_within popped.slots k Vacant popped_vacant

    put_there : slice_get put.slots k ≡ Some (Taken line 0)
    put_there = ap (λ (v : SlotLists _). slice_get v.slots k) p ∙ get_set_same popped.slots k (Taken line 0) low

    pub put_line : IsSome (line_at put k)
    put_line = subst (λ (o : Option (Slot _)). IsSome (line_in o)) (sym put_there) refl

    pub put_alive : In k put.dead → ⊥
    put_alive i = popped_alive (subst (λ (v : SlotLists _). In k v.dead) p i)

    pub takes : (new : SlotLists w) → Recounts put k 1 new → TakesSlot old k line new
    takes new r =
        let same : r.0 ≡ line = one_line r.0 line (sym r.1 ∙ ap line_in put_there) in
        let seen : new ≡ with_slot (with_slot popped k (Taken line 0)) k (Taken line 1) = r.2 ∙ ap (λ l. with_slot put k (Taken l 1)) same ∙ ap (λ v. with_slot v k (Taken line 1)) p in
        record {
          free = ap (λ (v : SlotLists _). v.free) e ∙ ap (λ (v : SlotLists _). k ∷ v.free) (sym seen);
          vacant = old_vacant;
          slots = ap (λ (v : SlotLists _). v.slots) seen ∙ set-set popped.slots k (Taken line 0) (Taken line 1) ∙ ap (λ ss. set ss k (Taken line 1)) (sym same_slots);
          dead = ap (λ (v : SlotLists _). v.dead) seen ∙ sym (ap (λ (v : SlotLists _). v.dead) e);
        }
      where
        one_line : (a b : Line w) → ◌≡◌ {A = Option (Line w)} (Some a) (Some b) → a ≡ b
        one_line a b f = cc

-- the first dead slot
module _ {w : ℕ} (old popped : SlotLists w) (k : ℕ) (h : AreListed old) (e : old ≡ with_dead popped (k ∷ popped.dead)) where
  slots_same : old.slots ≡ popped.slots
  slots_same = ap (λ (v : SlotLists _). v.slots) e

  dead_first : times k old.dead ≡ 1 + times k popped.dead
  dead_first = let a = ap (λ (v : SlotLists _). times k v.dead) e in let b = times-cons k k popped.dead in let c = hit-same k k refl in omega (arith, a, b, c)

  count_zero : count_in (slice_get popped.slots k) ≡ Some 0
  count_zero = ap (λ ss. count_in (slice_get ss k)) (sym slots_same) ∙ zero_count (count_in (slice_get old.slots k)) (let a = h.dead k in let b = dead_first in let c = dead_seen old.slots k in omega (arith, a, b, c))

  pub dead_line : IsSome (line_at popped k)
  dead_line = let t = taken_by_count popped.slots k 0 count_zero in subst (λ (o : Option (Slot _)). IsSome (line_in o)) (sym t.there) refl

  pub dead_once : In k popped.dead → ⊥
  dead_once i = let a = h.dead k in let b = dead_first in let c = In-times k popped.dead i in let d = dead_seen old.slots k in let f = once_dead (count_in (slice_get old.slots k)) in omega (arith, a, b, c, d, f)

  -- its line is taken out
  module _ (line : Line w) (wiped : SlotLists w) (l : line_at popped k ≡ Some line) (out : wiped ≡ with_slot popped k Vacant) where
    taken_line : slice_get popped.slots k ≡ Some (Taken line 0)
    taken_line =
        let t = taken_by_count popped.slots k 0 count_zero in
        let same : t.line ≡ line = one_line t.line line (sym (ap line_in t.there) ∙ l) in
        t.there ∙ ap (λ x. Some (Taken x 0)) same
      where
        one_line : (a b : Line w) → ◌≡◌ {A = Option (Line w)} (Some a) (Some b) → a ≡ b
        one_line a b f = cc

    pub wiped_vacant : IsVacant wiped k
    wiped_vacant = ap (λ (v : SlotLists _). slice_get v.slots k) out ∙ get_set_same popped.slots k Vacant (slice_get_within popped.slots k (Taken line 0) taken_line)

    pub wiped_taken : In k wiped.free → ⊥
    wiped_taken i =
        let a = h.free k in
        let b = In-times k old.free (subst (λ (v : SlotLists _). In k v.free) (sym e) (subst (λ (v : SlotLists _). In k v.free) out i)) in
        let c = ap one_if_vacant (ap (λ ss. slice_get ss k) slots_same ∙ taken_line) in
        omega (arith, a, b, c)

    pub gives : (new : SlotLists w) → new ≡ with_free wiped (k ∷ wiped.free) → GivesSlot old k line new
    gives new f = record {
      dead = ap (λ (v : SlotLists _). v.dead) e ∙ ap (λ (ds : List ℕ). k ∷ ds) (sym (ap (λ (v : SlotLists _). v.dead) f ∙ ap (λ (v : SlotLists _). v.dead) out));
      taken = ap (λ ss. slice_get ss k) slots_same ∙ taken_line;
      slots = ap (λ (v : SlotLists _). v.slots) f ∙ ap (λ (v : SlotLists _). v.slots) out ∙ ap (λ ss. set ss k Vacant) (sym slots_same);
      free = ap (λ (v : SlotLists _). v.free) f ∙ ap (λ (v : SlotLists _). k ∷ v.free) out ∙ ap (λ (v : SlotLists _). k ∷ v.free) (sym e);
    }

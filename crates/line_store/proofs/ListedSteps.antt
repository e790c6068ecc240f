-- The free slots and the dead ones after each step.
use Rattle.std.proofs.Common.{◌≡◌, ℕ, ◌<◌, ◌≤◌, Bool, true, false, cond, eqb, List, [], ◌∷◌, ◌++◌, length, set, Some, refl, sym, ap, ◌∙◌, arith, inl, inr}
use Rattle.std.specs.Prelude.{slice_get}
use Rattle.std.proofs.lemmas.Bool.{cases_eq, eq-eqb, eqb-true, ne_eqb}
use Rattle.std.proofs.lemmas.Option.{slice_get_within}
use Rattle.hic_word.specs.declared.Line.{Line}
use Rattle.hic_word.specs.Lists.{In, times}
use Rattle.hic_word.proofs.callers.Holds.{hit-other, hit-same, times-append, times-cons}
use Rattle.line_mem.specs.declared.slots.Slot.{Slot}
use Rattle.line_mem.specs.declared.slots.Slot.TheVariants.{Vacant, Taken}
use Rattle.line_mem.specs.Places.{count_in as count_here, counts_of}
use Rattle.line_mem.proofs.DeadIds.{dead_held, dead_popped, dead_sunk}
use Rattle.line_mem.proofs.Seen.{counts-set, slots-clear}
use Rattle.line_mem.proofs.StoreSteps.{put_each}
use Rattle.line_slots.specs.SlotLists.{SlotLists}
use Rattle.line_slots.proofs.ListReads.{get_set_other, get_set_same}
use Rattle.line_store.specs.Stored.{one_if_vacant, AreListed}
use Rattle.line_store.specs.Taking.{GivesSlot, TakesSlot}
use Rattle.line_store.proofs.SlotViews.{count_is, no_line}

-- vacancies after a write
vacancies : {w : ℕ} (ss : List (Slot w)) (k q : ℕ) (s : Slot w) → k < length ss → one_if_vacant (slice_get (set ss k s) q) ≡ cond (eqb q k) (one_if_vacant (Some s)) (one_if_vacant (slice_get ss q))
vacancies ss k q s low = elim (cases_eq q k) [
  | inl e ↦ ap (λ j. one_if_vacant (slice_get (set ss k s) j)) e ∙ ap one_if_vacant (get_set_same ss k s low) ∙ sym (ap (λ t. cond t (one_if_vacant (Some s)) (one_if_vacant (slice_get ss q))) (eq-eqb q k e))
  | inr n ↦ ap one_if_vacant (get_set_other ss k q s n) ∙ sym (ap (λ t. cond t (one_if_vacant (Some s)) (one_if_vacant (slice_get ss q))) (ne_eqb q k n))
]

still_taken : {w : ℕ} (ss : List (Slot w)) (k q : ℕ) (line : Line w) (n m : ℕ) → slice_get ss k ≡ Some (Taken line n) → one_if_vacant (slice_get (set ss k (Taken line m)) q) ≡ one_if_vacant (slice_get ss q)
still_taken ss k q line n m e = vacancies ss k q (Taken line m) (slice_get_within ss k (Taken line n) e) ∙ go (eqb q k) refl
  where
    go : (t : Bool) → eqb q k ≡ t → cond t 0 (one_if_vacant (slice_get ss q)) ≡ one_if_vacant (slice_get ss q)
    go true f = sym (ap (λ j. one_if_vacant (slice_get ss j)) (eqb-true q k f) ∙ ap one_if_vacant e)
    go false f = refl

-- a count that stays above 0
pub listed_held : {w : ℕ} (old new : SlotLists w) (k : ℕ) (line : Line w) (n m : ℕ) → AreListed old → slice_get old.slots k ≡ Some (Taken line n) → 1 ≤ n → 1 ≤ m → new.slots ≡ set old.slots k (Taken line m) → new.free ≡ old.free → new.dead ≡ old.dead → AreListed new
listed_held old new k line n m h e p r w f d = record {
  free = λ q. ap (times q) f ∙ h.free q ∙ sym (ap (λ ss. one_if_vacant (slice_get ss q)) w ∙ still_taken old.slots k q line n m e);
  dead = λ q. ap (times q) d ∙ h.dead q ∙ sym (dead_held (counts_of old.slots) (counts_of new.slots) k n m q (ap counts_of w ∙ counts-set old.slots k line m (slice_get_within old.slots k (Taken line n) e)) (count_is old.slots k line n e) p r);
}

turned : (q k : ℕ) (ns : List ℕ) → times q (k ∷ ns) ≡ times q (ns ++ k ∷ [])
turned q k ns = let a = times-cons q k ns in let b = times-append q ns (k ∷ []) in let c = times-cons q k [] in omega (arith, a, b, c)

-- the last hold is given up
pub listed_sunk : {w : ℕ} (old new : SlotLists w) (k : ℕ) (line : Line w) (n : ℕ) → AreListed old → slice_get old.slots k ≡ Some (Taken line n) → 1 ≤ n → new.slots ≡ set old.slots k (Taken line 0) → new.free ≡ old.free → new.dead ≡ k ∷ old.dead → AreListed new
listed_sunk old new k line n h e p w f d = record {
  free = λ q. ap (times q) f ∙ h.free q ∙ sym (ap (λ ss. one_if_vacant (slice_get ss q)) w ∙ still_taken old.slots k q line n 0 e);
  dead = λ q. ap (times q) d ∙ turned q k old.dead ∙ dead_sunk (counts_of old.slots) (counts_of new.slots) k n old.dead (ap counts_of w ∙ counts-set old.slots k line 0 (slice_get_within old.slots k (Taken line n) e)) (count_is old.slots k line n e) p h.dead q;
}

-- a slot is taken
pub listed_taken : {w : ℕ} (old new : SlotLists w) (k : ℕ) (line : Line w) → AreListed old → TakesSlot old k line new → AreListed new
listed_taken old new k line h t = record {
  free = λ q.
      let a = h.free q in
      let b = ap (times q) t.free in
      let c = times-cons q k new.free in
      let d = ap (λ ss. one_if_vacant (slice_get ss q)) t.slots ∙ vacancies old.slots k q (Taken line 1) low in
      elim (cases_eq q k) [
        | inl e ↦
            let f : one_if_vacant (slice_get old.slots q) ≡ 1 = ap (λ j. one_if_vacant (slice_get old.slots j)) e ∙ ap one_if_vacant t.vacant in
            let g = hit-same q k e in
            let i : cond (eqb q k) 0 (one_if_vacant (slice_get old.slots q)) ≡ 0 = ap (λ s. cond s 0 (one_if_vacant (slice_get old.slots q))) (eq-eqb q k e) in
            omega (arith, a, b, c, d, f, g, i)
        | inr n ↦
            let g = hit-other q k n in
            let i : cond (eqb q k) 0 (one_if_vacant (slice_get old.slots q)) ≡ one_if_vacant (slice_get old.slots q) = ap (λ s. cond s 0 (one_if_vacant (slice_get old.slots q))) (ne_eqb q k n) in
            omega (arith, a, b, c, d, g, i)
      ];
  dead = λ q. ap (times q) t.dead ∙ h.dead q ∙ sym (put_each old.slots old.slots old.slots new.slots k refl refl (no_line old.slots k t.vacant) (ap counts_of t.slots ∙ counts-set old.slots k line 1 low) q);
}
  where
    low : k < length old.slots
    low = slice_get_within old.slots k Vacant t.vacant

-- a slot is given back
pub listed_given : {w : ℕ} (old new : SlotLists w) (k : ℕ) (line : Line w) → AreListed old → GivesSlot old k line new → AreListed new
listed_given old new k line h t = record {
  free = λ q.
      let a = h.free q in
      let b = ap (times q) t.free in
      let c = times-cons q k old.free in
      let d = ap (λ ss. one_if_vacant (slice_get ss q)) t.slots ∙ vacancies old.slots k q Vacant low in
      elim (cases_eq q k) [
        | inl e ↦
            let f : one_if_vacant (slice_get old.slots q) ≡ 0 = ap (λ j. one_if_vacant (slice_get old.slots j)) e ∙ ap one_if_vacant t.taken in
            let g = hit-same q k e in
            let i : cond (eqb q k) 1 (one_if_vacant (slice_get old.slots q)) ≡ 1 = ap (λ s. cond s 1 (one_if_vacant (slice_get old.slots q))) (eq-eqb q k e) in
            omega (arith, a, b, c, d, f, g, i)
        | inr n ↦
            let g = hit-other q k n in
            let i : cond (eqb q k) 1 (one_if_vacant (slice_get old.slots q)) ≡ one_if_vacant (slice_get old.slots q) = ap (λ s. cond s 1 (one_if_vacant (slice_get old.slots q))) (ne_eqb q k n) in
            omega (arith, a, b, c, d, g, i)
      ];
  dead = λ q. dead_popped (counts_of old.slots) (counts_of new.slots) k (new.dead ++ k ∷ []) new.dead (ap counts_of t.slots ∙ slots-clear count_here old.slots k Vacant low refl) refl (λ j. sym (turned j k new.dead) ∙ sym (ap (times j) t.dead) ∙ h.dead j) q;
}
  where
    low : k < length old.slots
    low = slice_get_within old.slots k (Taken line 0) t.taken

-- members of the lists
pub In-times : (k : ℕ) (ns : List ℕ) → In k ns → 1 ≤ times k ns
In-times k [] i = absurd i
In-times k (x ∷ ns) (inl e) = let a = times-cons k x ns in let b = hit-same k x (sym e) in omega (arith, a, b)
In-times k (x ∷ ns) (inr i) = let a = times-cons k x ns in let b = In-times k ns i in omega (arith, a, b)

-- What each call of a store makes of it.
use Rattle.std.proofs.Common.{◌≡◌, ℕ, ◌+◌, ◌-◌, ◌<◌, ◌≤◌, ◌^◌, eqb, true, List, ◌∷◌, length, set, Option, Some, None, IsSome, sym, ap, ◌∙◌, subst, arith, unwrap_or}
use Rattle.std.specs.Prelude.{slice_get}
use Rattle.std.proofs.lemmas.Bool.{eq-eqb, ne_eqb}
use Rattle.std.proofs.lemmas.List.{length-set}
use Rattle.std.proofs.lemmas.Option.{slice_get_within}
use Rattle.hic_word.specs.declared.Line.{Line}
use Rattle.hic_word.specs.declared.Word.{Word}
use Rattle.hic_word.specs.Lists.{In}
use Rattle.hic_word.specs.Memory.{count_at as holds}
use Rattle.hic_word.specs.MemorySteps.{with_count, with_hold, with_less, without_hold}
use Rattle.line_mem.specs.declared.slots.Slot.{Slot}
use Rattle.line_mem.specs.declared.slots.Slot.TheVariants.{Vacant, Taken}
use Rattle.line_mem.specs.Looks.{LooksUpTo}
use Rattle.line_mem.specs.Places.{dead_at, line_of}
use Rattle.line_mem.specs.Sound.{one_if, one_if_dead, HasWord}
use Rattle.line_mem.proofs.SlotCounts.{taken_taken}
use Rattle.line_slots.specs.ChainLists.{ChainLists, entries, HasSlot}
use Rattle.line_slots.specs.SlotLists.{SlotLists, count_at, count_in, line_at, with_dead, word_in, Recounts}
use Rattle.line_slots.proofs.ListReads.{get_set_same}
use Rattle.line_store.specs.Filed.{key_for}
use Rattle.line_store.specs.Search.{alike}
use Rattle.line_store.specs.Stored.{memory_of, AreListed, AreStored}
use Rattle.line_store.specs.StoredSound.{stored_is_sound}
use Rattle.line_store.specs.Taking.{GivesSlot}
use Rattle.line_store.proofs.BucketBound.{beside_few}
use Rattle.line_slots.proofs.Counts.{in_slot}
use Rattle.line_store.proofs.FiledLaws.{entry_of}
use Rattle.line_store.proofs.Interning.{line_entered, looks_beside}
use Rattle.line_store.proofs.ListedSteps.{In-times, listed_held, listed_sunk}
use Rattle.line_store.proofs.SlotViews.{count_seen, counted_line, held_count, line_at_words, line_seen, no_line, read_taken, taken_by_line, words_of}
use Rattle.line_store.proofs.StoreSteps.{memory_recounted, memory_sunk, recounted, stored_recounted, Recounted}

-- a line that is live has a slot
pub live_slot : {w : ℕ} (slots : SlotLists w) (id k : ℕ) → k ≡ id → IsSome (line_of slots.slots id) → IsSome (line_at slots k)
live_slot slots id k e h = subst (λ j. IsSome (line_at slots j)) (sym e) (taken_by_line slots.slots id h)

pub held_slot : {w : ℕ} (slots : SlotLists w) (id k : ℕ) → k ≡ id → 1 ≤ holds (memory_of slots) id → IsSome (line_at slots k)
held_slot slots id k e h = let (n, c, s) = held_count slots.slots id h in subst (λ j. IsSome (line_at slots j)) (sym e) (counted_line slots.slots id n c)

pub slot_holds : {w : ℕ} (slots : SlotLists w) (id k n : ℕ) → k ≡ id → count_at slots k ≡ Some n → holds (memory_of slots) id ≡ n
slot_holds slots id k n e h = ap (λ (o : Option ℕ). unwrap_or o 0) (count_seen slots.slots id ∙ ap (λ j. count_in (slice_get slots.slots j)) (sym e) ∙ h)

-- and is not dead
pub held_alive : {w : ℕ} (slots : SlotLists w) (id k : ℕ) → AreListed slots → k ≡ id → 1 ≤ holds (memory_of slots) id → In k slots.dead → ⊥
held_alive slots id k listed e h i =
    let (n, c, s) = held_count slots.slots id h in
    let a = In-times k slots.dead i in
    let b = listed.dead k in
    let d : dead_at slots.slots k ≡ one_if_dead (Some n) = ap (dead_at slots.slots) e ∙ ap one_if_dead (count_seen slots.slots id ∙ c) in
    let f : one_if (eqb n 0) ≡ 0 = ap one_if (ne_eqb n 0 (λ z. omega (arith, h, s, z))) in
    omega (arith, a, b, d, f)

-- what is read of a line
pub line_read : {w : ℕ} (slots : SlotLists w) (id k : ℕ) (line : Line w) → k ≡ id → line_at slots k ≡ Some line → line_of slots.slots id ≡ Some line.w
line_read slots id k line e h = ap (line_of slots.slots) (sym e) ∙ line_at_words slots.slots k line h

pub word_read : {w : ℕ} (slots : SlotLists w) (id k place : ℕ) (word : Word) → k ≡ id → word_in (line_at slots k) place ≡ Some word → HasWord (line_of slots.slots id) place word
word_read {w} slots id k place word e h =
    subst (λ o. HasWord o place word) (sym (ap (line_of slots.slots) (sym e) ∙ line_seen slots.slots k)) (go (line_at slots k) h)
  where
    go : (o : Option (Line w)) → word_in o place ≡ Some word → HasWord (words_of o) place word
    go None f = cc
    go (Some line) f = f

-- another count
module _ {w : ℕ} (old new : SlotLists w) (chains : ChainLists) (number live id k j n m : ℕ) (stored : AreStored old chains number live) (e : k ≡ id) (f : j ≡ id) (h : count_at old k ≡ Some n) (r : Recounts old j m new) (p : 1 ≤ holds (memory_of old) id) where
  at : Recounted old new id n m
  at = recounted old new id n m (subst (λ i. count_at old i ≡ Some n) e h) (subst (λ i. Recounts old i m new) f r)

  pub was : holds (memory_of old) id ≡ n
  was = slot_holds old id k n e h

  pub some : 1 ≤ n
  some = omega (arith, was, p)

  slots_are : new.slots ≡ set old.slots id (Taken at.line m)
  slots_are = ap (λ (v : SlotLists _). v.slots) at.seen

  free_is : new.free ≡ old.free
  free_is = ap (λ (v : SlotLists _). v.free) at.seen

  dead_is : new.dead ≡ old.dead
  dead_is = ap (λ (v : SlotLists _). v.dead) at.seen

  pub same_length_then : length new.slots ≡ length old.slots
  same_length_then = ap length slots_are ∙ length-set old.slots id (Taken at.line m)

  pub held_stored : 1 ≤ m → AreStored new chains number live
  held_stored q = stored_recounted old new chains number live id at.line n m stored at.there slots_are (listed_held old new id at.line n m stored.listed at.there some q slots_are free_is dead_is)

  pub held_memory : m ≡ n + 1 → memory_of new ≡ with_hold (memory_of old) id
  held_memory q = memory_recounted old new id at.line n m at.there slots_are dead_is ∙ ap (with_count (memory_of old) id) (q ∙ ap (λ x. x + 1) (sym was))

  pub less_memory : m ≡ n - 1 → (n ≡ 1 → ⊥) → memory_of new ≡ without_hold (memory_of old) id
  less_memory q many =
      memory_recounted old new id at.line n m at.there slots_are dead_is
      ∙ ap (with_count (memory_of old) id) (q ∙ ap (λ x. x - 1) (sym was))
      ∙ sym (ap (λ t. with_less t (memory_of old) id (holds (memory_of old) id - 1)) (ap (λ x. eqb x 1) was ∙ ne_eqb n 1 many))

  -- the last hold is given up
  module _ (dead : SlotLists w) (i : ℕ) (g : i ≡ id) (zero_left : m ≡ 0) (d : dead ≡ with_dead new (i ∷ new.dead)) where
    slots_then : dead.slots ≡ set old.slots id (Taken at.line 0)
    slots_then = ap (λ (v : SlotLists _). v.slots) d ∙ slots_are ∙ ap (λ x. set old.slots id (Taken at.line x)) zero_left

    free_then : dead.free ≡ old.free
    free_then = ap (λ (v : SlotLists _). v.free) d ∙ free_is

    dead_then : dead.dead ≡ id ∷ old.dead
    dead_then = ap (λ (v : SlotLists _). v.dead) d ∙ ap (λ x. x ∷ new.dead) g ∙ ap (λ ds. id ∷ ds) dead_is

    pub sunk_length : length dead.slots ≡ length old.slots
    sunk_length = ap length slots_then ∙ length-set old.slots id (Taken at.line 0)

    pub sunk_stored : AreStored dead chains number live
    sunk_stored = stored_recounted old dead chains number live id at.line n 0 stored at.there slots_then (listed_sunk old dead id at.line n stored.listed at.there some slots_then free_then dead_then)

    pub sunk_memory : n ≡ 1 → memory_of dead ≡ without_hold (memory_of old) id
    sunk_memory one =
        let less : 0 ≡ holds (memory_of old) id - 1 = omega (arith, was, one) in
        memory_sunk old dead id at.line n at.there slots_then dead_then
        ∙ ap (with_less true (memory_of old) id) less
        ∙ sym (ap (λ t. with_less t (memory_of old) id (holds (memory_of old) id - 1)) (eq-eqb (holds (memory_of old) id) 1 (was ∙ one)))

  pub uncounted : (i : ℕ) → i ≡ id → m ≡ 0 → count_at new i ≡ Some 0
  uncounted i g zero_left =
      ap (λ x. count_in (slice_get new.slots x)) g
      ∙ ap (λ ss. count_in (slice_get ss id)) slots_are
      ∙ ap count_in (get_set_same old.slots id (Taken at.line m) (slice_get_within old.slots id (Taken at.line n) at.there))
      ∙ ap (λ x. Some x) zero_left

  pub still_alive : (i : ℕ) → i ≡ id → In i new.dead → ⊥
  still_alive i g x = held_alive old id i stored.listed g p (subst (λ ds. In i ds) dead_is x)

-- a store of these slots
module _ {w : ℕ} (slots : SlotLists w) (chains : ChainLists) (number live : ℕ) (stored : AreStored slots chains number live) where
  -- a line has a slot in the index
  pub slot_entered : (k : ℕ) (line : Line w) (count : ℕ) → slice_get slots.slots k ≡ Some (Taken line count) → HasSlot k (entries chains)
  slot_entered k line count e = in_slot (entry_of number k line) (entries chains) (line_entered slots chains number live stored k line count e)

  -- a dead line is a line
  pub some_live : (new : SlotLists w) (slot : ℕ) (line : Line w) → GivesSlot slots slot line new → 1 ≤ live
  some_live new slot line t =
      let (low, read) = read_taken slots.slots slot (Taken line 0) t.taken in
      let a = stored.taken in
      let b = taken_taken slots.slots slot line 0 Vacant low read in
      omega (arith, a, b)

  -- what a search costs
  pub looks_within : (line : List Word) (key old new : ℕ) → key ≡ key_for number line → LooksUpTo (alike key (entries chains)) old new → LooksUpTo (length slots.slots) old new
  looks_within line key old new k found =
      let l = looks_beside slots chains number live stored line key old new k found in
      let a = beside_few (memory_of slots) line in
      let b = (stored_is_sound slots chains number live stored).room in
      (l.0, (let c = l.1 in omega (arith, a, b, c)))

  pub small_slot : (k : ℕ) (line : Line w) → line_at slots k ≡ Some line → k < 2 ^ 24
  small_slot k line h = (stored_is_sound slots chains number live stored).small k line.w (line_at_words slots.slots k line h)

-- a vacant slot has no line
pub not_there : {w : ℕ} (slots : List (Slot w)) (id k : ℕ) → id ≡ k → slice_get slots k ≡ Some Vacant → IsSome (line_of slots id) → ⊥
not_there slots id k e v h = gone (line_of slots id) (ap (line_of slots) e ∙ no_line slots k v) h
  where
    gone : (o : Option (List Word)) → o ≡ None → IsSome o → ⊥
    gone o f g = cc

-- What a search in a store finds, and when there is no room.
use Rattle.std.proofs.Common.{◌≡◌, ℕ, suc, zero, ◌≤◌, cond, List, [], ◌∷◌, length, set, Option, Some, None, IsSome, refl, sym, ap, ◌∙◌, subst, arith, MatchOption}
use Rattle.std.specs.Prelude.{count_by, slice_get, ◌==◌, ◌^◌}
use Rattle.std.specs.FinMap as map
use Rattle.std.proofs.lemmas.Bool.{eqb-true}
use Rattle.std.proofs.lemmas.List.{length-set}
use Rattle.std.proofs.lemmas.List.Sums.{count_by-le-length, sum_by-cons}
use Rattle.std.proofs.lemmas.Option.{slice_get_within}
use Rattle.hic_word.specs.declared.Line.{Line}
use Rattle.hic_word.specs.declared.Word.{Word}
use Rattle.hic_word.specs.Lists.{In}
use Rattle.hic_word.specs.Memory.{Memory, line_at as line_in_memory}
use Rattle.hic_word.specs.MemorySteps.{with_hold, with_line, without_holds, Interns, IsNew}
use Rattle.hic_word.specs.Names.{names_in}
use Rattle.line_mem.specs.declared.slots.Slot.{Slot}
use Rattle.line_mem.specs.declared.slots.Slot.TheVariants.{Vacant, Taken}
use Rattle.line_mem.specs.Looks.{LooksUpTo}
use Rattle.line_mem.specs.Places.{is_taken, line_of, lines_of}
use Rattle.line_mem.specs.PlacesSound.{len-lines}
use Rattle.line_mem.specs.Sound.{IsFull}
use Rattle.line_mem.proofs.SlotCounts.{put_taken}
use Rattle.line_slots.specs.declared.entry.Entry.{Entry}
use Rattle.line_slots.specs.ChainLists.{ChainLists, entries, uses}
use Rattle.line_slots.specs.SlotLists.{SlotLists, line_at, line_in}
use Rattle.line_store.specs.Bound.{lines_beside}
use Rattle.line_store.specs.Filed.{filed, key_for}
use Rattle.line_store.specs.Search.{alike, Finds}
use Rattle.line_store.specs.Stored.{memory_of, one_if_vacant, AreStored}
use Rattle.line_store.specs.Taking.{TakesSlot}
use Rattle.line_store.proofs.BucketBound.{beside_alike}
use Rattle.line_slots.proofs.Filling.{same_words}
use Rattle.line_slots.proofs.Counts.{count-In, same_back, same_in}
use Rattle.line_store.proofs.FiledLaws.{entry_of, filed_for, line_filed}
use Rattle.line_store.proofs.SlotViews.{line_there, no_line}

module _ {w : ℕ} (slots : SlotLists w) (chains : ChainLists) (number live : ℕ) (s : AreStored slots chains number live) where
  some_buckets : 1 ≤ number
  some_buckets = let a = s.least in let b = s.buckets in omega (arith, a, b)

  few_buckets : number ≤ 2 ^ 17
  few_buckets = let a = s.most in let b = s.buckets in omega (arith, a, b)

  -- each entry has a line
  pub entry_taken : (e : Entry) → In e (entries chains) → IsSome (line_at slots e.slot)
  entry_taken e i =
      let f = filed_for number 0 slots.slots e (same_in (entries chains) (filed number 0 slots.slots) s.entered e i) in
      let same : e.slot ≡ f.at = let a = f.slot in omega (arith, a) in
      subst (λ (o : Option (Slot _)). IsSome (line_in o)) (sym (ap (slice_get slots.slots) same ∙ f.there)) refl

  -- each line has an entry
  pub line_entered : (k : ℕ) (line : Line w) (count : ℕ) → slice_get slots.slots k ≡ Some (Taken line count) → In (entry_of number k line) (entries chains)
  line_entered k line count e = same_in (filed number 0 slots.slots) (entries chains) (same_back (entries chains) (filed number 0 slots.slots) s.entered) (entry_of number k line) (line_filed number 0 slots.slots k k line count (omega arith) e)

  -- a vacant slot has none
  pub vacant_unused : (k : ℕ) → slice_get slots.slots k ≡ Some Vacant → uses k (entries chains) ≡ 0
  vacant_unused k v = none (uses k (entries chains)) (λ h.
      let (e, i, t) = count-In (λ (x : Entry). x.slot == k) (entries chains) h in
      let same : e.slot ≡ k = eqb-true e.slot k t in
      let there = entry_taken e i in
      let vacant : line_at slots e.slot ≡ None = ap (λ j. line_in (slice_get slots.slots j)) same ∙ ap line_in v in
      gone (line_at slots e.slot) vacant there)
    where
      none : (n : ℕ) → (1 ≤ n → ⊥) → n ≡ 0
      none zero h = refl
      none (suc n) h = absurd (h (omega arith))

      gone : (o : Option (Line w)) → o ≡ None → IsSome o → ⊥
      gone o f h = cc

  -- a line that the search does not find is new
  pub search_new : (line : Line w) (key old new : ℕ) → key ≡ key_for number line.w → Finds slots (entries chains) key line None old new → (q : ℕ) → line_of slots.slots q ≡ Some line.w → ⊥
  search_new line key old new k f q h =
      let t = line_there slots.slots q line.w h in
      let same : t.line ≡ line = same_words t.line line t.same in
      let there : slice_get slots.slots q ≡ Some (Taken line t.count) = t.there ∙ ap (λ l. Some (Taken l t.count)) same in
      f.slot (entry_of number q line) (line_entered q line t.count there) (sym k) (ap line_in there)

  -- the bound on looks
  pub looks_beside : (line : List Word) (key old new : ℕ) → key ≡ key_for number line → LooksUpTo (alike key (entries chains)) old new → LooksUpTo (lines_beside (memory_of slots) line) old new
  looks_beside line key old new k l =
      let a = s.entered (λ e. e.key == key) in
      let b = beside_alike slots line number some_buckets few_buckets s.buckets in
      let c = ap (λ x. alike x (filed number 0 slots.slots)) k in
      (l.0, (let d = l.1 in omega (arith, a, b, c, d)))

  -- there is no room exactly where no slot is free
  pub none_free : (line : List Word) → slots.free ≡ [] → IsNew (memory_of slots) line → IsFull (memory_of slots) line
  none_free line e new = record {
    new = new;
    whole = len-lines slots.slots ∙ all_taken slots.slots (λ k. let a = s.listed.free k in let b = ap (λ ns. count_by (λ (x : ℕ). x == k) ns) e in omega (arith, a, b));
  }
    where
      all_taken : (ss : List (Slot w)) → ((k : ℕ) → one_if_vacant (slice_get ss k) ≡ 0) → count_by is_taken ss ≡ length ss
      all_taken [] h = refl
      all_taken (Vacant ∷ ss) h = absurd (let a = h 0 in omega (arith, a))
      all_taken (Taken line n ∷ ss) h = let a = sum_by-cons (λ x. cond {A = ℕ} (is_taken x) 1 0) (Taken line n) ss in let b = all_taken ss (λ k. h (suc k)) in omega (arith, a, b)

  pub some_free : (new : SlotLists w) (k : ℕ) (line : Line w) → TakesSlot slots k line new → map.len (lines_of slots.slots) ≡ length slots.slots → ⊥
  some_free new k line t whole =
      let low = slice_get_within slots.slots k Vacant t.vacant in
      let a = put_taken slots.slots k line low (no_line slots.slots k t.vacant) in
      let b = count_by-le-length is_taken (set slots.slots k (Taken line 1)) in
      let c = length-set slots.slots k (Taken line 1) in
      let d = len-lines slots.slots in
      omega (arith, a, b, c, d, whole)

-- what `intern` makes of the memory
pub interned_there : (m : Memory) (line : List Word) (id : ℕ) (new : Memory) → line_in_memory m id ≡ Some line → new ≡ without_holds (with_hold m id) (names_in line) → Interns m line id new
interned_there m line id new h e = subst (λ o. MatchOption o (IsNew m line × (new ≡ with_line m id line)) (λ there. (there ≡ line) × (new ≡ without_holds (with_hold m id) (names_in line)))) (sym h) (refl, e)

pub interned_new : (m : Memory) (line : List Word) (id : ℕ) (new : Memory) → line_in_memory m id ≡ None → IsNew m line → new ≡ with_line m id line → Interns m line id new
interned_new m line id new h n e = subst (λ o. MatchOption o (IsNew m line × (new ≡ with_line m id line)) (λ there. (there ≡ line) × (new ≡ without_holds (with_hold m id) (names_in line)))) (sym h) (n, e)

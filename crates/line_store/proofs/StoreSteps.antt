-- The lines of a store stay stored, and what each step makes of its memory.
use Rattle.std.proofs.Common.{◌≡◌, ℕ, ◌+◌, ◌-◌, ◌≤◌, true, [], ◌∷◌, length, set, Option, Some, refl, sym, ap, ◌∙◌, subst, arith}
use Rattle.std.specs.Prelude.{count_by, slice_get}
use Rattle.std.specs.FinMap as map
use Rattle.std.proofs.lemmas.List.{length-set}
use Rattle.std.proofs.lemmas.Option.{slice_get_within}
use Rattle.hic_word.specs.declared.Line.{Line}
use Rattle.hic_word.specs.MemorySteps.{with_count, with_less, with_line, without_line}
use Rattle.line_mem.specs.declared.slots.Slot.TheVariants.{Vacant, Taken}
use Rattle.line_mem.specs.Places.{count_in as count_here, counts_of, is_taken, line_in as line_here, line_of, lines_of, plain_layout}
use Rattle.line_mem.proofs.OneLine.{put_unique, take_unique, unique_kept}
use Rattle.line_mem.proofs.Seen.{counts-set, lines-same, slots-clear, slots-set}
use Rattle.line_mem.proofs.SlotCounts.{put_taken, taken_same, taken_taken}
use Rattle.line_slots.specs.ChainLists.{ChainLists, entries, SameEntries}
use Rattle.line_slots.specs.SlotLists.{SlotLists, count_at, line_in, with_slot, Recounts}
use Rattle.line_store.specs.Filed.{filed}
use Rattle.line_store.specs.Stored.{bucket_count, memory_of, AreListed, AreStored}
use Rattle.line_store.specs.Taking.{GivesSlot, TakesSlot}
use Rattle.line_slots.proofs.Counts.{count-cons}
use Rattle.line_store.proofs.FiledLaws.{entry_of, filed-set}
use Rattle.line_store.proofs.ListedSteps.{listed_given, listed_taken}
use Rattle.line_store.proofs.SlotViews.{no_line, read_taken, taken_by_count}

-- a slot that gets another count
pub record Recounted {w : ℕ} (old new : SlotLists w) (k n m : ℕ) : Type 0 where
  pub line : Line w
  pub there : slice_get old.slots k ≡ Some (Taken line n)
  pub seen : new ≡ with_slot old k (Taken line m)

pub recounted : {w : ℕ} (old new : SlotLists w) (k n m : ℕ) → count_at old k ≡ Some n → Recounts old k m new → Recounted old new k n m
recounted {w} old new k n m c r =
    let t = taken_by_count old.slots k n c in
    let same : r.0 ≡ t.line = one_line r.0 t.line (sym r.1 ∙ ap line_in t.there) in
    record { line = t.line; there = t.there; seen = r.2 ∙ ap (λ l. with_slot old k (Taken l m)) same }
  where
    one_line : (a b : Line w) → ◌≡◌ {A = Option (Line w)} (Some a) (Some b) → a ≡ b
    one_line a b e = cc

module _ {w : ℕ} (old new : SlotLists w) (chains : ChainLists) (number live k : ℕ) (line : Line w) where
  -- another count of a line
  pub stored_recounted : (n m : ℕ) → AreStored old chains number live → slice_get old.slots k ≡ Some (Taken line n) → new.slots ≡ set old.slots k (Taken line m) → AreListed new → AreStored new chains number live
  stored_recounted n m s e w listed =
      let len : length new.slots ≡ length old.slots = ap length w ∙ length-set old.slots k (Taken line m) in
      let (low, read) = read_taken old.slots k (Taken line n) e in
      record {
        least = subst (λ x. 1 ≤ x) (sym len) s.least;
        most = let a = s.most in omega (arith, a, len);
        buckets = s.buckets ∙ ap bucket_count (sym len);
        room = s.room ∙ sym len;
        listed = listed;
        entered = λ test.
            let a = s.entered test in
            let c = filed-set number test 0 old.slots k k (Taken line n) (Taken line m) (omega arith) e in
            let d = ap (λ ss. count_by test (filed number 0 ss)) w in
            omega (arith, a, c, d);
        taken = s.taken ∙ sym (ap (count_by is_taken) w ∙ taken_same old.slots k line n m Vacant low read);
        unique = unique_kept old.slots old.slots new.slots refl (ap lines_of w ∙ lines-same old.slots k line n m Vacant low read) s.unique;
      }

  -- a new line
  pub stored_taken : (chains' : ChainLists) → AreStored old chains number live → TakesSlot old k line new → SameEntries (entries chains') (entry_of number k line ∷ entries chains) → chains'.slots ≡ chains.slots
      → ((q : ℕ) → line_of old.slots q ≡ Some line.w → ⊥) → AreStored new chains' number (live + 1)
  stored_taken chains' s t enters room new_line =
      let w = t.slots in
      let len : length new.slots ≡ length old.slots = ap length w ∙ length-set old.slots k (Taken line 1) in
      let low = slice_get_within old.slots k Vacant t.vacant in
      record {
        least = subst (λ x. 1 ≤ x) (sym len) s.least;
        most = let a = s.most in omega (arith, a, len);
        buckets = s.buckets ∙ ap bucket_count (sym len);
        room = room ∙ s.room ∙ sym len;
        listed = listed_taken old new k line s.listed t;
        entered = λ test.
            let a = s.entered test in
            let c = filed-set number test 0 old.slots k k Vacant (Taken line 1) (omega arith) t.vacant in
            let d = ap (λ ss. count_by test (filed number 0 ss)) w in
            let f = enters test in
            let g = count-cons test (entry_of number k line) (entries chains) in
            let h = count-cons test (entry_of number k line) [] in
            omega (arith, a, c, d, f, g, h);
        taken = let a = s.taken in let b = ap (count_by is_taken) w in let c = put_taken old.slots k line low (no_line old.slots k t.vacant) in omega (arith, a, b, c);
        unique = put_unique old.slots old.slots old.slots new.slots k line.w refl refl new_line (ap lines_of w ∙ slots-set line_here old.slots k (Taken line 1) line.w low refl) s.unique;
      }

  -- a line that leaves
  pub stored_given : (chains' : ChainLists) → AreStored old chains number live → GivesSlot old k line new → SameEntries (entries chains) (entry_of number k line ∷ entries chains') → chains'.slots ≡ chains.slots → AreStored new chains' number (live - 1)
  stored_given chains' s t leaves room =
      let w = t.slots in
      let len : length new.slots ≡ length old.slots = ap length w ∙ length-set old.slots k Vacant in
      let (low, read) = read_taken old.slots k (Taken line 0) t.taken in
      record {
        least = subst (λ x. 1 ≤ x) (sym len) s.least;
        most = let a = s.most in omega (arith, a, len);
        buckets = s.buckets ∙ ap bucket_count (sym len);
        room = room ∙ s.room ∙ sym len;
        listed = listed_given old new k line s.listed t;
        entered = λ test.
            let a = s.entered test in
            let c = filed-set number test 0 old.slots k k (Taken line 0) Vacant (omega arith) t.taken in
            let d = ap (λ ss. count_by test (filed number 0 ss)) w in
            let f = leaves test in
            let g = count-cons test (entry_of number k line) (entries chains') in
            let h = count-cons test (entry_of number k line) [] in
            omega (arith, a, c, d, f, g, h);
        taken = let a = s.taken in let b = ap (count_by is_taken) w in let c = taken_taken old.slots k line 0 Vacant low read in omega (arith, a, b, c);
        unique = take_unique old.slots old.slots new.slots k refl (ap lines_of w ∙ slots-clear line_here old.slots k Vacant low refl) s.unique;
      }

-- the memory after each
module _ {w : ℕ} (old new : SlotLists w) (k : ℕ) (line : Line w) where
  pub memory_recounted : (n m : ℕ) → slice_get old.slots k ≡ Some (Taken line n) → new.slots ≡ set old.slots k (Taken line m) → new.dead ≡ old.dead → memory_of new ≡ with_count (memory_of old) k m
  memory_recounted n m e w d =
      let (low, read) = read_taken old.slots k (Taken line n) e in
      let a : lines_of new.slots ≡ lines_of old.slots = ap lines_of w ∙ lines-same old.slots k line n m Vacant low read in
      let b : counts_of new.slots ≡ map.insert (counts_of old.slots) k m = ap counts_of w ∙ counts-set old.slots k line m low in
      let c : length new.slots ≡ length old.slots = ap length w ∙ length-set old.slots k (Taken line m) in
      λ i. record { lines = a i; counts = b i; dead = d i; layout = plain_layout (c i) }

  pub memory_sunk : (n : ℕ) → slice_get old.slots k ≡ Some (Taken line n) → new.slots ≡ set old.slots k (Taken line 0) → new.dead ≡ k ∷ old.dead → memory_of new ≡ with_less true (memory_of old) k 0
  memory_sunk n e w d =
      let (low, read) = read_taken old.slots k (Taken line n) e in
      let a : lines_of new.slots ≡ lines_of old.slots = ap lines_of w ∙ lines-same old.slots k line n 0 Vacant low read in
      let b : counts_of new.slots ≡ map.insert (counts_of old.slots) k 0 = ap counts_of w ∙ counts-set old.slots k line 0 low in
      let c : length new.slots ≡ length old.slots = ap length w ∙ length-set old.slots k (Taken line 0) in
      λ i. record { lines = a i; counts = b i; dead = d i; layout = plain_layout (c i) }

  pub memory_taken : TakesSlot old k line new → memory_of new ≡ with_line (memory_of old) k line.w
  memory_taken t =
      let low = slice_get_within old.slots k Vacant t.vacant in
      let a : lines_of new.slots ≡ map.insert (lines_of old.slots) k line.w = ap lines_of t.slots ∙ slots-set line_here old.slots k (Taken line 1) line.w low refl in
      let b : counts_of new.slots ≡ map.insert (counts_of old.slots) k 1 = ap counts_of t.slots ∙ counts-set old.slots k line 1 low in
      let c : length new.slots ≡ length old.slots = ap length t.slots ∙ length-set old.slots k (Taken line 1) in
      λ i. record { lines = a i; counts = b i; dead = t.dead i; layout = plain_layout (c i) }

  pub memory_given : GivesSlot old k line new → memory_of new ≡ without_line (memory_of old) k new.dead
  memory_given t =
      let low = slice_get_within old.slots k (Taken line 0) t.taken in
      let a : lines_of new.slots ≡ map.remove (lines_of old.slots) k = ap lines_of t.slots ∙ slots-clear line_here old.slots k Vacant low refl in
      let b : counts_of new.slots ≡ map.remove (counts_of old.slots) k = ap counts_of t.slots ∙ slots-clear count_here old.slots k Vacant low refl in
      let c : length new.slots ≡ length old.slots = ap length t.slots ∙ length-set old.slots k Vacant in
      λ i. record { lines = a i; counts = b i; dead = new.dead; layout = plain_layout (c i) }

-- A store without a line.
use Rattle.std.proofs.Common.{◌≡◌, ℕ, suc, zero, ◌+◌, ◌<◌, ◌≤◌, [], length, refl, sym, ap, ◌∙◌, subst, arith}
use Rattle.std.specs.Prelude.{count_by, replicate, slice_get}
use Rattle.std.specs.List.{range_with_len}
use Rattle.std.proofs.lemmas.List.{length-replicate}
use Rattle.hic_word.specs.Lists.{times}
use Rattle.hic_word.specs.MemorySteps.{empty_memory}
use Rattle.hic_word.proofs.callers.Holds.{hit-other, hit-same, times-cons}
use Rattle.line_mem.specs.declared.slots.Slot.{Slot}
use Rattle.line_mem.specs.declared.slots.Slot.TheVariants.{Vacant}
use Rattle.line_mem.specs.Places.{is_taken, plain_layout}
use Rattle.line_mem.specs.Sound.{most_lines}
use Rattle.line_mem.proofs.EmptyStore.{none_count, none_counts, none_dead, none_lines, none_unique}
use Rattle.line_slots.specs.ChainLists.{ChainLists, entries}
use Rattle.line_slots.specs.SlotLists.{SlotLists, empty_lists}
use Rattle.line_store.specs.Filed.{filed}
use Rattle.line_store.specs.Stored.{bucket_count, memory_of, one_if_vacant, AreStored}

none_below : (k a n : ℕ) → k < a → times k (range_with_len a n) ≡ 0
none_below k a zero h = refl
none_below k a (suc n) h =
    let x = times-cons k a (range_with_len (a + 1) n) in
    let y = hit-other k a (λ e. omega arith) in
    let z = none_below k (a + 1) n (omega arith) in
    omega (arith, x, y, z)

all_free : (w n a j k : ℕ) → k ≡ a + j → times k (range_with_len a n) ≡ one_if_vacant {w = w} (slice_get (replicate n Vacant) j)
all_free w zero a j k e = refl
all_free w (suc n) a zero k e =
    let x = times-cons k a (range_with_len (a + 1) n) in
    let y = hit-same k a (omega (arith, e)) in
    let z = none_below k (a + 1) n (omega (arith, e)) in
    omega (arith, x, y, z)
all_free w (suc n) a (suc j) k e =
    let x = times-cons k a (range_with_len (a + 1) n) in
    let y = hit-other k a (λ s. omega (arith, e, s)) in
    let z = all_free w n (a + 1) j k (omega (arith, e)) in
    omega (arith, x, y, z)

nothing_filed : (w n k cap : ℕ) → filed {w = w} n k (replicate cap Vacant) ≡ []
nothing_filed w n k zero = refl
nothing_filed w n k (suc cap) = nothing_filed w n (suc k) cap

pub empty_stored : {w : ℕ} (slots : SlotLists w) (chains : ChainLists) (number cap : ℕ) → 1 ≤ cap → cap ≤ most_lines → number ≡ bucket_count cap → slots ≡ empty_lists cap → entries chains ≡ [] → chains.slots ≡ cap → AreStored slots chains number 0
empty_stored {w} slots chains number cap least most count s none room =
    subst (λ x. AreStored x chains number 0) (sym s) record {
      least = subst (λ x. 1 ≤ x) (sym len) least;
      most = omega (arith, len, most);
      buckets = count ∙ ap bucket_count (sym len);
      room = room ∙ sym len;
      listed = record {
        free = λ k. all_free w cap 0 k k (omega arith);
        dead = λ k. none_dead (replicate cap Vacant) cap [] refl refl k;
      };
      entered = λ test. ap (count_by test) none ∙ sym (ap (count_by test) (nothing_filed w number 0 cap));
      taken = sym (none_count is_taken (replicate cap Vacant) cap refl refl);
      unique = none_unique (replicate cap Vacant) cap refl;
    }
  where
    len : length (replicate {A = Slot w} cap Vacant) ≡ cap
    len = length-replicate {A = Slot w} cap Vacant

pub empty_stored_memory : {w : ℕ} (slots : SlotLists w) (cap : ℕ) → slots ≡ empty_lists cap → memory_of slots ≡ empty_memory (plain_layout cap)
empty_stored_memory {w} slots cap s = ap memory_of s ∙ (λ i. record {
  lines = none_lines {w = w} (replicate cap Vacant) cap refl i;
  counts = none_counts {w = w} (replicate cap Vacant) cap refl i;
  dead = [];
  layout = plain_layout (length-replicate {A = Slot w} cap Vacant i);
})

-- No more entries have the key of a line than the memory has lines in the line's bucket.
use Rattle.std.proofs.Common.{◌≡◌, ℕ, suc, ◌+◌, ◌≤◌, Bool, true, false, cond, List, [], ◌∷◌, length, Option, Some, None, refl, sym, ap, ◌∙◌, subst, arith}
use Rattle.std.specs.Prelude.{count_by, ◌==◌, ◌*◌, ◌/◌, ◌%◌, ◌^◌}
use Rattle.std.proofs.lemmas.Bool.{eq-eqb, eqb-true}
use Rattle.std.specs.Ordering.{nat_cmp, eq_by_cmp, is_eq}
use Rattle.std.specs.Cmp.{nat_cmp_total}
use Rattle.std.specs.declared.cmp.Ordering.{Ordering}
use Rattle.std.specs.declared.cmp.Ordering.TheVariants.{Less, Equal, Greater}
use Rattle.std.specs.FinMap as map
use Rattle.std.specs.FinMap.Entries as entries_of
use Rattle.std.proofs.lemmas.List.Sums.{count_by-le-length}
use Rattle.hic_word.specs.declared.Word.{Word}
use Rattle.hic_word.specs.Memory.{Memory}
use Rattle.line_hash.specs.Hash.{bucket, hash}
use Rattle.line_mem.specs.declared.slots.Slot.{Slot}
use Rattle.line_mem.specs.declared.slots.Slot.TheVariants.{Vacant, Taken}
use Rattle.line_mem.specs.Places.{each, line_in, placed}
use Rattle.line_mem.specs.PlacesSound.{find_low}
use Rattle.line_slots.specs.SlotLists.{SlotLists}
use Rattle.line_store.specs.Bound.{lines_beside}
use Rattle.line_store.specs.Entries.{entry_for}
use Rattle.line_store.specs.Filed.{filed, key_for}
use Rattle.line_store.specs.Search.{alike}
use Rattle.line_store.specs.Stored.{bucket_count, memory_of}
use Rattle.line_slots.specs.declared.entry.Entry.{Entry}
use Rattle.line_slots.proofs.Counts.{count-cons, one, one-true}

found_none : (k : ℕ) (t : Bool) (v : List Word) (o : Option (List Word)) → cond t (Some v) o ≡ None → (t ≡ false) × (o ≡ None)
found_none k true v o h = cc
found_none k false v o h = (refl, h)

between : (a b c n m : ℕ) → n ≡ a + m → m ≡ b + c → n ≡ b + (a + c)
between a b c n m e f = omega arith

-- how many entries of a map pass a test, with one entry more
put_count : (test : ℕ × List Word → Bool) (k : ℕ) (v : List Word) (es : List (ℕ × List Word)) → ((j : ℕ) (w : List Word) → test (j, w) ≡ test (k, w)) → map.find nat_cmp k es ≡ None → count_by test (map.put nat_cmp k v es) ≡ one (test (k, v)) + count_by test es
put_count test k v [] alike h = count-cons test (k, v) []
put_count test k v (e ∷ es) alike h =
    let (miss, rest) = found_none k (eq_by_cmp nat_cmp k e.0) e.1 (map.find nat_cmp k es) h in
    go (nat_cmp k e.0) refl miss (put_count test k v es alike rest)
  where
    go : (o : Ordering) → nat_cmp k e.0 ≡ o → eq_by_cmp nat_cmp k e.0 ≡ false → count_by test (map.put nat_cmp k v es) ≡ one (test (k, v)) + count_by test es
        → count_by test (entries_of.by_order o ((k, v) ∷ e ∷ es) ((e.0, v) ∷ es) (e ∷ map.put nat_cmp k v es)) ≡ one (test (k, v)) + count_by test (e ∷ es)
    go Less f miss again = count-cons test (k, v) (e ∷ es)
    go Equal f miss again = absurd (let a : is_eq (nat_cmp k e.0) ≡ true = ap is_eq f in let b : true ≡ false = sym a ∙ miss in cc)
    go Greater f miss again = between (one (test e)) (one (test (k, v))) (count_by test es) _ _ (count-cons test e (map.put nat_cmp k v es)) again
        ∙ ap (λ n. one (test (k, v)) + n) (sym (count-cons test e es))

-- lines with equal keys are in one bucket, if there are at most 2^17 buckets
same_bucket : (n h g : ℕ) → 1 ≤ n → n ≤ 2 ^ 17 → h % n + 2 ^ 17 * (h / 2 ^ 49) ≡ g % n + 2 ^ 17 * (g / 2 ^ 49) → h % n ≡ g % n
same_bucket n h g some few e = omega arith

only_if : (s t : Bool) → (s ≡ true → t ≡ true) → one s ≤ one t
only_if false t h = omega arith
only_if true t h = let a = one-true t (h refl) in omega (arith, a)

module _ (n : ℕ) (line : List Word) (some : 1 ≤ n) (few : n ≤ 2 ^ 17) where
  one_beside : (words : List Word) → one (key_for n words == key_for n line) ≤ one (bucket words n == bucket line n)
  one_beside words = only_if (key_for n words == key_for n line) (bucket words n == bucket line n) (λ e. eq-eqb (bucket words n) (bucket line n) (same_bucket n (hash words) (hash line) some few (eqb-true (key_for n words) (key_for n line) e)))

  filed-alike : {w : ℕ} (i : ℕ) (ss : List (Slot w)) → alike (key_for n line) (filed n i ss) ≤ count_by (λ e. bucket e.1 n == bucket line n) (map.entries (map.from_entries {R = nat_cmp} (placed i (each line_in ss))))
  filed-alike i [] = omega arith
  filed-alike i (Vacant ∷ ss) = filed-alike (suc i) ss
  filed-alike i (Taken l count ∷ ss) =
      let rest = map.from_entries {R = nat_cmp} (placed (suc i) (each line_in ss)) in
      let new : map.get rest i ≡ None = map.get-from_entries nat_cmp_total (placed (suc i) (each line_in ss)) i ∙ find_low (suc i) i (each line_in ss) (omega arith) in
      let a = ap (count_by (λ (e : ℕ × List Word). bucket e.1 n == bucket line n)) (map.entries-insert nat_cmp_total rest i l.w)
      ∙ put_count (λ (e : ℕ × List Word). bucket e.1 n == bucket line n) i l.w (map.entries rest) (λ j w. refl) (sym (map.get-entries rest i) ∙ new) in
      let b = filed-alike (suc i) ss in
      let c = count-cons (λ (e : Entry). e.key == key_for n line) (entry_for i (key_for n l.w)) (filed n (suc i) ss) in
      let d = one_beside l.w in
      omega (arith, a, b, c, d)

-- no more lines in a bucket than lines
pub beside_few : (m : Memory) (line : List Word) → lines_beside m line ≤ map.len m.lines
beside_few m line =
    let a = count_by-le-length (λ (e : ℕ × List Word). bucket e.1 (bucket_count m.layout.cap) == bucket line (bucket_count m.layout.cap)) (map.entries m.lines) in
    let b = map.len-entries m.lines in
    omega (arith, a, b)

pub beside_alike : {w : ℕ} (slots : SlotLists w) (line : List Word) (number : ℕ) → 1 ≤ number → number ≤ 2 ^ 17 → number ≡ bucket_count (length slots.slots) → alike (key_for number line) (filed number 0 slots.slots) ≤ lines_beside (memory_of slots) line
beside_alike slots line number some few e = subst (λ n. alike (key_for number line) (filed number 0 slots.slots) ≤ count_by (λ (x : ℕ × List Word). bucket x.1 n == bucket line n) (map.entries (memory_of slots).lines)) e (filed-alike number line some few 0 slots.slots)

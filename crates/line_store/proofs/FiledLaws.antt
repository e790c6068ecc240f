-- The entries of the lines in slots: after a write, and for each line.
use Rattle.std.proofs.Common.{◌≡◌, ℕ, suc, zero, ◌+◌, Bool, List, [], ◌∷◌, ◌++◌, set, Some, refl, sym, ap, subst, arith, inl, inr}
use Rattle.std.specs.Prelude.{count_by, slice_get}
use Rattle.hic_word.specs.declared.Line.{Line}
use Rattle.hic_word.specs.Lists.{In}
use Rattle.line_mem.specs.declared.slots.Slot.{Slot}
use Rattle.line_mem.specs.declared.slots.Slot.TheVariants.{Vacant, Taken}
use Rattle.line_slots.specs.declared.entry.Entry.{Entry}
use Rattle.line_slots.proofs.ListReads.{In-append_right}
use Rattle.line_store.specs.Entries.{entry_for}
use Rattle.line_store.specs.Filed.{filed, filed_by, key_for}
use Rattle.line_slots.proofs.Counts.{count-append}

-- the entry of a line in slot k, by n buckets
abbrev pub entry_of : {w : ℕ} → ℕ → ℕ → Line w → Entry
entry_of n k line = entry_for k (key_for n line.w)

-- each entry is that of a line
pub record FiledFor {w : ℕ} (k : ℕ) (ss : List (Slot w)) (e : Entry) : Type 0 where
  pub at : ℕ
  pub line : Line w
  pub count : ℕ
  pub slot : e.slot ≡ k + at
  pub there : slice_get ss at ≡ Some (Taken line count)

module _ {w : ℕ} (n : ℕ) where
  -- a write changes the entry of its slot alone
  pub filed-set : (test : Entry → Bool) (k : ℕ) (ss : List (Slot w)) (j at : ℕ) (old new : Slot w) → at ≡ k + j → slice_get ss j ≡ Some old
      → count_by test (filed n k (set ss j new)) + count_by test (filed_by n at old) ≡ count_by test (filed n k ss) + count_by test (filed_by n at new)
  filed-set test k [] j at old new a e = cc
  filed-set test k (s ∷ ss) zero at old new a e =
      let same : s ≡ old = cc in
      let here : at ≡ k = omega (arith, a) in
      let x = count-append test (filed_by n k new) (filed n (suc k) ss) in
      let y = count-append test (filed_by n k s) (filed n (suc k) ss) in
      let p = ap (λ z. count_by test (filed_by n z old)) here in
      let q = ap (λ z. count_by test (filed_by n z new)) here in
      let r = ap (λ z. count_by test (filed_by n k z)) same in
      omega (arith, x, y, p, q, r)
  filed-set test k (s ∷ ss) (suc j) at old new a e =
      let x = count-append test (filed_by n k s) (filed n (suc k) (set ss j new)) in
      let y = count-append test (filed_by n k s) (filed n (suc k) ss) in
      let again = filed-set test (suc k) ss j at old new (omega (arith, a)) e in
      omega (arith, x, y, again)

  further : (k : ℕ) (s : Slot w) (ss : List (Slot w)) (e : Entry) → FiledFor (suc k) ss e → FiledFor k (s ∷ ss) e
  further k s ss e f = record { at = suc f.at; line = f.line; count = f.count; slot = (let a = f.slot in omega (arith, a)); there = f.there }

  pub filed_for : (k : ℕ) (ss : List (Slot w)) (e : Entry) → In e (filed n k ss) → FiledFor k ss e
  filed_for k [] e i = absurd i
  filed_for k (Vacant ∷ ss) e i = further k Vacant ss e (filed_for (suc k) ss e i)
  filed_for k (Taken line count ∷ ss) e (inl s) = record { at = 0; line = line; count = count; slot = (let a = ap (λ (x : Entry). x.slot) s in omega (arith, a)); there = refl }
  filed_for k (Taken line count ∷ ss) e (inr i) = further k (Taken line count) ss e (filed_for (suc k) ss e i)

  -- each line is filed
  pub line_filed : (k : ℕ) (ss : List (Slot w)) (j at : ℕ) (line : Line w) (count : ℕ) → at ≡ k + j → slice_get ss j ≡ Some (Taken line count) → In (entry_of n at line) (filed n k ss)
  line_filed k [] j at line count a e = cc
  line_filed k (s ∷ ss) zero at line count a e =
      let same : s ≡ Taken line count = cc in
      let here : at ≡ k = omega (arith, a) in
      subst (λ z. In (entry_of n at line) (filed_by n k z ++ filed n (suc k) ss)) (sym same) (inl (ap (λ z. entry_of n z line) (sym here)))
  line_filed k (s ∷ ss) (suc j) at line count a e = In-append_right (entry_of n at line) (filed_by n k s) (filed n (suc k) ss) (line_filed (suc k) ss j at line count (omega (arith, a)) e)

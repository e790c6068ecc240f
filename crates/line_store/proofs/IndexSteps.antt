-- What becomes of an index with an entry more or less.
use Rattle.std.proofs.Common.{◌≡◌, ℕ, ◌+◌, ◌<◌, ◌≤◌, List, ◌∷◌, length, sym, ap, ◌∙◌, subst, arith, inl, inr}
use Rattle.std.specs.Prelude.{◌==◌}
use Rattle.std.proofs.lemmas.Bool.{cases_eq, eq-eqb, ne_eqb}
use Rattle.hic_word.specs.Lists.{In}
use Rattle.line_slots.specs.declared.entry.Entry.{Entry}
use Rattle.line_slots.specs.ChainLists.{ChainLists, chain_at, entries, uses, with_chain, without_slot}
use Rattle.line_slots.specs.KeyNumbers.{chain_number}
use Rattle.line_slots.proofs.ChainSteps.{pushed_count, pushed_in, pushed_same, pushed_slots, removed_count, removed_in, removed_same, removed_slots}
use Rattle.line_slots.proofs.Counts.{count-cons, one, same_back, same_in}
use Rattle.line_store.specs.Index.{IsIndex}

-- an index with an entry more, and with one less
kept_by : (bits : ℕ) (lists new : ChainLists) → IsIndex bits lists → length new.chains ≡ length lists.chains → new.slots ≡ lists.slots
    → ((b : ℕ) (e : Entry) → In e (chain_at new b) → chain_number bits e.key ≡ b)
    → ((slot : ℕ) → uses slot (entries new) ≤ 1) → ((e : Entry) → In e (entries new) → e.slot < lists.slots) → IsIndex bits new
kept_by bits lists new old count slots own once small = record {
  count = count ∙ old.count;
  room = let a = old.room in omega (arith, a, slots);
  few = let a = old.few in omega (arith, a, slots);
  own = own;
  once = once;
  small = λ e i. subst (λ n. e.slot < n) (sym slots) (small e i);
}

one_slot : (e : Entry) (slot : ℕ) (xs : List Entry) → uses slot xs ≤ 1 → uses e.slot xs ≡ 0 → one (e.slot == slot) + uses slot xs ≤ 1
one_slot e slot xs h z = elim (cases_eq e.slot slot) [
  | inl s ↦ let a = ap one (eq-eqb e.slot slot s) in let b = ap (λ k. uses k xs) s in omega (arith, a, b, z)
  | inr n ↦ let a = ap one (ne_eqb e.slot slot n) in omega (arith, a, h)
]

pub entered : (bits : ℕ) (lists new : ChainLists) (b : ℕ) (e : Entry) → IsIndex bits lists → e.slot < lists.slots → uses e.slot (entries lists) ≡ 0 → b ≡ chain_number bits e.key → b < length lists.chains → new ≡ with_chain lists b (e ∷ chain_at lists b) → IsIndex bits new
entered bits lists new b e old small none number low written =
    let count = pushed_count lists new b e low written in
    let slots = pushed_slots lists new b e low written in
    let same = pushed_same lists new b e low written in
    kept_by bits lists new old count slots
    (λ c x i. elim (pushed_in lists new b e low written c x i) [
      | inl f ↦ ap (λ (y : Entry). chain_number bits y.key) (sym f.1) ∙ sym number ∙ sym f.0
      | inr j ↦ old.own c x j
    ])
    (λ slot. let a = same (λ x. x.slot == slot) in omega (arith, a, count-cons (λ (x : Entry). x.slot == slot) e (entries lists), one_slot e slot (entries lists) (old.once slot) none))
    (λ x i. elim (same_in (entries new) (e ∷ entries lists) same x i) [
      | inl s ↦ subst (λ (y : Entry). y.slot < lists.slots) s small
      | inr j ↦ old.small x j
    ])

pub left : (bits : ℕ) (lists new : ChainLists) (b : ℕ) (e : Entry) → IsIndex bits lists → In e (chain_at lists b) → new ≡ with_chain lists b (without_slot e.slot (chain_at lists b)) → IsIndex bits new
left bits lists new b e old there written =
    let same = removed_same lists new b e there (old.once e.slot) written in
    kept_by bits lists new old (removed_count lists new b e there (old.once e.slot) written) (removed_slots lists new b e there (old.once e.slot) written)
    (λ c x i. old.own c x (removed_in lists new b e there (old.once e.slot) written c x i))
    (λ slot. let a = same (λ x. x.slot == slot) in let c = old.once slot in omega (arith, a, c, count-cons (λ (x : Entry). x.slot == slot) e (entries new)))
    (λ x i. old.small x (same_in (e ∷ entries new) (entries lists) (same_back (entries lists) (e ∷ entries new) same) x (inr i)))

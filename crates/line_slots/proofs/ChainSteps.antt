-- The entries of chains with one more, and with one less.
use Rattle.std.proofs.Common.{◌≡◌, ℕ, ◌<◌, ◌≤◌, cond, List, [], ◌∷◌, length, sym, ap, ◌∙◌, subst, arith, inl, inr, ◌⊎◌}
use Rattle.std.specs.Prelude.{count_by, unwrap_or, ◌==◌}
use Rattle.std.proofs.lemmas.Bool.{cases_Bool, cases_eq}
use Rattle.std.proofs.lemmas.List.{length-set}
use Rattle.hic_word.specs.Lists.{In}
use Rattle.line_slots.specs.declared.entry.Entry.{Entry}
use Rattle.line_slots.specs.ChainLists.{ChainLists, chain_at, entries, uses, with_chain, without_slot, IsUnchained, SameEntries}
use Rattle.line_slots.proofs.ListReads.{get_set_other, get_set_same}
use Rattle.line_slots.proofs.Counts.{count-cons, slot_used, without-same}
use Rattle.line_slots.proofs.ChainCounts.{count-one_of, count-replaced, number_low}

-- the chains after a write to one
chain_same : (lists : ChainLists) (b : ℕ) (xs : List Entry) → b < length lists.chains → chain_at (with_chain lists b xs) b ≡ xs
chain_same lists b xs low = ap (λ o. unwrap_or o []) (get_set_same lists.chains b xs low)

chain_other : (lists : ChainLists) (b : ℕ) (xs : List Entry) (c : ℕ) → (c ≡ b → ⊥) → chain_at (with_chain lists b xs) c ≡ chain_at lists c
chain_other lists b xs c n = ap (λ o. unwrap_or o []) (get_set_other lists.chains b c xs n)

-- an entry in front of a chain
module _ (lists new : ChainLists) (b : ℕ) (e : Entry) (low : b < length lists.chains) (written : new ≡ with_chain lists b (e ∷ chain_at lists b)) where
  pub pushed_same : SameEntries (entries new) (e ∷ entries lists)
  pushed_same test =
      let a = ap (λ ls. count_by test (entries ls)) written in
      let c = count-replaced test lists.chains b (e ∷ chain_at lists b) low in
      omega (arith, a, c, count-cons test e (chain_at lists b), count-cons test e (entries lists))

  pub pushed_other : (c : ℕ) → (c ≡ b → ⊥) → chain_at new c ≡ chain_at lists c
  pushed_other c n = ap (λ ls. chain_at ls c) written ∙ chain_other lists b (e ∷ chain_at lists b) c n

  pub pushed_in : (c : ℕ) (x : Entry) → In x (chain_at new c) → ((c ≡ b) × (e ≡ x)) ⊎ In x (chain_at lists c)
  pushed_in c x i = elim (cases_eq c b) [
    | inl s ↦ here s (subst (λ xs. In x xs) (ap (λ ls. chain_at ls c) written ∙ ap (chain_at (with_chain lists b (e ∷ chain_at lists b))) s ∙ chain_same lists b (e ∷ chain_at lists b) low) i)
    | inr n ↦ inr (subst (λ xs. In x xs) (pushed_other c n) i)
  ]
    where
      here : c ≡ b → In x (e ∷ chain_at lists b) → ((c ≡ b) × (e ≡ x)) ⊎ In x (chain_at lists c)
      here s (inl f) = inl (s, f)
      here s (inr j) = inr (subst (λ k. In x (chain_at lists k)) (sym s) j)

  pub pushed_count : length new.chains ≡ length lists.chains
  pushed_count = ap (λ (ls : ChainLists). length ls.chains) written ∙ length-set lists.chains b (e ∷ chain_at lists b)

  pub pushed_slots : new.slots ≡ lists.slots
  pushed_slots = ap (λ (ls : ChainLists). ls.slots) written

without_in : (slot : ℕ) (xs : List Entry) (x : Entry) → In x (without_slot slot xs) → In x xs
without_in slot [] x i = i
without_in slot (y ∷ ys) x i = elim (cases_Bool (y.slot == slot)) [
  | inl t ↦ inr (subst (λ zs. In x zs) (ap (λ b. cond b ys (y ∷ without_slot slot ys)) t) i)
  | inr t ↦ later (without_in slot ys x) (subst (λ zs. In x zs) (ap (λ b. cond b ys (y ∷ without_slot slot ys)) t) i)
]
  where
    later : (In x (without_slot slot ys) → In x ys) → In x (y ∷ without_slot slot ys) → In x (y ∷ ys)
    later again (inl s) = inl s
    later again (inr j) = inr (again j)

pub fewer_in : (lists : ChainLists) (b slot : ℕ) → b < length lists.chains → (c : ℕ) (x : Entry) → In x (chain_at (with_chain lists b (without_slot slot (chain_at lists b))) c) → In x (chain_at lists c)
fewer_in lists b slot low c x i = elim (cases_eq c b) [
  | inl s ↦ subst (λ k. In x (chain_at lists k)) (sym s) (without_in slot (chain_at lists b) x (subst (λ xs. In x xs) (ap (chain_at (with_chain lists b (without_slot slot (chain_at lists b)))) s ∙ chain_same lists b (without_slot slot (chain_at lists b)) low) i))
  | inr n ↦ subst (λ xs. In x xs) (chain_other lists b (without_slot slot (chain_at lists b)) c n) i
]

-- an entry taken out of its chain
module _ (lists new : ChainLists) (b : ℕ) (e : Entry) (there : In e (chain_at lists b)) (once : uses e.slot (entries lists) ≤ 1) (written : new ≡ with_chain lists b (without_slot e.slot (chain_at lists b))) where
  low : b < length lists.chains
  low = number_low e lists.chains b there

  pub removed_same : SameEntries (entries lists) (e ∷ entries new)
  removed_same test =
      let rest = without_slot e.slot (chain_at lists b) in
      let few = count-one_of (λ (x : Entry). x.slot == e.slot) lists.chains b in
      let a = ap (λ ls. count_by test (entries ls)) written in
      let c = count-replaced test lists.chains b (without_slot e.slot (chain_at lists b)) low in
      let d = without-same e (chain_at lists b) there (omega (arith, few, once)) test in
      omega (arith, a, c, d, count-cons test e (without_slot e.slot (chain_at lists b)), count-cons test e (entries new))

  pub removed_in : (c : ℕ) (x : Entry) → In x (chain_at new c) → In x (chain_at lists c)
  removed_in c x i = fewer_in lists b e.slot low c x (subst (λ ls. In x (chain_at ls c)) written i)

  pub removed_count : length new.chains ≡ length lists.chains
  removed_count = ap (λ (ls : ChainLists). length ls.chains) written ∙ length-set lists.chains b (without_slot e.slot (chain_at lists b))

  pub removed_slots : new.slots ≡ lists.slots
  removed_slots = ap (λ (ls : ChainLists). ls.slots) written

-- a slot without an entry is in no chain
pub none_unchained : (lists : ChainLists) (slot : ℕ) → uses slot (entries lists) ≡ 0 → IsUnchained lists slot
none_unchained lists slot none b h =
    let a = slot_used slot (chain_at lists b) h in
    let c = count-one_of (λ (x : Entry). x.slot == slot) lists.chains b in
    omega (arith, a, c, none)

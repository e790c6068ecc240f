-- Steps along a chain.
use Rattle.std.proofs.Common.{◌≡◌, ℕ, ◌+◌, ◌≤◌, cond, List, [], ◌∷◌, ◌++◌, length, Option, Some, refl, sym, ap, ◌∙◌, subst, arith, inl, inr, append_assoc}
use Rattle.std.specs.Prelude.{◌==◌}
use Rattle.std.proofs.lemmas.Bool.{cases_Bool, eq-eqb}
use Rattle.hic_word.specs.Lists.{In}
use Rattle.line_slots.specs.declared.entry.Entry.{Entry}
use Rattle.line_slots.specs.ChainLists.{first_slot, uses, HasSlot}
use Rattle.line_slots.proofs.ListReads.{In-append_right}
use Rattle.line_store.specs.Entries.{rest_from}
use Rattle.line_slots.proofs.Counts.{count-cons, in_slot, one-true, slot_used}

used_behind : (xs ys : List Entry) (y : Entry) → 1 ≤ uses y.slot (xs ++ y ∷ ys)
used_behind xs ys y = slot_used y.slot (xs ++ y ∷ ys) (in_slot y (xs ++ y ∷ ys) (In-append_right y xs (y ∷ ys) (inl refl)))

-- the rest of a chain begins where the links have come to
pub rest-after : (xs ys : List Entry) → ((slot : ℕ) → uses slot (xs ++ ys) ≤ 1) → rest_from (first_slot ys) (xs ++ ys) ≡ ys
rest-after xs [] once = refl
rest-after [] (y ∷ ys) once = ap (λ b. cond b (y ∷ ys) (rest_from (Some y.slot) ys)) (eq-eqb y.slot y.slot refl)
rest-after (x ∷ xs) (y ∷ ys) once = elim (cases_Bool (x.slot == y.slot)) [
  | inl t ↦ absurd (
      let a = count-cons (λ (e : Entry). e.slot == y.slot) x (xs ++ y ∷ ys) in
      let b = one-true (x.slot == y.slot) t in
      let c = once y.slot in
      omega (arith, a, b, c, used_behind xs ys y))
  | inr t ↦ ap (λ b. cond b (x ∷ xs ++ y ∷ ys) (rest_from (Some y.slot) (xs ++ y ∷ ys))) t ∙ rest-after xs (y ∷ ys) (λ slot. let a = count-cons (λ (e : Entry). e.slot == slot) x (xs ++ y ∷ ys) in let b = once slot in omega (arith, a, b))
]

-- at a slot of a chain
module _ (chain passed : List Entry) (next : Option ℕ) (slot : ℕ) (is : next ≡ Some slot) (first : next ≡ first_slot (rest_from next chain)) (split : chain ≡ passed ++ rest_from next chain) where
  pub record IsHere : Type 0 where
    pub entry : Entry
    pub after : List Entry
    pub rest : rest_from next chain ≡ entry ∷ after
    pub slot_is : entry.slot ≡ slot

  pub here : IsHere
  here = go (rest_from next chain) refl (sym is ∙ first)
    where
      go : (xs : List Entry) → rest_from next chain ≡ xs → Some slot ≡ first_slot xs → IsHere
      go [] e f = cc
      go (x ∷ xs) e f = record { entry = x; after = xs; rest = e; slot_is = (let same : x.slot ≡ slot = cc in same) }

  pub whole : chain ≡ passed ++ here.entry ∷ here.after
  whole = split ∙ ap (λ xs. passed ++ xs) here.rest

  pub in_chain : In here.entry chain
  in_chain = subst (λ xs. In here.entry xs) (sym whole) (In-append_right here.entry passed (here.entry ∷ here.after) (inl refl))

  pub has_slot : HasSlot slot chain
  has_slot = subst (λ k. HasSlot k chain) here.slot_is (in_slot here.entry chain in_chain)

  -- the slot after it
  module _ (next' : Option ℕ) (once : (k : ℕ) → uses k chain ≤ 1) (follows : (before after : List Entry) (e : Entry) → chain ≡ before ++ e ∷ after → e.slot ≡ slot → next' ≡ first_slot after) where
    pub after_is : next' ≡ first_slot here.after
    after_is = follows passed here.after here.entry whole here.slot_is

    longer : chain ≡ (passed ++ here.entry ∷ []) ++ here.after
    longer = whole ∙ sym (append_assoc passed (here.entry ∷ []) here.after)

    pub rest_is : rest_from next' chain ≡ here.after
    rest_is =
        ap (λ o. rest_from o chain) after_is
        ∙ ap (rest_from (first_slot here.after)) longer
        ∙ rest-after (passed ++ here.entry ∷ []) here.after (λ k. subst (λ xs. uses k xs ≤ 1) longer (once k))

    pub next_split : chain ≡ (passed ++ here.entry ∷ []) ++ rest_from next' chain
    next_split = longer ∙ ap (λ xs. (passed ++ here.entry ∷ []) ++ xs) (sym rest_is)

    pub next_first : next' ≡ first_slot (rest_from next' chain)
    next_first = after_is ∙ ap first_slot (sym rest_is)

    pub one_fewer : length (rest_from next' chain) + 1 ≡ length (rest_from next chain)
    one_fewer = let a = ap length rest_is in let b = ap length here.rest in omega (arith, a, b)

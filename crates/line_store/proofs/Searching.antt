-- What a search for a line knows at each slot that it comes to.
use Rattle.std.proofs.Common.{◌≡◌, ℕ, ◌+◌, ◌<◌, ◌≤◌, Bool, false, List, [], ◌∷◌, ◌++◌, length, Option, Some, None, IsSome, sym, ap, ◌∙◌, subst, arith, inl, inr}
use Rattle.std.specs.Prelude.{IsTrue, ◌==◌}
use Rattle.std.proofs.lemmas.Bool.{eq-eqb}
use Rattle.hic_word.specs.declared.Line.{Line}
use Rattle.hic_word.specs.Lists.{In}
use Rattle.line_slots.specs.declared.entry.Entry.{Entry}
use Rattle.line_slots.specs.ChainLists.{ChainLists, entries, first_slot, uses, HasSlot, IsKey, IsNext}
use Rattle.line_slots.specs.KeyNumbers.{chain_number}
use Rattle.line_slots.specs.SlotLists.{SlotLists, line_at}
use Rattle.line_store.specs.Entries.{entry_for, rest_from}
use Rattle.line_store.specs.Index.{chain_for, IsIndex}
use Rattle.line_store.specs.Search.{alike, Finds}
use Rattle.line_slots.proofs.ChainCounts.{count-one_of, in_together}
use Rattle.line_slots.proofs.Counts.{count-cons, one, one-true}
use Rattle.line_store.proofs.IndexLaws.{chain_keys, own_key}
use Rattle.line_store.proofs.Rests.{has_slot, here, in_chain, next_first, next_split, one_fewer, rest-after, rest_is, IsHere}

-- a search that has come to this slot: each entry of the chain that can be the line's is there or behind
pub record Searches {w : ℕ} (slots : SlotLists w) (chain : List Entry) (key : ℕ) (line : Line w) (next : Option ℕ) (old now : ℕ) : Type 0 where
  pub passed : List Entry
  pub split : chain ≡ passed ++ rest_from next chain
  pub first : next ≡ first_slot (rest_from next chain)
  pub left : (e : Entry) → In e chain → e.key ≡ key → line_at slots e.slot ≡ Some line → In e (rest_from next chain)
  pub risen : old ≤ now
  pub few : now + alike key (rest_from next chain) ≤ old + alike key chain

-- in the chain for the key
module _ {w : ℕ} (bits : ℕ) (lists : ChainLists) (index : IsIndex bits lists) (slots : SlotLists w) (key : ℕ) (line : Line w) where
  once : (k : ℕ) → uses k (chain_for bits lists key) ≤ 1
  once k = let a = index.once k in let b = count-one_of (λ (e : Entry). e.slot == k) lists.chains (chain_number bits key) in omega (arith, a, b)

  is_entry : (e : Entry) → In e (chain_for bits lists key) → In e (entries lists)
  is_entry e i = in_together e lists.chains (chain_number bits key) i

  pub search_begins : (next : Option ℕ) (steps : ℕ) → next ≡ first_slot (chain_for bits lists key) → Searches slots (chain_for bits lists key) key line next steps steps
  search_begins next steps e =
      let whole : rest_from next (chain_for bits lists key) ≡ chain_for bits lists key = ap (λ o. rest_from o (chain_for bits lists key)) e ∙ rest-after [] (chain_for bits lists key) once in
      record {
        passed = [];
        split = sym whole;
        first = e ∙ ap first_slot (sym whole);
        left = λ x i k l. subst (λ xs. In x xs) (sym whole) i;
        risen = omega arith;
        few = let a = ap (alike key) whole in omega (arith, a);
      }

  -- at the end of the chain
  pub search_ends : (next : Option ℕ) (old now : ℕ) → next ≡ None → Searches slots (chain_for bits lists key) key line next old now → Finds slots (entries lists) key line None old now
  search_ends next old now e s = record {
    slot = λ x i k l. subst (λ o. In x (rest_from o (chain_for bits lists key))) e (s.left x (own_key bits lists index x i key k) k l);
    looks = (s.risen, (let a = s.few in let b = chain_keys bits lists index key in omega (arith, a, b)));
    looked = tt;
  }

  -- at a slot
  module _ (next : Option ℕ) (old now : ℕ) (s : Searches slots (chain_for bits lists key) key line next old now) (slot : ℕ) (is : next ≡ Some slot) where
    abbrev at : IsHere (chain_for bits lists key) s.passed next slot is s.first s.split
    at = here (chain_for bits lists key) s.passed next slot is s.first s.split

    in_here : In at.entry (chain_for bits lists key)
    in_here = in_chain (chain_for bits lists key) s.passed next slot is s.first s.split

    pub slot_here : HasSlot slot (chain_for bits lists key)
    slot_here = has_slot (chain_for bits lists key) s.passed next slot is s.first s.split

    pub line_here : ((e : Entry) → In e (entries lists) → IsSome (line_at slots e.slot)) → IsSome (line_at slots slot)
    line_here filed = subst (λ k. IsSome (line_at slots k)) at.slot_is (filed at.entry (is_entry at.entry in_here))

    -- its key was told
    module _ (told : ℕ) (tells : IsKey lists slot told) where
      key_is : told ≡ at.entry.key
      key_is = tells (chain_number bits key) at.entry in_here at.slot_is

      pub search_found : (new : ℕ) → told ≡ key → line_at slots slot ≡ Some line → new ≡ now + 1 → Finds slots (entries lists) key line (Some slot) old new
      search_found new k l one_look =
          let risen = s.risen in
          record {
            slot = (is_entry (entry_for slot key) (subst (λ x. In x (chain_for bits lists key)) (λ i. record { slot = at.slot_is i; key = (sym key_is ∙ k) i }) in_here), l);
            looks = (
              omega (arith, risen, one_look),
              (
                  let a = s.few in
                  let b = chain_keys bits lists index key in
                  let c = ap (alike key) at.rest in
                  let d = count-cons (λ (e : Entry). e.key == key) at.entry at.after in
                  let f = one-true (at.entry.key == key) (eq-eqb at.entry.key key (sym key_is ∙ k)) in
                  omega (arith, a, b, c, d, f, one_look)),
            );
            looked = omega (arith, risen, one_look);
          }

      -- on to the slot after it
      module _ (next' : Option ℕ) (follows : IsNext lists slot next') where
        goes : (before after : List Entry) (e : Entry) → chain_for bits lists key ≡ before ++ e ∷ after → e.slot ≡ slot → next' ≡ first_slot after
        goes = follows (chain_number bits key)

        pub fewer_behind : length (rest_from next' (chain_for bits lists key)) < length (rest_from next (chain_for bits lists key))
        fewer_behind = let a = one_fewer (chain_for bits lists key) s.passed next slot is s.first s.split next' once goes in omega (arith, a)

        behind : rest_from next' (chain_for bits lists key) ≡ at.after
        behind = rest_is (chain_for bits lists key) s.passed next slot is s.first s.split next' once goes

        passes : (new : ℕ) → (told ≡ key → line_at slots slot ≡ Some line → ⊥) → now ≤ new → new ≤ now + one (at.entry.key == key) → Searches slots (chain_for bits lists key) key line next' old new
        passes new differs later few = record {
          passed = s.passed ++ at.entry ∷ [];
          split = next_split (chain_for bits lists key) s.passed next slot is s.first s.split next' once goes;
          first = next_first (chain_for bits lists key) s.passed next slot is s.first s.split next' once goes;
          left = λ e i k l. subst (λ xs. In e xs) (sym behind) (further e k l (subst (λ xs. In e xs) at.rest (s.left e i k l)));
          risen = let a = s.risen in omega (arith, a, later);
          few =
              let a = s.few in
              let b = ap (alike key) behind in
              let c = ap (alike key) at.rest in
              let d = count-cons (λ (e : Entry). e.key == key) at.entry at.after in
              omega (arith, a, b, c, d, few);
        }
          where
            further : (e : Entry) → e.key ≡ key → line_at slots e.slot ≡ Some line → In e (at.entry ∷ at.after) → In e at.after
            further e k l (inr i) = i
            further e k l (inl x) = absurd (differs (key_is ∙ ap (λ (y : Entry). y.key) x ∙ k) (ap (line_at slots) (sym at.slot_is ∙ ap (λ (y : Entry). y.slot) x) ∙ l))

        -- by its key, or by a look at its line
        pub passes_key : (new : ℕ) → (told ≡ key → ⊥) → new ≡ now → Searches slots (chain_for bits lists key) key line next' old new
        passes_key new differs same = passes new (λ k l. differs k) (omega (arith, same)) (omega (arith, same))

        pub passes_line : (new : ℕ) (same : Bool) → told ≡ key → same ≡ false → (line_at slots slot ≡ Some line → IsTrue same) → new ≡ now + 1 → Searches slots (chain_for bits lists key) key line next' old new
        passes_line new same k differs test one_look = passes new (λ e l. not_true same differs (test l)) (omega (arith, one_look)) (let a = one-true (at.entry.key == key) (eq-eqb at.entry.key key (sym key_is ∙ k)) in omega (arith, a, one_look))
          where
            not_true : (r : Bool) → r ≡ false → IsTrue r → ⊥
            not_true r e h = cc

-- What the calls of an index rest on.
use Rattle.std.proofs.Common.{◌≡◌, ◌≢◌, ℕ, ◌+◌, ◌*◌, ◌^◌, ◌<◌, ◌≤◌, true, [], ◌∷◌, length, sym, ap, ◌∙◌, subst, arith, inl, inr}
use Rattle.std.specs.Prelude.{count_by, ◌==◌}
use Rattle.std.proofs.Math.Nat.{pow-le-pow_right}
use Rattle.std.proofs.lemmas.Bool.{cases_lt}
use Rattle.std.proofs.lemmas.Nat.{pow-add}
use Rattle.hic_word.specs.Lists.{In}
use Rattle.line_slots.specs.declared.entry.Entry.{Entry}
use Rattle.line_slots.specs.ChainLists.{ChainLists, chain_at, empty_chains, entries, uses, with_chain, without_slot, HasSlot, IsChained, IsKey, IsUnchained, SameEntries}
use Rattle.line_slots.specs.KeyNumbers.{chain_number}
use Rattle.line_slots.proofs.ChainCounts.{in_one_of}
use Rattle.line_slots.proofs.ChainSteps.{none_unchained, pushed_same, removed_same}
use Rattle.line_slots.proofs.Counts.{count-cons, in_slot, no_entry, same_in, slot_in}
use Rattle.line_store.specs.Index.{IsIndex}
use Rattle.line_store.proofs.IndexLaws.{own_key}
use Rattle.line_store.proofs.IndexSteps.{entered, left}

-- a slot that has an entry is in some chain
pub some_chain : (lists : ChainLists) (slot : ℕ) → HasSlot slot (entries lists) → IsChained lists slot
some_chain lists slot there =
    let (e, i, s) = slot_in slot (entries lists) there in
    let (b, j) = in_one_of e lists.chains i in
    (b, subst (λ k. HasSlot k (chain_at lists b)) s (in_slot e (chain_at lists b) j))

-- and this is the chain for its key
module _ {bits : ℕ} {lists : ChainLists} {slot key number : ℕ} (index : IsIndex bits lists) (tells : IsKey lists slot key) (for_key : number ≡ chain_number bits key) where
  in_number : (e : Entry) → In e (entries lists) → e.slot ≡ slot → In e (chain_at lists number)
  in_number e i s =
      let (b, j) = in_one_of e lists.chains i in
      subst (λ n. In e (chain_at lists n)) (sym (for_key ∙ ap (chain_number bits) (tells b e j s) ∙ index.own b e j)) j

  pub in_its_chain : HasSlot slot (entries lists) → HasSlot slot (chain_at lists number)
  in_its_chain there =
      let (e, i, s) = slot_in slot (entries lists) there in
      subst (λ k. HasSlot k (chain_at lists number)) s (in_slot e (chain_at lists number) (in_number e i s))

  module _ {new : ChainLists} (written : new ≡ with_chain lists number (without_slot slot (chain_at lists number))) where
    written_for : (e : Entry) → e.slot ≡ slot → new ≡ with_chain lists number (without_slot e.slot (chain_at lists number))
    written_for e s = subst (λ k. new ≡ with_chain lists number (without_slot k (chain_at lists number))) (sym s) written

    pub left_entries : (e : Entry) → In e (entries lists) → e.slot ≡ slot → SameEntries (entries lists) (e ∷ entries new)
    left_entries e i s = removed_same lists new number e (in_number e i s) (index.once e.slot) (written_for e s)

    pub left_index : HasSlot slot (entries lists) → IsIndex bits new
    left_index there =
        let (e, i, s) = slot_in slot (entries lists) there in
        left bits lists new number e index (in_number e i s) (written_for e s)

-- no entry has a key that its chain cannot have
pub none_has : (bits : ℕ) (lists : ChainLists) (key number : ℕ) → IsIndex bits lists → number ≡ chain_number bits key → ((e : Entry) → In e (chain_at lists number) → e.key ≢ key) → (e : Entry) → In e (entries lists) → e.key ≢ key
none_has bits lists key number index for_key none e i = λ k. none e (subst (λ n. In e (chain_at lists n)) (sym for_key) (own_key bits lists index e i key k)) k

-- few bits tell the chains of an index apart, and one more is enough for a slot that has no chain
module _ (bits : ℕ) (lists : ChainLists) (index : IsIndex bits lists) where
  pub few_bits : bits < 32
  few_bits = elim (cases_lt bits 32) [
    | inl h ↦ h
    | inr h ↦ absurd (omega (arith, index.room, index.few, pow-le-pow_right {n = 2} (omega arith) {i = 32} {j = bits} h))
  ]

  pub room_for_twice : (count slot : ℕ) → count ≡ length lists.chains → count ≤ slot → slot < lists.slots → 2 ^ (bits + 1) ≤ 2 * lists.slots
  room_for_twice count slot counted high low = omega (arith, index.count, counted, high, low, pow-add 2 bits 1)

-- entries that are laid out anew
pub regrown : (bits : ℕ) (old new : ChainLists) → 2 ^ bits ≤ 2 * old.slots → old.slots < 2 ^ 24 → ((slot : ℕ) → uses slot (entries old) ≤ 1) → ((e : Entry) → In e (entries old) → e.slot < old.slots)
    → length new.chains ≡ 2 ^ bits → ((b : ℕ) (e : Entry) → In e (chain_at new b) → chain_number bits e.key ≡ b) → SameEntries (entries new) (entries old) → new.slots ≡ old.slots → IsIndex bits new
regrown bits old new room few once small count own same slots = record {
  count = count;
  room = omega (arith, room, slots);
  few = omega (arith, few, slots);
  own = own;
  once = λ slot. let a = same (λ e. e.slot == slot) in let b = once slot in omega (arith, a, b);
  small = λ e i. subst (λ n. e.slot < n) (sym slots) (small e (same_in (entries new) (entries old) same e i));
}

-- no entries
pub none_begun : (slots : ℕ) (lists new : ChainLists) → lists ≡ empty_chains slots → SameEntries (entries new) (entries lists) → entries new ≡ []
none_begun slots lists new empty same = no_entry (entries new) (same (λ e. true) ∙ ap (λ ls. count_by (λ e. true) (entries ls)) empty)

pub index_begun : (slots : ℕ) (lists new : ChainLists) → 1 ≤ slots → slots < 2 ^ 24 → lists ≡ empty_chains slots
    → length new.chains ≡ 2 ^ 0 → ((b : ℕ) (e : Entry) → In e (chain_at new b) → chain_number 0 e.key ≡ b) → SameEntries (entries new) (entries lists) → new.slots ≡ lists.slots → IsIndex 0 new
index_begun slots lists new some few empty count own same is =
    regrown 0 (empty_chains slots) new (omega (arith, some)) few (λ slot. omega arith) (λ e i. absurd i) count own
    (λ test. same test ∙ ap (λ ls. count_by test (entries ls)) empty) (is ∙ ap (λ (ls : ChainLists). ls.slots) empty)

-- an entry more, in chains that may have become more before
module _ (old wide : ChainLists) (e : Entry) (same : SameEntries (entries wide) (entries old)) (apart : uses e.slot (entries old) ≡ 0) where
  none : uses e.slot (entries wide) ≡ 0
  none = same (λ x. x.slot == e.slot) ∙ apart

  pub still_apart : IsUnchained wide e.slot
  still_apart = none_unchained wide e.slot none

  module _ (number : ℕ) (new : ChainLists) (low : number < length wide.chains) (written : new ≡ with_chain wide number (e ∷ chain_at wide number)) where
    pub entered_same : SameEntries (entries new) (e ∷ entries old)
    entered_same test =
        let a = pushed_same wide new number e low written test in
        let b = same test in
        omega (arith, a, b, count-cons test e (entries wide), count-cons test e (entries old))

    pub entered_index : (bits : ℕ) → IsIndex bits wide → e.slot < wide.slots → number ≡ chain_number bits e.key → IsIndex bits new
    entered_index bits index small for_key = entered bits wide new number e index small none for_key low written

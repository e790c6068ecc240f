-- What pushing a slot and taking one out make of chains.
use Rattle.std.proofs.Common.{◌≡◌, ℕ, ◌+◌, ◌-◌, ◌<◌, ◌≤◌, Bool, List, [], ◌∷◌, ◌++◌, length, map, set, Option, Some, None, refl, sym, ap, ◌∙◌, subst, arith, inl, inr, ◌⊎◌, append_assoc, length-append}
use Rattle.std.specs.Prelude.{slice_get, if◌then◌else◌, replicate}
use Rattle.std.proofs.lemmas.Bool.{cases_eq, eq-eqb, ne_eqb}
use Rattle.std.proofs.lemmas.List.{length-set}
use Rattle.std.proofs.lemmas.Option.{slice_get_within}
use Rattle.std.proofs.lemmas.Simd.{length-replicate}
use Rattle.hic_word.specs.Lists.{In}
use Rattle.line_slots.specs.declared.chains.Link.{Link}
use Rattle.line_slots.specs.declared.entry.Entry.{Entry}
use Rattle.line_slots.specs.Linked.{LeadsTo}
use Rattle.line_slots.specs.ChainLists.{ChainLists, chain_at, with_chain, without_slot, HasSlot, IsUnchained}
use Rattle.line_slots.specs.ChainLinks.{chain_of, chains_of, entry_in, key_of, members, next_in, next_of, no_link, AreChained, Ends}
use Rattle.line_slots.proofs.LinkLaws.{leads_same, led_from, led_past, no_second, no_second_in}
use Rattle.line_slots.proofs.ListReads.{get_append, get_set_other, get_set_same, set_there, In-append_left, In-append_right}
use Rattle.line_slots.proofs.ChainReads.{chain_seen, member_low, none_ends, slot_has}
use Rattle.line_slots.proofs.ChainWrites.{NewChains, anew, entry_same, map_same, next_same, one_number}

module _ (heads : List ℕ) (links : List Link) (slots capacity : ℕ) (v : ChainLists) (kept : AreChained heads links slots capacity) (e : chains_of heads links slots ≡ v) (b h slot : ℕ) (at : slice_get heads b ≡ Some h) where
  fits : length links ≤ no_link
  fits = let a = kept.few in let c = kept.some in omega (arith, a, c)

  ends : Ends links h
  ends = kept.ends b h at

  -- the chain that is changed
  chain_is : chain_at v b ≡ chain_of links h
  chain_is = ap (λ w. chain_at w b) (sym e) ∙ chain_seen heads links slots b h at

  module _ (key room : ℕ) (unused : Link) (other : List Link) (low_slot : slot < slots) (wide : slots ≤ room) (off : IsUnchained v slot) (written : other ≡ set (links ++ replicate (slot + 1 - length links) unused) slot (record { next = h; key = key })) where
    longer : List Link
    longer = links ++ replicate (slot + 1 - length links) unused

    length-longer : length longer ≡ length links + (slot + 1 - length links)
    unfolding longer
    length-longer = length-append links (replicate (slot + 1 - length links) unused) ∙ ap (λ (n : ℕ). length links + n) (length-replicate (slot + 1 - length links) unused)

    here : slice_get other slot ≡ Some (record { next = h; key = key })
    unfolding longer
    here = ap (λ (ls : List Link). slice_get ls slot) written ∙ get_set_same longer slot (record { next = h; key = key }) (let a = length-longer in omega (arith, a))

    some : length other ≤ slots
    unfolding longer
    some = let a = ap length written ∙ length-set longer slot (record { next = h; key = key }) in let c = length-longer in let d = kept.some in omega (arith, a, c, d, low_slot)

    unchained : (c g : ℕ) → slice_get heads c ≡ Some g → In slot (members links g) → ⊥
    unchained c g f i = off c (subst (λ es. HasSlot slot es) (sym (chain_seen heads links slots c g f) ∙ ap (λ w. chain_at w c) e) (slot_has links slot (members links g) i))

    elsewhere : (x : ℕ) → (x ≡ slot → ⊥) → x < length links → slice_get other x ≡ slice_get links x
    unfolding longer
    elsewhere x n small = ap (λ (ls : List Link). slice_get ls x) written ∙ get_set_other longer slot x (record { next = h; key = key }) n ∙ get_append links (replicate (slot + 1 - length links) unused) x small

    same : (c g x : ℕ) → slice_get heads c ≡ Some g → In x (members links g) → slice_get other x ≡ slice_get links x
    same c g x f i = elsewhere x (λ s. unchained c g f (subst (λ y. In y (members links g)) s i)) (member_low links fits x g i (kept.ends c g f))

    pub pushed : NewChains (set heads b slot) other slots room (with_chain v b (record { slot = slot; key = key } ∷ chain_at v b))
    pushed =
        let next : next_in other slot ≡ Some h = ap next_of here in
        let n = anew heads links slots capacity v kept e other room b h slot (slot ∷ members links h) at some wide
        (refl, h, next, leads_same (next_in links) (next_in other) no_link h (members links h) (λ x i. next_same links other x (same b h x at i)) ends)
        from (λ c g x m f i. same c g x f i) in
        let first : entry_in other slot ≡ record { slot = slot; key = key } = ap (λ (o : Option Link). record { slot = slot; key = key_of o }) here in
        let others : map (entry_in other) (members links h) ≡ chain_at v b = map_same (entry_in other) (entry_in links) (members links h) (λ x i. entry_same links other x (same b h x at i)) ∙ sym chain_is in
        record { kept = n.kept; seen = n.seen ∙ ap (with_chain v b) (ap (λ (x : Entry). x ∷ map (entry_in other) (members links h)) first ∙ ap (λ (es : List Entry). record { slot = slot; key = key } ∷ es) others) }
      where
        from : (s : ℕ) → In s (slot ∷ members links h) → In s (members links h) ⊎ ((c g : ℕ) → slice_get heads c ≡ Some g → In s (members links g) → ⊥)
        from s (inl f) = inr (λ c g k i. unchained c g k (subst (λ y. In y (members links g)) (sym f) i))
        from s (inr i) = inl i

  -- a chain that begins with the slot
  begins : (link : Link) (xs : List ℕ) → slice_get links slot ≡ Some link → h ≡ slot → LeadsTo (next_in links) no_link h xs → (ys : List ℕ) × (xs ≡ slot ∷ ys) × LeadsTo (next_in links) no_link link.next ys
  begins link [] g s k = absurd (let a : ◌≡◌ {A = Option ℕ} None (Some link.next) = sym (none_ends links fits) ∙ ap (next_in links) (sym k ∙ s) ∙ ap next_of g in cc)
  begins link (x ∷ xs) g s k =
      let here : next_in links x ≡ Some link.next = ap (next_in links) (sym k.0 ∙ s) ∙ ap next_of g in
      (xs, ap (λ (y : ℕ). y ∷ xs) (sym k.0 ∙ s), subst (λ l. LeadsTo (next_in links) no_link l xs) (one_number k.1 link.next (sym k.2 ∙ here)) k.3)

  -- the first slot of a chain is taken out
  pub first_removed : (link : Link) → slice_get links slot ≡ Some link → h ≡ slot → NewChains (set heads b link.next) links slots capacity (with_chain v b (without_slot slot (chain_at v b)))
  first_removed link g s =
      let (ys, split, led) = begins link (members links h) g s ends in
      let n = anew heads links slots capacity v kept e links capacity b h link.next ys at kept.some kept.room led
      (λ t i. inl (subst (λ zs. In t zs) (sym split) (inr i))) (λ c d x m f i. refl) in
      let out : without_slot slot (chain_at v b) ≡ map (entry_in links) ys =
      ap (without_slot slot) (chain_is ∙ ap (map (entry_in links)) split)
      ∙ ap (λ (t : Bool). if t then map (entry_in links) ys else entry_in links slot ∷ without_slot slot (map (entry_in links) ys)) (eq-eqb slot slot refl) in
      record { kept = n.kept; seen = n.seen ∙ ap (with_chain v b) (sym out) }

  -- the entries but that of a later slot
  without_later : (xs ys : List ℕ) (before : ℕ) → (In slot xs → ⊥) → (before ≡ slot → ⊥) → without_slot slot (map (entry_in links) (xs ++ before ∷ slot ∷ ys)) ≡ map (entry_in links) (xs ++ before ∷ ys)
  without_later [] ys before n m =
      ap (λ (t : Bool). if t then map (entry_in links) (slot ∷ ys) else entry_in links before ∷ without_slot slot (map (entry_in links) (slot ∷ ys))) (ne_eqb before slot m)
      ∙ ap (λ (t : Bool). entry_in links before ∷ (if t then map (entry_in links) ys else entry_in links slot ∷ without_slot slot (map (entry_in links) ys))) (eq-eqb slot slot refl)
  without_later (x ∷ xs) ys before n m =
      ap (λ (t : Bool). if t then map (entry_in links) (xs ++ before ∷ slot ∷ ys) else entry_in links x ∷ without_slot slot (map (entry_in links) (xs ++ before ∷ slot ∷ ys))) (ne_eqb x slot (λ f. n (inl f)))
      ∙ ap (λ (es : List Entry). entry_in links x ∷ es) (without_later xs ys before (λ i. n (inr i)) m)

  module _ (before : ℕ) (held link new : Link) (xs ys : List ℕ) (split : members links h ≡ xs ++ before ∷ slot ∷ ys) (read : slice_get links before ≡ Some held) (reads : slice_get links slot ≡ Some link)
      (leads : new.next ≡ link.next) (keeps : new.key ≡ held.key) where
    led_all : LeadsTo (next_in links) no_link h (xs ++ before ∷ slot ∷ ys)
    led_all = subst (λ zs. LeadsTo (next_in links) no_link h zs) split ends

    in_before : In before (members links h)
    in_before = subst (λ zs. In before zs) (sym split) (In-append_right before xs (before ∷ slot ∷ ys) (inl refl))

    before_low : before < length links
    before_low = slice_get_within links before held read

    not_before : In before xs → ⊥
    not_before i = no_second_in (next_in links) no_link (none_ends links fits) h before xs (slot ∷ ys) led_all i

    not_after : In before (slot ∷ ys) → ⊥
    not_after i = let (l, k) = led_from (next_in links) no_link h xs (before ∷ slot ∷ ys) led_all in no_second (next_in links) no_link (none_ends links fits) l before (slot ∷ ys) k i

    not_slot : In slot xs → ⊥
    not_slot i = no_second_in (next_in links) no_link (none_ends links fits) h slot (xs ++ before ∷ []) ys
        (subst (λ zs. LeadsTo (next_in links) no_link h zs) (sym (append_assoc xs (before ∷ []) (slot ∷ ys))) led_all) (In-append_left slot xs (before ∷ []) i)

    kept_elsewhere : (x : ℕ) → (x ≡ before → ⊥) → slice_get (set links before new) x ≡ slice_get links x
    kept_elsewhere x n = get_set_other links before x new n

    now_before : slice_get (set links before new) before ≡ Some new
    now_before = get_set_same links before new before_low

    skip_in : (s : ℕ) (zs : List ℕ) → In s (zs ++ before ∷ ys) → In s (zs ++ before ∷ slot ∷ ys)
    skip_in s [] (inl f) = inl f
    skip_in s [] (inr i) = inr (inr i)
    skip_in s (z ∷ zs) (inl f) = inl f
    skip_in s (z ∷ zs) (inr i) = inr (skip_in s zs i)

    entry_kept : (x : ℕ) → entry_in (set links before new) x ≡ entry_in links x
    entry_kept x = elim (cases_eq x before) [
      | inl s ↦
          ap (entry_in (set links before new)) s
          ∙ ap (λ (o : Option Link). record { slot = before; key = key_of o }) now_before
          ∙ ap (λ (n : ℕ). record { slot = before; key = n }) keeps
          ∙ ap (λ (o : Option Link). record { slot = before; key = key_of o }) (sym read)
          ∙ ap (entry_in links) (sym s)
      | inr n ↦ entry_same links (set links before new) x (kept_elsewhere x n)
    ]

    led_on : LeadsTo (next_in (set links before new)) no_link h (xs ++ before ∷ ys)
    led_on = led_past (next_in links) (next_in (set links before new)) no_link h before slot link.next xs ys led_all
        (λ z i. next_same links _ z (kept_elsewhere z (λ s. not_before (subst (λ y. In y xs) s i))))
        (λ z i. next_same links _ z (kept_elsewhere z (λ s. not_after (inr (subst (λ y. In y ys) s i)))))
        (ap next_of reads)
        (ap next_of now_before ∙ ap (λ (n : ℕ). Some n) leads)

    -- a later slot of a chain is taken out
    pub later_removed : NewChains heads (set links before new) slots capacity (with_chain v b (without_slot slot (chain_at v b)))
    later_removed =
        let n = anew heads links slots capacity v kept e (set links before new) capacity b h h (xs ++ before ∷ ys) at
        (rw (length-set links before new) kept.some) kept.room led_on
        (λ s i. inl (subst (λ zs. In s zs) (sym split) (skip_in s xs i)))
        (λ c g x m f i. kept_elsewhere x (λ s. m (kept.apart c b g h before f at (subst (λ y. In y (members links g)) s i) in_before))) in
        let there : set heads b h ≡ heads = set_there heads b h at in
        let out : without_slot slot (chain_at v b) ≡ map (entry_in links) (xs ++ before ∷ ys) =
        ap (without_slot slot) (chain_is ∙ ap (map (entry_in links)) split) ∙ without_later xs ys before not_slot (λ s. not_after (inl (sym s))) in
        let same : map (entry_in (set links before new)) (xs ++ before ∷ ys) ≡ without_slot slot (chain_at v b) = map_same _ _ (xs ++ before ∷ ys) (λ x i. entry_kept x) ∙ sym out in
        record {
          kept = subst (λ hs. AreChained hs (set links before new) slots capacity) there n.kept;
          seen = ap (λ (hs : List ℕ). chains_of hs (set links before new) slots) (sym there) ∙ n.seen ∙ ap (with_chain v b) same;
        }

  -- what the search for the slot before tells
  pub before_index : (ls : List Link) (before : ℕ) (xs ys : List ℕ) → ls ≡ links → members ls h ≡ xs ++ before ∷ slot ∷ ys → before < length links
  before_index ls before xs ys f g =
      let split = subst (λ zs. members zs h ≡ xs ++ before ∷ slot ∷ ys) f g in
      member_low links fits before h (subst (λ zs. In before zs) (sym split) (In-append_right before xs (before ∷ slot ∷ ys) (inl refl))) ends

  pub later_written : (ls : List Link) (before : ℕ) (held link new : Link) (xs ys : List ℕ) → ls ≡ links → members ls h ≡ xs ++ before ∷ slot ∷ ys → slice_get links before ≡ Some held → slice_get links slot ≡ Some link
      → new.next ≡ link.next → new.key ≡ held.key → NewChains heads (set links before new) slots capacity (with_chain v b (without_slot slot (chain_at v b)))
  later_written ls before held link new xs ys f g read reads leads keeps =
      later_removed before held link new xs ys (subst (λ zs. members zs h ≡ xs ++ before ∷ slot ∷ ys) f g) read reads leads keeps

-- What is read of chains by their links.
use Rattle.std.proofs.Common.{◌≡◌, ◌≢◌, ℕ, ◌<◌, ◌≤◌, Bool, true, false, List, [], ◌∷◌, ◌++◌, length, map, Option, Some, None, IsSome, refl, sym, ap, ◌∙◌, subst, arith, inl, inr}
use Rattle.std.specs.Prelude.{slice_get, option_map, unwrap_or, if◌then◌else◌}
use Rattle.std.proofs.lemmas.Bool.{eq-eqb, ne_eqb}
use Rattle.std.proofs.lemmas.List.{length-map}
use Rattle.std.proofs.lemmas.Option.{slice_get_within, slice_get_past, slice_get-map}
use Rattle.hic_word.specs.Lists.{In}
use Rattle.line_slots.specs.declared.chains.Link.{Link}
use Rattle.line_slots.specs.declared.entry.Entry.{Entry}
use Rattle.line_slots.specs.Linked.{LeadsTo}
use Rattle.line_slots.specs.ChainLists.{ChainLists, chain_at, first_slot, HasSlot, IsNext, IsKey}
use Rattle.line_slots.specs.ChainLinks.{chain_of, chains_of, entry_in, key_of, members, next_in, next_of, no_link, slot_in, AreChained, Ends}
use Rattle.line_slots.proofs.LinkLaws.{few_members, followed-leads, has_link}

-- entries have their slots
pub has_slot : (links : List Link) (slot : ℕ) (xs : List ℕ) → HasSlot slot (map (entry_in links) xs) → In slot xs
has_slot links slot [] h = h
has_slot links slot (x ∷ xs) (inl e) = inl e
has_slot links slot (x ∷ xs) (inr h) = inr (has_slot links slot xs h)

pub slot_has : (links : List Link) (slot : ℕ) (xs : List ℕ) → In slot xs → HasSlot slot (map (entry_in links) xs)
slot_has links slot [] h = h
slot_has links slot (x ∷ xs) (inl e) = inl e
slot_has links slot (x ∷ xs) (inr h) = inr (slot_has links slot xs h)

entry_is : (links : List Link) (entry : Entry) (xs : List ℕ) → In entry (map (entry_in links) xs) → entry.key ≡ key_of (slice_get links entry.slot)
entry_is links entry [] h = absurd h
entry_is links entry (x ∷ xs) (inl e) = subst (λ y. y.key ≡ key_of (slice_get links y.slot)) e refl
entry_is links entry (x ∷ xs) (inr h) = entry_is links entry xs h

-- the chain of a number
pub chain_seen : (heads : List ℕ) (links : List Link) (slots b h : ℕ) → slice_get heads b ≡ Some h → chain_at (chains_of heads links slots) b ≡ chain_of links h
chain_seen heads links slots b h e = ap (λ (o : Option (List Entry)). unwrap_or o []) (slice_get-map (chain_of links) heads b ∙ ap (option_map (chain_of links)) e)

-- a slot in a chain is a member of it
pub chained_at : (heads : List ℕ) (links : List Link) (slots b slot : ℕ) → HasSlot slot (chain_at (chains_of heads links slots) b) → (h : ℕ) × (slice_get heads b ≡ Some h) × In slot (members links h)
chained_at heads links slots b slot k = go (slice_get heads b) refl
  where
    go : (o : Option ℕ) → slice_get heads b ≡ o → (h : ℕ) × (slice_get heads b ≡ Some h) × In slot (members links h)
    go None e = absurd (subst (λ (q : Option (List Entry)). HasSlot slot (unwrap_or q [])) (slice_get-map (chain_of links) heads b ∙ ap (option_map (chain_of links)) e) k)
    go (Some h) e = (h, e, has_slot links slot (members links h) (subst (λ es. HasSlot slot es) (chain_seen heads links slots b h e) k))

cons_head : (x y : Entry) (xs ys : List Entry) → x ∷ xs ≡ y ∷ ys → x ≡ y
cons_head x y xs ys e = cc

cons_tail : (x y : Entry) (xs ys : List Entry) → x ∷ xs ≡ y ∷ ys → xs ≡ ys
cons_tail x y xs ys e = cc

module _ (links : List Link) (fits : length links ≤ no_link) where
  low_at : (o : Option Link) (x : ℕ) → slice_get links x ≡ o → IsSome (next_of o) → x < length links
  low_at None x e h = absurd (let b : ◌≡◌ {A = Bool} false true = h in cc)
  low_at (Some n) x e h = slice_get_within links x n e

  pub low : (x : ℕ) → IsSome (next_in links x) → x < length links
  low x h = low_at (slice_get links x) x refl h

  pub none_ends : next_in links no_link ≡ None
  none_ends = ap next_of (slice_get_past links no_link fits)

  pub members-led : (first : ℕ) (xs : List ℕ) → LeadsTo (next_in links) no_link first xs → members links first ≡ xs
  members-led first xs h = followed-leads (next_in links) no_link none_ends first xs (length links) h (few_members (next_in links) no_link none_ends first xs (length links) low h)

  pub ends_led : (first : ℕ) (xs : List ℕ) → LeadsTo (next_in links) no_link first xs → Ends links first
  ends_led first xs h = subst (λ ys. LeadsTo (next_in links) no_link first ys) (sym (members-led first xs h)) h

  pub member_low : (x first : ℕ) → In x (members links first) → Ends links first → x < length links
  member_low x first i h = low x (has_link (next_in links) no_link none_ends x first (members links first) i h)

  -- no slot begins an empty chain
  pub none_led : members links no_link ≡ []
  none_led = members-led no_link [] refl

  pub no_chain : chain_of links no_link ≡ []
  no_chain = ap (map (entry_in links)) none_led

  -- the first slot of a chain
  pub first_led : (first : ℕ) (xs : List ℕ) → LeadsTo (next_in links) no_link first xs → slot_in first ≡ first_slot (map (entry_in links) xs)
  first_led first [] h = ap (λ (b : Bool). if b then None else Some first) (eq-eqb first no_link h)
  first_led first (x ∷ xs) h =
      ap (λ (b : Bool). if b then None else Some first) (ne_eqb first no_link (λ e. let a : ◌≡◌ {A = Option ℕ} None (Some h.1) = sym none_ends ∙ ap (next_in links) (sym e ∙ h.0) ∙ h.2 in cc))
      ∙ ap (λ (y : ℕ). Some y) h.0

  nil_not : (ys zs : List Entry) (z : Entry) → [] ≡ ys ++ z ∷ zs → ⊥
  nil_not [] zs z e = cc
  nil_not (y ∷ ys) zs z e = cc

  -- what follows an entry in a chain
  next_led : (first : ℕ) (xs : List ℕ) (before after : List Entry) (entry : Entry) → LeadsTo (next_in links) no_link first xs → map (entry_in links) xs ≡ before ++ entry ∷ after → (n : ℕ) × (next_in links entry.slot ≡ Some n) × (slot_in n ≡ first_slot after)
  next_led first [] before after entry h e = absurd (nil_not before after entry e)
  next_led first (x ∷ xs) [] after entry h e =
      (h.1, ap (λ (y : Entry). next_in links y.slot) (sym (cons_head (entry_in links x) entry _ _ e)) ∙ h.2, first_led h.1 xs h.3 ∙ ap first_slot (cons_tail (entry_in links x) entry _ _ e))
  next_led first (x ∷ xs) (b ∷ before) after entry h e = next_led h.1 xs before after entry h.3 (cons_tail (entry_in links x) b _ _ e)

  split_first : (first : ℕ) (xs : List ℕ) (s : ℕ) → LeadsTo (next_in links) no_link first xs → In s xs → (ys : List ℕ) × (after : ℕ) × (xs ≡ first ∷ ys) × (next_in links first ≡ Some after) × LeadsTo (next_in links) no_link after ys
  split_first first [] s h i = absurd i
  split_first first (x ∷ ys) s h i = (ys, h.1, ap (λ y. y ∷ ys) (sym h.0), ap (next_in links) h.0 ∙ h.2, h.3)

  -- the first slot of a chain with a member has a link
  pub chain_low : (first s : ℕ) → Ends links first → In s (members links first) → first < length links
  chain_low first s h i = let (ys, after, split, linked, led) = split_first first (members links first) s h i in low first (subst (λ o. IsSome o) (sym linked) refl)

  same_number : (i j : ℕ) → ◌≡◌ {A = Option ℕ} (Some i) (Some j) → i ≡ j
  same_number i j e = cc

  -- and its link leads to the others
  pub chain_step : (first s : ℕ) (link : Link) → Ends links first → In s (members links first) → slice_get links first ≡ Some link → (members links first ≡ first ∷ members links link.next) × Ends links link.next
  chain_step first s link h i g =
      let (ys, after, split, linked, led) = split_first first (members links first) s h i in
      let here : after ≡ link.next = same_number after link.next (sym linked ∙ ap next_of g) in
      let on = subst (λ l. LeadsTo (next_in links) no_link l ys) here led in
      (split ∙ ap (λ zs. first ∷ zs) (sym (members-led link.next ys on)), ends_led link.next ys on)

  pub later_in : (first s : ℕ) (ys : List ℕ) → members links first ≡ first ∷ ys → (first ≡ s → ⊥) → In s (members links first) → In s ys
  later_in first s ys e n i = elim (subst (λ zs. In s zs) e i) [ inl f ↦ absurd (n f) | inr j ↦ j ]

module _ (heads : List ℕ) (links : List Link) (slots capacity : ℕ) (v : ChainLists) (kept : AreChained heads links slots capacity) (e : chains_of heads links slots ≡ v) where
  pub fits : length links ≤ no_link
  fits = let a = kept.few in let b = kept.some in omega (arith, a, b)

  pub number_low : (b : ℕ) → b < length v.chains → b < length heads
  number_low b h = let a = ap (λ (w : ChainLists). length w.chains) e in let c = length-map heads (chain_of links) in omega (arith, a, c, h)

  pub head_there : (b slot : ℕ) → HasSlot slot (chain_at v b) → (h : ℕ) × (slice_get heads b ≡ Some h) × In slot (members links h)
  head_there b slot h = chained_at heads links slots b slot (subst (λ w. HasSlot slot (chain_at w b)) (sym e) h)

  pub slot_low : (b slot : ℕ) → HasSlot slot (chain_at v b) → slot < length links
  slot_low b slot h = let (g, at, i) = head_there b slot h in member_low links fits slot g i (kept.ends b g at)

  pub first_is : (b h : ℕ) → slice_get heads b ≡ Some h → slot_in h ≡ first_slot (chain_at v b)
  first_is b h at = first_led links fits h (members links h) (kept.ends b h at) ∙ ap first_slot (sym (chain_seen heads links slots b h at) ∙ ap (λ w. chain_at w b) e)

  one_number : (i j : ℕ) → ◌≡◌ {A = Option ℕ} (Some i) (Some j) → i ≡ j
  one_number i j e = cc

  -- the head of a chain that has an entry
  some_head : (b : ℕ) (before after : List Entry) (entry : Entry) → chain_at v b ≡ before ++ entry ∷ after → (h : ℕ) × (slice_get heads b ≡ Some h)
  some_head b before after entry s = go (slice_get heads b) refl
    where
      go : (o : Option ℕ) → slice_get heads b ≡ o → (h : ℕ) × (slice_get heads b ≡ Some h)
      go None g = absurd (nil_not links fits before after entry (sym (ap (λ (q : Option (List Entry)). unwrap_or q []) (slice_get-map (chain_of links) heads b ∙ ap (option_map (chain_of links)) g)) ∙ ap (λ w. chain_at w b) e ∙ s))
      go (Some h) g = (h, g)

  pub next_is : (slot : ℕ) (link : Link) → slice_get links slot ≡ Some link → IsNext v slot (slot_in link.next)
  next_is slot link g b before after entry s same =
      let (h, at) = some_head b before after entry s in
      let (n, f, k) = next_led links fits h (members links h) before after entry (kept.ends b h at) (sym (chain_seen heads links slots b h at) ∙ ap (λ w. chain_at w b) e ∙ s) in
      let here : next_in links entry.slot ≡ Some link.next = ap (next_in links) same ∙ ap next_of g in
      ap slot_in (one_number link.next n (sym here ∙ f)) ∙ k

  pub key_is : (slot : ℕ) (link : Link) → slice_get links slot ≡ Some link → IsKey v slot link.key
  key_is slot link g b entry i same = go (slice_get heads b) refl
    where
      seen : (o : Option ℕ) → slice_get heads b ≡ o → In entry (unwrap_or (option_map (chain_of links) o) [])
      seen o f = subst (λ es. In entry es) (sym (sym (ap (λ (q : Option (List Entry)). unwrap_or q []) (slice_get-map (chain_of links) heads b ∙ ap (option_map (chain_of links)) f)) ∙ ap (λ w. chain_at w b) e)) i

      go : (o : Option ℕ) → slice_get heads b ≡ o → link.key ≡ entry.key
      go None f = absurd (seen None f)
      go (Some h) f = ap key_of (sym g) ∙ ap (λ (s : ℕ). key_of (slice_get links s)) (sym same) ∙ sym (entry_is links entry (members links h) (seen (Some h) f))

  -- the first slot of a chain with a slot
  pub head_read : (b slot first : ℕ) → HasSlot slot (chain_at v b) → slice_get heads b ≡ Some first → In slot (members links first)
  head_read b slot first h at = let (k, there, i) = head_there b slot h in subst (λ (x : ℕ). In slot (members links x)) (one_number k first (sym there ∙ at)) i

  pub number_there : (b slot : ℕ) → HasSlot slot (chain_at v b) → b < length heads
  number_there b slot h = let (k, there, i) = head_there b slot h in slice_get_within heads b k there

  pub none_first : (b first : ℕ) (x : Entry) → slice_get heads b ≡ Some first → In x (chain_at v b) → first ≢ no_link
  none_first b first x at i s = subst (λ es. In x es) (ap (λ w. chain_at w b) (sym e) ∙ chain_seen heads links slots b first at ∙ ap (chain_of links) s ∙ no_chain links fits) i

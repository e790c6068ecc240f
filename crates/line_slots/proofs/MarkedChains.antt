-- What pushing a slot and taking one out make of chains, with the marks of the links.
use Rattle.std.proofs.Common.{◌≡◌, ℕ, ◌+◌, ◌-◌, ◌<◌, ◌≤◌, List, [], ◌∷◌, ◌++◌, length, get_or, set, Some, IsSome, refl, sym, ap, ◌∙◌, subst, arith, inl, inr, length-append}
use Rattle.std.specs.Prelude.{count_by, slice_get, replicate, ◌==◌}
use Rattle.std.proofs.lemmas.Bool.{eq-eqb, eqb-true}
use Rattle.std.proofs.lemmas.List.{length-map, length-set}
use Rattle.std.proofs.lemmas.Option.{slice_get_within, slice_get-get_or}
use Rattle.std.proofs.lemmas.Simd.{length-replicate}
use Rattle.hic_word.specs.Lists.{In}
use Rattle.line_slots.specs.declared.chains.Link.{Link}
use Rattle.line_slots.specs.declared.entry.Entry.{Entry}
use Rattle.line_slots.specs.Linked.{LeadsTo}
use Rattle.line_slots.specs.ChainLists.{ChainLists, chain_at, entries, uses, with_chain, without_slot, HasSlot, IsUnchained, SameEntries}
use Rattle.line_slots.specs.ChainLinks.{chain_of, chains_of, linked_from, members, next_in, next_of, no_link, AreChained, HaveRoom}
use Rattle.line_slots.proofs.ListReads.{get_set_other, In-append_right}
use Rattle.line_slots.proofs.ChainReads.{chain_seen, ends_led, key_is, low, none_ends, slot_has}
use Rattle.line_slots.proofs.LinkLaws.{led_from, no_second}
use Rattle.line_slots.proofs.ChainWrites.{NewChains, one_number, map_same_at, still_chain, still_led, still_members}
use Rattle.line_slots.proofs.ChainCalls.{first_removed, later_written, pushed}
use Rattle.line_slots.proofs.Counts.{count-cons, in_slot, none-count, one, one-true, slot_in, slot_used}
use Rattle.line_slots.proofs.ChainCounts.{count-one_of, in_one_of}
use Rattle.line_slots.proofs.ChainSteps.{none_unchained, pushed_same, removed_same}
use Rattle.line_slots.proofs.Marks.{count-slot, count-written, longer_linked, not_marked, one_link, one_marked, one_unmarked, one_if, unused}

-- heads and links with their marks, and the chains that they make
pub record NewMarked (heads : List ℕ) (links : List Link) (slots heads_capacity links_capacity : ℕ) (lists : ChainLists) : Type 0 where
  pub kept : HaveRoom heads links slots heads_capacity links_capacity
  pub seen : chains_of heads links slots ≡ lists

-- a slot in no chain has no entry
unchained_none : (v : ChainLists) (slot : ℕ) → IsUnchained v slot → uses slot (entries v) ≡ 0
unchained_none v slot off = none-count (λ (x : Entry). x.slot == slot) (entries v) (λ x i t.
    let (b, j) = in_one_of x v.chains i in
    off b (subst (λ s. HasSlot s (chain_at v b)) (eqb-true x.slot slot t) (in_slot x (chain_at v b) j)))

-- a link that leads to a chain is no mark
pub led_small : (links : List Link) → length links ≤ no_link → (first : ℕ) (xs : List ℕ) → LeadsTo (next_in links) no_link first xs → first ≤ no_link
led_small links fits first [] h = omega (arith, h)
led_small links fits first (x ∷ xs) h = let a = low links fits x (subst (λ o. IsSome o) (sym h.2) refl) in let b = h.0 in omega (arith, a, b, fits)

-- nor is the link of a member
pub next_small : (links : List Link) → length links ≤ no_link → (first : ℕ) (xs : List ℕ) (x n : ℕ) → LeadsTo (next_in links) no_link first xs → In x xs → next_in links x ≡ Some n → n ≤ no_link
next_small links fits first [] x n h i e = absurd i
next_small links fits first (y ∷ ys) x n h (inl s) e = let a = led_small links fits h.1 ys h.3 in let c = one_number n h.1 (sym e ∙ ap (next_in links) (sym s) ∙ h.2) in omega (arith, a, c)
next_small links fits first (y ∷ ys) x n h (inr i) e = next_small links fits h.1 ys x n h.3 i e

-- a link of no chain is written
module _ (heads : List ℕ) (links : List Link) (slots capacity slot : ℕ) (link : Link) (v : ChainLists) (kept : AreChained heads links slots capacity) (e : chains_of heads links slots ≡ v) (off : IsUnchained v slot) where
  other : List Link
  other = set links slot link

  fits : length other ≤ no_link
  unfolding other
  fits = let a = kept.few in let c = kept.some in omega (arith, a, c, length-set links slot link)

  same : (c g x : ℕ) → slice_get heads c ≡ Some g → In x (members links g) → slice_get other x ≡ slice_get links x
  unfolding other
  same c g x f i = get_set_other links slot x link (λ s. off c (subst (λ t. HasSlot t (chain_at v c)) s (subst (λ es. HasSlot x es) (sym (chain_seen heads links slots c g f) ∙ ap (λ w. chain_at w c) e) (slot_has links x (members links g) i))))

  was_member : (c g s : ℕ) → slice_get heads c ≡ Some g → In s (members other g) → In s (members links g)
  was_member c g s f i = subst (λ ys. In s ys) (still_members links other fits g (kept.ends c g f) (λ x j. same c g x f j)) i

  pub written_off : NewChains heads (set links slot link) slots capacity v
  unfolding other
  written_off = record {
    kept = record {
      few = kept.few;
      some = rw (length-set links slot link) kept.some;
      room = kept.room;
      ends = λ c g f. ends_led other fits g (members links g) (still_led links other fits g (kept.ends c g f) (λ x i. same c g x f i));
      apart = λ b c h g s f k i j. kept.apart b c h g s f k (was_member b h s f i) (was_member c g s k j);
    };
    seen = ap (λ (cs : List (List Entry)). record { slots = slots; chains = cs }) (map_same_at (chain_of other) (chain_of links) heads (λ c g f. still_chain links other fits g (kept.ends c g f) (λ x i. same c g x f i))) ∙ e;
  }

module _ (heads : List ℕ) (links : List Link) (slots heads_capacity capacity : ℕ) (v : ChainLists) (kept : HaveRoom heads links slots heads_capacity capacity) (e : chains_of heads links slots ≡ v) where
  linked : SameEntries (entries v) (linked_from 0 links)
  linked = subst (λ w. SameEntries (entries w) (linked_from 0 links)) e kept.marked

  once : (slot : ℕ) → uses slot (entries v) ≤ 1
  once slot = let a = linked (λ (x : Entry). x.slot == slot) in let b = count-slot 0 slot slot links (omega arith) in let c = one_link (slice_get links slot) in omega (arith, a, b, c)

  head_small : (b h : ℕ) → slice_get heads b ≡ Some h → h ≤ no_link
  head_small b h at = led_small links (let a = kept.chained.few in let c = kept.chained.some in omega (arith, a, c)) h (members links h) (kept.chained.ends b h at)

  module _ (b h slot key room : ℕ) (new : List Link) (at : slice_get heads b ≡ Some h) (small : slot < slots) (wide : slots ≤ room) (off : IsUnchained v slot)
      (written : new ≡ set (links ++ replicate (slot + 1 - length links) unused) slot (record { next = h; key = key })) where
    longer : List Link
    longer = links ++ replicate (slot + 1 - length links) unused

    there : slice_get longer slot ≡ Some (get_or longer slot unused)
    unfolding longer
    there = slice_get-get_or longer slot unused (let a = length-append links (replicate (slot + 1 - length links) unused) in let c = length-replicate (slot + 1 - length links) unused in omega (arith, a, c))

    was_marked : one_if (Some (get_or longer slot unused)) ≡ 0
    unfolding longer
    was_marked =
        let a = count-slot 0 slot slot longer (omega arith) in
        let c = ap one_if there in
        let d = ap (λ es. count_by (λ (x : Entry). x.slot == slot) es) (longer_linked 0 (slot + 1 - length links) links) in
        let f = linked (λ (x : Entry). x.slot == slot) in
        let g = unchained_none v slot off in
        omega (arith, a, c, d, f, g)

    pub pushed_marked : NewMarked (set heads b slot) new slots heads_capacity room (with_chain v b (record { slot = slot; key = key } ∷ chain_at v b))
    unfolding longer
    pushed_marked =
        let entry : Entry = record { slot = slot; key = key } in
        let link : Link = record { next = h; key = key } in
        let n = pushed heads links slots capacity v kept.chained e b h slot at key room unused new small wide off written in
        let count = ap (λ (w : ChainLists). length w.chains) e in
        let low_number : b < length v.chains = let a = slice_get_within heads b h at in let c = length-map heads (chain_of links) in omega (arith, a, c, count) in
        record {
          kept = record {
            chained = n.kept;
            marked = λ test.
                let a = ap (λ w. count_by test (entries w)) n.seen in
                let c = pushed_same v _ b entry low_number refl test in
                let d = count-cons test entry (entries v) in
                let f = linked test in
                let g = ap (λ es. count_by test es) (longer_linked 0 (slot + 1 - length links) links) in
                let i = count-written test 0 slot slot longer (get_or longer slot unused) link (omega arith) there in
                let j = one_marked test slot (get_or longer slot unused) was_marked in
                let k = one_unmarked test slot link (not_marked link (head_small b h at)) in
                let l = ap (λ ls. count_by test (linked_from 0 ls)) written in
                omega (arith, a, c, d, f, g, i, j, k, l);
            few = rw (length-set heads b slot) kept.few;
            room = kept.room;
          };
          seen = n.seen;
        }

  -- a slot is taken out of its chain, and its link is marked
  module _ (hs : List ℕ) (ls : List Link) (b slot : ℕ) (link : Link) (has : HasSlot slot (chain_at v b)) (out : NewChains hs ls slots capacity (with_chain v b (without_slot slot (chain_at v b)))) (count : length hs ≡ length heads)
      (same_links : SameEntries (linked_from 0 ls) (linked_from 0 links)) (read : slice_get links slot ≡ Some link) (reads : slice_get ls slot ≡ Some link) where
    left : ChainLists
    left = with_chain v b (without_slot slot (chain_at v b))

    entry : Entry
    entry = record { slot = slot; key = link.key }

    there_in : In entry (chain_at v b)
    unfolding entry
    there_in =
        let (x, i, s) = slot_in slot (chain_at v b) has in
        let k = key_is heads links slots capacity v kept.chained e slot link read b x i s in
        subst (λ (y : Entry). In y (chain_at v b)) (λ t. record { slot = s t; key = sym k t }) i

    less : SameEntries (entries v) (entry ∷ entries left)
    unfolding entry left
    less = removed_same v left b entry there_in (once slot) refl

    unmarked : 1 ≤ one_if (Some link)
    unmarked =
        let a = linked (λ (x : Entry). x.slot == slot) in
        let c = count-slot 0 slot slot links (omega arith) in
        let d = ap one_if read in
        let f = slot_used slot (chain_at v b) has in
        let g = count-one_of (λ (x : Entry). x.slot == slot) v.chains b in
        omega (arith, a, c, d, f, g)

    gone : IsUnchained left slot
    unfolding entry
    gone = none_unchained left slot (
        let a = less (λ (x : Entry). x.slot == slot) in
        let c = count-cons (λ (x : Entry). x.slot == slot) entry (entries left) in
        let d : one (slot == slot) ≡ 1 = one-true (slot == slot) (eq-eqb slot slot refl) in
        let f = once slot in
        omega (arith, a, c, d, f))

    pub removed_marked : NewMarked hs (set ls slot unused) slots heads_capacity capacity (with_chain v b (without_slot slot (chain_at v b)))
    unfolding entry left
    removed_marked =
        let n = written_off hs ls slots capacity slot unused left out.kept out.seen gone in
        record {
          kept = record {
            chained = n.kept;
            marked = λ test.
                let a = ap (λ w. count_by test (entries w)) n.seen in
                let c = less test in
                let d = count-cons test entry (entries left) in
                let f = linked test in
                let g = same_links test in
                let i = count-written test 0 slot slot ls link unused (omega arith) reads in
                let j = one_unmarked test slot link unmarked in
                let k = one_marked test slot unused refl in
                omega (arith, a, c, d, f, g, i, j, k);
            few = let a = kept.few in omega (arith, a, count);
            room = kept.room;
          };
          seen = n.seen;
        }

  module _ (b h slot : ℕ) (link : Link) (at : slice_get heads b ≡ Some h) (has : HasSlot slot (chain_at v b)) (there : In slot (members links h)) (read : slice_get links slot ≡ Some link) where
    pub first_marked : h ≡ slot → NewMarked (set heads b link.next) (set links slot unused) slots heads_capacity capacity (with_chain v b (without_slot slot (chain_at v b)))
    first_marked s = removed_marked (set heads b link.next) links b slot link has (first_removed heads links slots capacity v kept.chained e b h slot at link read s)
        (length-set heads b link.next) (λ test. refl) read read

    module _ (ls : List Link) (before : ℕ) (held new : Link) (xs ys : List ℕ) (f : ls ≡ links) (g : members ls h ≡ xs ++ before ∷ slot ∷ ys) (reads : slice_get links before ≡ Some held) (leads : new.next ≡ link.next) (keeps : new.key ≡ held.key) where
      split : members links h ≡ xs ++ before ∷ slot ∷ ys
      split = subst (λ zs. members zs h ≡ xs ++ before ∷ slot ∷ ys) f g

      few : length links ≤ no_link
      few = let a = kept.chained.few in let c = kept.chained.some in omega (arith, a, c)

      others : before ≡ slot → ⊥
      others s =
          let (l, k) = led_from (next_in links) no_link h xs (before ∷ slot ∷ ys) (subst (λ zs. LeadsTo (next_in links) no_link h zs) split (kept.chained.ends b h at)) in
          no_second (next_in links) no_link (none_ends links few) l before (slot ∷ ys) k (inl (sym s))

      small : (x : ℕ) (l : Link) → In x (members links h) → slice_get links x ≡ Some l → l.next ≤ no_link
      small x l i k = next_small links few h (members links h) x l.next (kept.chained.ends b h at) i (ap next_of k)

      same_links : SameEntries (linked_from 0 (set links before new)) (linked_from 0 links)
      same_links test =
          let a = count-written test 0 before before links held new (omega arith) reads in
          let c = one_unmarked test before held (not_marked held (small before held (subst (λ zs. In before zs) (sym split) (In-append_right before xs (before ∷ slot ∷ ys) (inl refl))) reads)) in
          let d = one_unmarked test before new (not_marked new (let i = small slot link there read in omega (arith, i, leads))) in
          let i = ap (λ k. one (test (record { slot = before; key = k }))) keeps in
          omega (arith, a, c, d, i)

      pub later_marked : NewMarked heads (set (set links before new) slot unused) slots heads_capacity capacity (with_chain v b (without_slot slot (chain_at v b)))
      later_marked = removed_marked heads (set links before new) b slot link has (later_written heads links slots capacity v kept.chained e b h slot at ls before held link new xs ys f g reads read leads keeps)
          refl same_links read (get_set_other links before slot new (λ s. others (sym s)) ∙ read)

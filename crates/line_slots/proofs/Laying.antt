-- What laying out the links below a slot has made of chains.
use Rattle.std.proofs.Common.{◌≡◌, ◌≢◌, ℕ, Bool, cond, zero, suc, ◌+◌, ◌*◌, ◌-◌, ◌<◌, ◌≤◌, ◌^◌, List, [], ◌∷◌, ◌++◌, length, drop, map, set, Some, refl, sym, ap, ◌∙◌, subst, arith, inl, inr, add-one, append-nil}
use Rattle.std.specs.Prelude.{count_by, flat_map, slice_get, replicate, unwrap_or}
use Rattle.std.proofs.lemmas.Bool.{eq-eqb, ne_eqb}
use Rattle.std.proofs.Math.Seq.{drop-cons, drop-length}
use Rattle.std.proofs.lemmas.List.{length-map, length-set, map-set}
use Rattle.std.proofs.lemmas.Option.{get_or_from_slice_get, slice_get_within}
use Rattle.std.proofs.lemmas.Simd.{length-replicate}
use Rattle.hic_word.specs.Lists.{In}
use Rattle.line_slots.specs.declared.chains.Link.{Link}
use Rattle.line_slots.specs.declared.entry.Entry.{Entry}
use Rattle.line_slots.specs.ChainLists.{ChainLists, chain_at, entries, with_chain, IsUnchained, SameEntries}
use Rattle.line_slots.specs.ChainLinks.{chain_of, chains_of, first_in, kinds_in, linked_from, members, no_link, unlinked, AreChained, AreHeld, AreLaidOut, Ends, HaveRoom, HasKind, TellKinds}
use Rattle.line_slots.specs.KeyNumbers.{chain_number}
use Rattle.line_slots.proofs.ListReads.{get_set_other}
use Rattle.line_slots.proofs.ChainReads.{ends_led, no_chain, none_first, none_led}
use Rattle.line_slots.proofs.ChainWrites.{NewChains}
use Rattle.line_slots.proofs.ChainCalls.{pushed}
use Rattle.line_slots.proofs.Counts.{count-cons, slot_in}
use Rattle.line_slots.proofs.ChainSteps.{pushed_in, pushed_same}
use Rattle.line_slots.proofs.Marks.{count-linked, count-written, not_marked, one_marked, one_unmarked, one_if, unused}
use Rattle.line_slots.proofs.ChainKinds.{first_read, kinds_front}
use Rattle.line_slots.proofs.MarkedChains.{led_small}

-- the entries of the unmarked links below a slot are in the chains for their keys; the links from there on are as before
pub record AreLaid (bits slot : ℕ) (old : List Link) (heads : List ℕ) (links : List Link) : Type 0 where
  pub chained : AreChained heads links (length old) (length old)
  pub count : length heads ≡ 2 ^ bits
  pub size : length links ≡ length old
  pub own : (b : ℕ) (e : Entry) → In e (chain_at (chains_of heads links (length old)) b) → chain_number bits e.key ≡ b
  pub below : (b : ℕ) (e : Entry) → In e (chain_at (chains_of heads links (length old)) b) → e.slot < slot
  pub later : (k : ℕ) → slot ≤ k → slice_get links k ≡ slice_get old k
  pub entered : (test : Entry → Bool) → count_by test (entries (chains_of heads links (length old))) + count_by test (linked_from slot (drop slot old)) ≡ count_by test (linked_from 0 old)
  pub marked : SameEntries (linked_from 0 links) (linked_from 0 old)

-- before the first
module _ (links : List Link) (few : length links < 2 ^ 24) where
  head_none : (n b h : ℕ) → slice_get (replicate n no_link) b ≡ Some h → h ≡ no_link
  head_none zero b h e = cc
  head_none (suc n) zero h e = cc
  head_none (suc n) (suc b) h e = head_none n b h e

  not_in : (n b h s : ℕ) → slice_get (replicate n no_link) b ≡ Some h → In s (members links h) → ⊥
  not_in n b h s e i = subst (λ xs. In s xs) (ap (members links) (head_none n b h e) ∙ none_led links (omega arith)) i

  no_entry : (n b : ℕ) → unwrap_or (slice_get (map (chain_of links) (replicate n no_link)) b) [] ≡ []
  no_entry zero b = refl
  no_entry (suc n) zero = no_chain links (omega arith)
  no_entry (suc n) (suc b) = no_entry n b

  no_entries : (n : ℕ) → flat_map (λ (chain : List Entry). chain) (map (chain_of links) (replicate n no_link)) ≡ []
  no_entries zero = refl
  no_entries (suc n) = ap (λ es. es ++ flat_map (λ (chain : List Entry). chain) (map (chain_of links) (replicate n no_link))) (no_chain links (omega arith)) ∙ no_entries n

  pub laid_none : (bits : ℕ) (heads : List ℕ) → heads ≡ replicate (2 ^ bits) no_link → AreLaid bits 0 links heads links
  laid_none bits heads e = subst (λ hs. AreLaid bits 0 links hs links) (sym e) (record {
    chained = record {
      few = few;
      some = omega arith;
      room = omega arith;
      ends = λ b h f. subst (λ g. Ends links g) (sym (head_none (2 ^ bits) b h f)) (ends_led links (omega arith) no_link [] refl);
      apart = λ b c h g s f k i j. absurd (not_in (2 ^ bits) b h s f i);
    };
    count = length-replicate (2 ^ bits) no_link;
    size = refl;
    own = λ b x i. absurd (subst (λ es. In x es) (no_entry (2 ^ bits) b) i);
    below = λ b x i. absurd (subst (λ es. In x es) (no_entry (2 ^ bits) b) i);
    later = λ k h. refl;
    entered = λ test. let a = ap (λ es. count_by test es) (no_entries (2 ^ bits)) in omega (arith, a);
    marked = λ test. refl;
  })

module _ (bits slot : ℕ) (old : List Link) (heads : List ℕ) (links : List Link) (link : Link) (laid : AreLaid bits slot old heads links) (read : slice_get links slot ≡ Some link) where
  abbrev pub view : ChainLists
  view = chains_of heads links (length old)

  low_slot : slot < length old
  low_slot = let a = slice_get_within links slot link read in let b = laid.size in omega (arith, a, b)

  -- the first of the links that are left
  rest : drop slot old ≡ link ∷ drop (slot + 1) old
  rest = rw add-one (drop-cons old slot link low_slot ∙ ap (λ l. l ∷ drop (suc slot) old) (get_or_from_slice_get old slot link link (sym (laid.later slot (omega arith)) ∙ read)))

  -- a marked link is passed by
  pub laid_past : link.next ≡ unlinked → AreLaid bits (slot + 1) old heads links
  laid_past m = record {
    chained = laid.chained;
    count = laid.count;
    size = laid.size;
    own = laid.own;
    below = λ b e i. let a = laid.below b e i in omega (arith, a);
    later = λ k h. laid.later k (omega (arith, h));
    entered = λ test.
        let a = laid.entered test in
        let b = ap (λ ls. count_by test (linked_from slot ls)) rest in
        let c = count-linked test slot link (drop (slot + 1) old) in
        let d = one_marked test slot link (ap (λ (t : Bool). cond {A = ℕ} t 0 1) (eq-eqb link.next unlinked m)) in
        omega (arith, a, b, c, d);
    marked = laid.marked;
  }

  module _ (b h : ℕ) (apart : link.next ≢ unlinked) (number : b ≡ chain_number bits link.key) (at : slice_get heads b ≡ Some h) where
    abbrev pub entry : Entry
    entry = record { slot = slot; key = link.key }

    abbrev pub new : Link
    new = record { next = h; key = link.key }

    off : IsUnchained view slot
    off c i = let (x, j, s) = slot_in slot (chain_at (chains_of heads links (length old)) c) i in let a = laid.below c x j in omega (arith, a, s)

    pub low_number : b < length view.chains
    low_number = let a = slice_get_within heads b h at in let c = length-map heads (chain_of links) in omega (arith, a, c)

    written : set links slot new ≡ set (links ++ replicate (slot + 1 - length links) unused) slot new
    written = ap (λ ls. set ls slot new) (sym (ap (λ n. links ++ replicate n unused) (let a = low_slot in let c = laid.size in let d : slot + 1 - length links ≡ 0 = omega (arith, a, c) in d) ∙ append-nil links))

    is_linked : 1 ≤ one_if (Some link)
    is_linked = let a = ap (λ (t : Bool). cond {A = ℕ} t 0 1) (ne_eqb link.next unlinked apart) in omega (arith, a)

    small : h ≤ no_link
    small = led_small links (let a = laid.chained.few in let c = laid.chained.some in omega (arith, a, c)) h (members links h) (laid.chained.ends b h at)

    pub anew : NewChains (set heads b slot) (set links slot new) (length old) (length old) (with_chain view b (entry ∷ chain_at view b))
    anew = pushed heads links (length old) (length old) view laid.chained refl b h slot at link.key (length old) unused (set links slot new) low_slot (omega arith) off written

    -- an unmarked link becomes the first of its chain
    pub laid_on : AreLaid bits (slot + 1) old (set heads b slot) (set links slot (record { next = h; key = link.key }))
    laid_on =
        let n = anew in
        let into = pushed_in view (chains_of (set heads b slot) (set links slot new) (length old)) b entry low_number n.seen in
        let same = pushed_same view (chains_of (set heads b slot) (set links slot new) (length old)) b entry low_number n.seen in
        record {
          chained = n.kept;
          count = length-set heads b slot ∙ laid.count;
          size = length-set links slot new ∙ laid.size;
          own = λ c x i. elim (into c x i) [
            | inl p ↦ ap (λ (y : Entry). chain_number bits y.key) (sym p.1) ∙ sym number ∙ sym p.0
            | inr j ↦ laid.own c x j
          ];
          below = λ c x i. elim (into c x i) [
            | inl p ↦ let a : slot ≡ x.slot = ap (λ (y : Entry). y.slot) p.1 in omega (arith, a)
            | inr j ↦ let a = laid.below c x j in omega (arith, a)
          ];
          later = λ k far. get_set_other links slot k new (λ e. omega (arith, e, far)) ∙ laid.later k (omega (arith, far));
          entered = λ test.
              let a = laid.entered test in
              let c = same test in
              let d = count-cons test entry (entries view) in
              let f = ap (λ ls. count_by test (linked_from slot ls)) rest in
              let g = count-linked test slot link (drop (slot + 1) old) in
              let i = one_unmarked test slot link is_linked in
              omega (arith, a, c, d, f, g, i);
          marked = λ test.
              let a = laid.marked test in
              let c = count-written test 0 slot slot links link new (omega arith) read in
              let d = one_unmarked test slot link is_linked in
              let f = one_unmarked test slot new (not_marked new small) in
              omega (arith, a, c, d, f);
        }

pub laid_all : (bits slot : ℕ) (old : List Link) (heads : List ℕ) (links : List Link) → slot ≡ length old → AreLaid bits slot old heads links → AreLaidOut bits old heads links
laid_all bits slot old heads links e laid = record {
  chained = laid.chained;
  count = laid.count;
  own = laid.own;
  entered = λ test.
      let a = laid.entered test in
      let b = ap (λ ls. count_by test (linked_from slot ls)) (ap (λ n. drop n old) e ∙ drop-length old) in
      omega (arith, a, b);
  marked = laid.marked;
}

-- so it is with the first slots of heads, whose kinds tell of the entries
pub record AreLaidHeads (bits slot : ℕ) (old : List Link) (heads : List ℕ) (links : List Link) : Type 0 where
  pub laid : AreLaid bits slot old (map first_in heads) links
  pub kinds : TellKinds heads (chains_of (map first_in heads) links (length old))

no_firsts : (n : ℕ) → map first_in (replicate n no_link) ≡ replicate n no_link
no_firsts zero = refl
no_firsts (suc n) = ap (λ fs. no_link ∷ fs) (no_firsts n)

pub heads_none : (links : List Link) (bits : ℕ) (heads : List ℕ) → length links < 2 ^ 24 → heads ≡ replicate (2 ^ bits) no_link → AreLaidHeads bits 0 links heads links
heads_none links bits heads few e =
    let firsts = ap (map first_in) e ∙ no_firsts (2 ^ bits) in
    let laid = laid_none links few bits (map first_in heads) firsts in
    record { laid = laid; kinds = λ b h x at i. absurd (let a = laid.below b x i in omega (arith, a)) }

module _ (bits slot : ℕ) (old : List Link) (heads : List ℕ) (links : List Link) (link : Link) (laid : AreLaidHeads bits slot old heads links) (read : slice_get links slot ≡ Some link) where
  pub heads_past : link.next ≡ unlinked → AreLaidHeads bits (slot + 1) old heads links
  heads_past m = record { laid = laid_past bits slot old (map first_in heads) links link laid.laid read m; kinds = laid.kinds }

  pub heads_on : (b h g n : ℕ) → link.next ≢ unlinked → b ≡ chain_number bits link.key → slice_get heads b ≡ Some h → n ≡ first_in h → first_in g ≡ slot → HasKind (kinds_in g) link.key
      → (first_in h ≢ no_link → (k : ℕ) → HasKind (kinds_in h) k → HasKind (kinds_in g) k) → AreLaidHeads bits (slot + 1) old (set heads b g) (set links slot (record { next = n; key = link.key }))
  heads_on b h g n apart number at next first own others =
      let firsts : map first_in (set heads b g) ≡ set (map first_in heads) b slot = map-set first_in heads b g ∙ ap (set (map first_in heads) b) first in
      let there = first_read heads b h at in
      let seen = (anew bits slot old (map first_in heads) links link laid.laid read b (first_in h) apart number there).seen in
      let told = kinds_front heads (chains_of (map first_in heads) links (length old)) b h g (record { slot = slot; key = link.key }) laid.kinds at
      (low_number bits slot old (map first_in heads) links link laid.laid read b (first_in h) apart number there) own
      (λ x i. others (none_first (map first_in heads) links (length old) (length old) _ laid.laid.chained refl b (first_in h) x there i)) in
      subst (λ k. AreLaidHeads bits (slot + 1) old (set heads b g) (set links slot (record { next = k; key = link.key }))) (sym next) (record {
        laid = subst (λ fs. AreLaid bits (slot + 1) old fs (set links slot (record { next = first_in h; key = link.key }))) (sym firsts) (laid_on bits slot old (map first_in heads) links link laid.laid read b (first_in h) apart number there);
        kinds = subst (λ v. TellKinds (set heads b g) v) (sym seen ∙ ap (λ fs. chains_of fs (set links slot (record { next = first_in h; key = link.key })) (length old)) (sym firsts)) told;
      })

-- all chains are laid out anew
module _ (bits : ℕ) (heads : List ℕ) (links : List Link) (slots heads_capacity capacity : ℕ) (v : ChainLists) (kept : HaveRoom heads links slots heads_capacity capacity) (e : chains_of heads links slots ≡ v)
    (hs : List ℕ) (ls : List Link) (out : AreLaidOut bits links hs ls) where
  pub regrown_kept : (room : ℕ) → 2 ^ bits ≤ 2 * slots → heads_capacity ≤ room → HaveRoom hs ls slots room capacity
  regrown_kept room fits wide = record {
    chained = record {
      few = kept.chained.few;
      some = let a = out.chained.some in let b = kept.chained.some in omega (arith, a, b);
      room = kept.chained.room;
      ends = out.chained.ends;
      apart = out.chained.apart;
    };
    marked = λ test. out.entered test ∙ sym (out.marked test);
    few = let a = out.count in omega (arith, a, fits);
    room = let a = kept.room in omega (arith, a, wide);
  }

  pub regrown_entries : SameEntries (entries (chains_of hs ls slots)) (entries v)
  regrown_entries test = out.entered test ∙ sym (kept.marked test) ∙ ap (λ w. count_by test (entries w)) e

-- so it is with the first slots of heads
pub regrown_held : (bits : ℕ) (heads : List ℕ) (links : List Link) (slots heads_capacity capacity : ℕ) (v : ChainLists) → AreHeld heads links slots heads_capacity capacity → chains_of (map first_in heads) links slots ≡ v
    → (hs : List ℕ) (ls : List Link) → AreLaidOut bits links (map first_in hs) ls → TellKinds hs (chains_of (map first_in hs) ls (length links)) → (room : ℕ) → 2 ^ bits ≤ 2 * slots → heads_capacity ≤ room → AreHeld hs ls slots room capacity
regrown_held bits heads links slots heads_capacity capacity v kept e hs ls out kinds room fits wide = record {
  firsts = regrown_kept bits (map first_in heads) links slots heads_capacity capacity v kept.firsts e (map first_in hs) ls out room fits wide;
  kinds = kinds;
}

-- What pushing a slot and taking one out make of chains, with the kinds of their heads.
use Rattle.std.proofs.Common.{◌≡◌, ◌≢◌, ℕ, ◌+◌, ◌-◌, ◌<◌, ◌≤◌, ◌^◌, List, ◌∷◌, ◌++◌, length, get_or, map, set, Some, refl, sym, ap, ◌∙◌, subst, arith}
use Rattle.std.specs.Prelude.{slice_get, replicate}
use Rattle.std.proofs.lemmas.List.{length-map, map-set}
use Rattle.std.proofs.lemmas.Option.{slice_get_read, slice_get_within}
use Rattle.hic_word.specs.Lists.{In}
use Rattle.line_slots.specs.declared.chains.Link.{Link}
use Rattle.line_slots.specs.ChainLists.{ChainLists, chain_at, with_chain, without_slot, HasSlot, IsUnchained}
use Rattle.line_slots.specs.ChainLinks.{chain_of, chains_of, first_in, kinds_in, members, next_of, no_link, AreHeld, Ends, HaveRoom, HasKind, TellKinds}
use Rattle.line_slots.proofs.ChainReads.{head_read, none_first, number_there}
use Rattle.line_slots.proofs.ChainCalls.{before_index}
use Rattle.line_slots.proofs.ChainSteps.{fewer_in}
use Rattle.line_slots.proofs.Marks.{unused}
use Rattle.line_slots.proofs.MarkedChains.{NewMarked, first_marked, later_marked, next_small, pushed_marked}
use Rattle.line_slots.proofs.ChainKinds.{first_read, kinds_fewer, kinds_front, kinds_written}

-- heads and links, and the chains that they make
pub record NewHeld (heads : List ℕ) (links : List Link) (slots heads_capacity links_capacity : ℕ) (lists : ChainLists) : Type 0 where
  pub kept : AreHeld heads links slots heads_capacity links_capacity
  pub seen : chains_of (map first_in heads) links slots ≡ lists

held : (heads firsts : List ℕ) (links : List Link) (slots heads_capacity capacity : ℕ) (v : ChainLists) → map first_in heads ≡ firsts → NewMarked firsts links slots heads_capacity capacity v → TellKinds heads v → NewHeld heads links slots heads_capacity capacity v
held heads firsts links slots heads_capacity capacity v e n told =
    let seen = ap (λ fs. chains_of fs links slots) e ∙ n.seen in
    record {
      kept = record { firsts = subst (λ fs. HaveRoom fs links slots heads_capacity capacity) (sym e) n.kept; kinds = subst (λ w. TellKinds heads w) (sym seen) told };
      seen = seen;
    }

-- the head that is read of a chain with a slot
pub head_held : (heads : List ℕ) (links : List Link) (slots heads_capacity capacity : ℕ) (v : ChainLists) → AreHeld heads links slots heads_capacity capacity → chains_of (map first_in heads) links slots ≡ v → (b h slot : ℕ) → HasSlot slot (chain_at v b) → h ≡ get_or heads b h → slice_get heads b ≡ Some h
head_held heads links slots heads_capacity capacity v kept e b h slot has g =
    let low = number_there (map first_in heads) links slots capacity v kept.firsts.chained e b slot has in
    slice_get_read heads (length heads) b h refl (let a = length-map heads first_in in omega (arith, a, low)) g

module _ (heads : List ℕ) (links : List Link) (slots heads_capacity capacity : ℕ) (v : ChainLists) (kept : AreHeld heads links slots heads_capacity capacity) (e : chains_of (map first_in heads) links slots ≡ v) (b h : ℕ) (at : slice_get heads b ≡ Some h) where
  pub ends_held : Ends links (first_in h)
  ends_held = kept.firsts.chained.ends b (first_in h) (first_read heads b h at)

  told : TellKinds heads v
  told = subst (λ w. TellKinds heads w) e kept.kinds

  low : b < length v.chains
  low = let a = slice_get_within heads b h at in let c = ap (λ (w : ChainLists). length w.chains) e in let d = length-map (map first_in heads) (chain_of links) in let f = length-map heads first_in in omega (arith, a, c, d, f)

  written_first : (g n : ℕ) → first_in g ≡ n → map first_in (set heads b g) ≡ set (map first_in heads) b n
  written_first g n f = map-set first_in heads b g ∙ ap (set (map first_in heads) b) f

  pub pushed_held : (slot key room g : ℕ) (new : List Link) → slot < slots → slots ≤ room → IsUnchained v slot → new ≡ set (links ++ replicate (slot + 1 - length links) unused) slot (record { next = first_in h; key = key })
      → first_in g ≡ slot → HasKind (kinds_in g) key → (first_in h ≢ no_link → (k : ℕ) → HasKind (kinds_in h) k → HasKind (kinds_in g) k) → NewHeld (set heads b g) new slots heads_capacity room (with_chain v b (record { slot = slot; key = key } ∷ chain_at v b))
  pushed_held slot key room g new small wide off written first own others =
      held (set heads b g) _ new slots heads_capacity room _ (written_first g slot first)
      (pushed_marked (map first_in heads) links slots heads_capacity capacity v kept.firsts e b (first_in h) slot key room new (first_read heads b h at) small wide off written)
      (kinds_front heads v b h g (record { slot = slot; key = key }) told at low own (λ x i. others (none_first (map first_in heads) links slots capacity v kept.firsts.chained e b (first_in h) x (first_read heads b h at) i)))

  module _ (slot : ℕ) (link : Link) (has : HasSlot slot (chain_at v b)) (read : slice_get links slot ≡ Some link) where
    pub there : In slot (members links (first_in h))
    there = head_read (map first_in heads) links slots capacity v kept.firsts.chained e b slot (first_in h) has (first_read heads b h at)

    pub next_held : link.next < 2 ^ 24
    next_held =
        let few : length links ≤ no_link = let a = kept.firsts.chained.few in let c = kept.firsts.chained.some in omega (arith, a, c) in
        let a = next_small links few (first_in h) (members links (first_in h)) slot link.next ends_held there (ap next_of read) in
        omega (arith, a)

    -- the slot before, which the search finds
    pub before_held : (ls : List Link) (before : ℕ) (xs ys : List ℕ) → ls ≡ links → members ls (first_in h) ≡ xs ++ before ∷ slot ∷ ys → before < length links
    before_held = before_index (map first_in heads) links slots capacity v kept.firsts.chained e b (first_in h) slot (first_read heads b h at)

    less : TellKinds heads (with_chain v b (without_slot slot (chain_at v b)))
    less = kinds_fewer heads v (with_chain v b (without_slot slot (chain_at v b))) told (fewer_in v b slot low)

    pub first_held : (g : ℕ) → first_in h ≡ slot → first_in g ≡ link.next → kinds_in g ≡ kinds_in h → NewHeld (set heads b g) (set links slot unused) slots heads_capacity capacity (with_chain v b (without_slot slot (chain_at v b)))
    first_held g s first kind =
        held (set heads b g) _ (set links slot unused) slots heads_capacity capacity _ (written_first g link.next first)
        (first_marked (map first_in heads) links slots heads_capacity capacity v kept.firsts e b (first_in h) slot link (first_read heads b h at) has there read s)
        (kinds_written heads (with_chain v b (without_slot slot (chain_at v b))) b h g less at kind)

    pub later_held : (ls : List Link) (before : ℕ) (old new : Link) (xs ys : List ℕ) → ls ≡ links → members ls (first_in h) ≡ xs ++ before ∷ slot ∷ ys → slice_get links before ≡ Some old → new.next ≡ link.next → new.key ≡ old.key
        → NewHeld heads (set (set links before new) slot unused) slots heads_capacity capacity (with_chain v b (without_slot slot (chain_at v b)))
    later_held ls before old new xs ys f g reads leads keeps =
        held heads _ (set (set links before new) slot unused) slots heads_capacity capacity _ refl
        (later_marked (map first_in heads) links slots heads_capacity capacity v kept.firsts e b (first_in h) slot link (first_read heads b h at) has there read ls before old new xs ys f g reads leads keeps)
        less

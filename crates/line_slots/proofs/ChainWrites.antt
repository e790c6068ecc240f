-- What a call makes of chains, by the links that it writes.
use Rattle.std.proofs.Common.{◌≡◌, ℕ, zero, suc, ◌≤◌, List, [], ◌∷◌, length, map, set, Option, Some, refl, sym, ap, ◌∙◌, subst, arith, inl, inr, ◌⊎◌}
use Rattle.std.specs.Prelude.{slice_get}
use Rattle.std.proofs.lemmas.Bool.{cases_eq}
use Rattle.std.proofs.lemmas.List.{map-set}
use Rattle.std.proofs.lemmas.Option.{slice_get_within}
use Rattle.hic_word.specs.Lists.{In}
use Rattle.line_slots.specs.declared.chains.Link.{Link}
use Rattle.line_slots.specs.declared.entry.Entry.{Entry}
use Rattle.line_slots.specs.Linked.{LeadsTo}
use Rattle.line_slots.specs.ChainLists.{ChainLists, with_chain}
use Rattle.line_slots.specs.ChainLinks.{chain_of, chains_of, entry_in, key_of, members, next_in, next_of, no_link, AreChained, Ends}
use Rattle.line_slots.proofs.LinkLaws.{leads_same}
use Rattle.line_slots.proofs.ListReads.{get_set_other, get_set_same}
use Rattle.line_slots.proofs.ChainReads.{ends_led, members-led}

pub record NewChains (heads : List ℕ) (links : List Link) (slots capacity : ℕ) (lists : ChainLists) : Type 0 where
  pub kept : AreChained heads links slots capacity
  pub seen : chains_of heads links slots ≡ lists

pub map_same : {X Y : Type 0} (f g : X → Y) (xs : List X) → ((x : X) → In x xs → f x ≡ g x) → map f xs ≡ map g xs
map_same f g [] h = refl
map_same f g (x ∷ xs) h = ap (λ y. y ∷ map f xs) (h x (inl refl)) ∙ ap (λ ys. g x ∷ ys) (map_same f g xs (λ y i. h y (inr i)))

pub map_same_at : {X Y : Type 0} (f g : X → Y) (xs : List X) → ((c : ℕ) (x : X) → slice_get xs c ≡ Some x → f x ≡ g x) → map f xs ≡ map g xs
map_same_at f g [] h = refl
map_same_at f g (x ∷ xs) h = ap (λ y. y ∷ map f xs) (h 0 x refl) ∙ ap (λ ys. g x ∷ ys) (map_same_at f g xs (λ c z e. h (suc c) z e))

-- two maps that differ in one place at most
set-map_other : {X Y : Type 0} (f g : X → Y) (xs : List X) (b : ℕ) (y : Y) → ((c : ℕ) (x : X) → (c ≡ b → ⊥) → slice_get xs c ≡ Some x → f x ≡ g x) → set (map f xs) b y ≡ set (map g xs) b y
set-map_other f g [] b y h = refl
set-map_other f g (x ∷ xs) zero y h = ap (λ ys. y ∷ ys) (map_same_at f g xs (λ c z e. h (suc c) z (λ n. omega arith) e))
set-map_other f g (x ∷ xs) (suc b) y h = ap (λ z. z ∷ set (map f xs) b y) (h 0 x (λ e. omega arith) refl) ∙ ap (λ ys. g x ∷ ys) (set-map_other f g xs b y (λ c z n e. h (suc c) z (λ m. n (omega arith)) e))

pub next_same : (links other : List Link) (x : ℕ) → slice_get other x ≡ slice_get links x → next_in other x ≡ next_in links x
next_same links other x e = ap next_of e

pub entry_same : (links other : List Link) (x : ℕ) → slice_get other x ≡ slice_get links x → entry_in other x ≡ entry_in links x
entry_same links other x e = ap (λ (o : Option Link). record { slot = x; key = key_of o }) e

-- a chain whose links are as before
module _ (links other : List Link) (fits : length other ≤ no_link) (first : ℕ) (ends : Ends links first) (same : (x : ℕ) → In x (members links first) → slice_get other x ≡ slice_get links x) where
  pub still_led : LeadsTo (next_in other) no_link first (members links first)
  still_led = leads_same (next_in links) (next_in other) no_link first (members links first) (λ x i. next_same links other x (same x i)) ends

  pub still_members : members other first ≡ members links first
  still_members = members-led other fits first (members links first) still_led

  pub still_chain : chain_of other first ≡ chain_of links first
  still_chain = ap (map (entry_in other)) still_members ∙ map_same (entry_in other) (entry_in links) (members links first) (λ x i. entry_same links other x (same x i))

pub one_number : (i j : ℕ) → ◌≡◌ {A = Option ℕ} (Some i) (Some j) → i ≡ j
one_number i j e = cc

-- one chain is made anew; the links of the others stay
module _ (heads : List ℕ) (links : List Link) (slots capacity : ℕ) (v : ChainLists) (kept : AreChained heads links slots capacity) (e : chains_of heads links slots ≡ v)
    (other : List Link) (room b h first : ℕ) (xs : List ℕ) (at : slice_get heads b ≡ Some h) (some : length other ≤ slots) (wide : slots ≤ room)
    (led : LeadsTo (next_in other) no_link first xs)
    (from : (s : ℕ) → In s xs → In s (members links h) ⊎ ((c g : ℕ) → slice_get heads c ≡ Some g → In s (members links g) → ⊥))
    (same : (c g x : ℕ) → (c ≡ b → ⊥) → slice_get heads c ≡ Some g → In x (members links g) → slice_get other x ≡ slice_get links x) where
  other_fits : length other ≤ no_link
  other_fits = let a = kept.few in omega (arith, a, some)

  now : members other first ≡ xs
  now = members-led other other_fits first xs led

  -- the number of a chain with this head
  which : (c g : ℕ) → slice_get (set heads b first) c ≡ Some g → ((c ≡ b) × (g ≡ first)) ⊎ ((c ≡ b → ⊥) × (slice_get heads c ≡ Some g))
  which c g f = elim (cases_eq c b) [
    | inl s ↦ inl (s, one_number g first (sym f ∙ ap (slice_get (set heads b first)) s ∙ get_set_same heads b first (slice_get_within heads b h at)))
    | inr n ↦ inr (n, sym (get_set_other heads b c first n) ∙ f)
  ]

  ends_anew : (c g : ℕ) → slice_get (set heads b first) c ≡ Some g → Ends other g
  ends_anew c g f = elim (which c g f) [
    | inl p ↦ subst (λ y. Ends other y) (sym p.1) (ends_led other other_fits first xs led)
    | inr p ↦ ends_led other other_fits g (members links g) (still_led links other other_fits g (kept.ends c g p.1) (λ x i. same c g x p.0 p.1 i))
  ]

  old_member : (c g s : ℕ) → (c ≡ b → ⊥) → slice_get heads c ≡ Some g → In s (members other g) → In s (members links g)
  old_member c g s n f i = subst (λ ys. In s ys) (still_members links other other_fits g (kept.ends c g f) (λ x j. same c g x n f j)) i

  new_member : (g s : ℕ) → g ≡ first → In s (members other g) → In s xs
  new_member g s f i = subst (λ ys. In s ys) (ap (members other) f ∙ now) i

  -- a slot of the new chain is in no other one
  no_other : (c g s : ℕ) → (c ≡ b → ⊥) → slice_get heads c ≡ Some g → In s (members links g) → In s xs → ⊥
  no_other c g s n f i j = elim (from s j) [ inl k ↦ n (kept.apart c b g h s f at i k) | inr k ↦ k c g f i ]

  apart_anew : (c d g k s : ℕ) → slice_get (set heads b first) c ≡ Some g → slice_get (set heads b first) d ≡ Some k → In s (members other g) → In s (members other k) → c ≡ d
  apart_anew c d g k s f l i j = go (which c g f) (which d k l)
    where
      go : ((c ≡ b) × (g ≡ first)) ⊎ ((c ≡ b → ⊥) × (slice_get heads c ≡ Some g)) → ((d ≡ b) × (k ≡ first)) ⊎ ((d ≡ b → ⊥) × (slice_get heads d ≡ Some k)) → c ≡ d
      go (inl p) (inl q) = p.0 ∙ sym q.0
      go (inl p) (inr q) = absurd (no_other d k s q.0 q.1 (old_member d k s q.0 q.1 j) (new_member g s p.1 i))
      go (inr p) (inl q) = absurd (no_other c g s p.0 p.1 (old_member c g s p.0 p.1 i) (new_member k s q.1 j))
      go (inr p) (inr q) = kept.apart c d g k s p.1 q.1 (old_member c g s p.0 p.1 i) (old_member d k s q.0 q.1 j)

  pub anew : NewChains (set heads b first) other slots room (with_chain v b (map (entry_in other) xs))
  anew = record {
    kept = record { few = kept.few; some = some; room = wide; ends = ends_anew; apart = apart_anew };
    seen = ap (λ (cs : List (List Entry)). record { slots = slots; chains = cs }) (map-set (chain_of other) heads b first
        ∙ ap (λ (c : List Entry). set (map (chain_of other) heads) b c) (ap (map (entry_in other)) now)
        ∙ set-map_other (chain_of other) (chain_of links) heads b (map (entry_in other) xs) (λ c g n f. still_chain links other other_fits g (kept.ends c g f) (λ x i. same c g x n f i)))
        ∙ ap (λ w. with_chain w b (map (entry_in other) xs)) e;
  }

-- What becomes of the kinds that the heads of chains tell.
use Rattle.std.proofs.Common.{◌≡◌, ℕ, ◌<◌, List, ◌∷◌, length, map, set, Some, refl, sym, ap, ◌∙◌, subst, inl, inr}
use Rattle.std.specs.Prelude.{slice_get, option_map}
use Rattle.std.proofs.lemmas.Bool.{cases_eq}
use Rattle.std.proofs.lemmas.Option.{slice_get-map, slice_get_within}
use Rattle.hic_word.specs.Lists.{In}
use Rattle.line_slots.specs.declared.entry.Entry.{Entry}
use Rattle.line_slots.specs.ChainLists.{ChainLists, chain_at, with_chain}
use Rattle.line_slots.specs.ChainLinks.{first_in, kinds_in, HasKind, TellKinds}
use Rattle.line_slots.proofs.ListReads.{get_set_other, get_set_same}
use Rattle.line_slots.proofs.ChainWrites.{one_number}
use Rattle.line_slots.proofs.ChainSteps.{pushed_in}

pub first_read : (heads : List ℕ) (b h : ℕ) → slice_get heads b ≡ Some h → slice_get (map first_in heads) b ≡ Some (first_in h)
first_read heads b h at = slice_get-map first_in heads b ∙ ap (option_map first_in) at

-- fewer entries
pub kinds_fewer : (heads : List ℕ) (v new : ChainLists) → TellKinds heads v → ((c : ℕ) (x : Entry) → In x (chain_at new c) → In x (chain_at v c)) → TellKinds heads new
kinds_fewer heads v new told fewer b h e at i = told b h e at (fewer b e i)

module _ (heads : List ℕ) (v : ChainLists) (b h g : ℕ) where
  -- a head that is read is the one that was written, or as before
  written : slice_get heads b ≡ Some h → (x : ℕ) → slice_get (set heads b g) b ≡ Some x → g ≡ x
  written at x f = one_number g x (sym (get_set_same heads b g (slice_get_within heads b h at)) ∙ f)

  -- a head of the same kind
  pub kinds_written : TellKinds heads v → slice_get heads b ≡ Some h → kinds_in g ≡ kinds_in h → TellKinds (set heads b g) v
  kinds_written told at same c x e f i = elim (cases_eq c b) [
    | inl s ↦ subst (λ k. HasKind k e.key) (sym same ∙ ap kinds_in (written at x (subst (λ d. slice_get (set heads b g) d ≡ Some x) s f))) (told b h e at (subst (λ d. In e (chain_at v d)) s i))
    | inr n ↦ told c x e (sym (get_set_other heads b c g n) ∙ f) i
  ]

  -- an entry in front
  pub kinds_front : (entry : Entry) → TellKinds heads v → slice_get heads b ≡ Some h → b < length v.chains → HasKind (kinds_in g) entry.key → ((x : Entry) → In x (chain_at v b) → (k : ℕ) → HasKind (kinds_in h) k → HasKind (kinds_in g) k)
      → TellKinds (set heads b g) (with_chain v b (entry ∷ chain_at v b))
  kinds_front entry told at low own others c x e f i = elim (pushed_in v (with_chain v b (entry ∷ chain_at v b)) b entry low refl c e i) [
    | inl p ↦ subst (λ k. HasKind k e.key) (ap kinds_in (written at x (subst (λ d. slice_get (set heads b g) d ≡ Some x) p.0 f))) (subst (λ (y : Entry). HasKind (kinds_in g) y.key) p.1 own)
    | inr j ↦ elim (cases_eq c b) [
      | inl s ↦ let k = subst (λ d. In e (chain_at v d)) s j in subst (λ n. HasKind n e.key) (ap kinds_in (written at x (subst (λ d. slice_get (set heads b g) d ≡ Some x) s f))) (others e k e.key (told b h e at k))
      | inr n ↦ told c x e (sym (get_set_other heads b c g n) ∙ f) j
    ]
  ]

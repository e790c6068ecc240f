-- Unique choice: the one thing that a relation tells, where it tells at most one and some thing is told, though which is
-- not at hand. A struct whose fields stand for one plain value keeps `∥ (a : A) × R a ∥₁` as its ghost field, since that
-- is a proposition, and is seen as the plain value itself.
use Rattle.std.proofs.Common.{◌≡◌, ap}
use Rattle.std.specs.Coded.{Coded, Coded-set}
use mathlib.Core.HLevel.{Σ_prop_path}
use mathlib.Core.Logic.{∥∥₁_prop, ∥∥₁_elim}

-- over things with a code, by which two of them are equal in one way at most
module _ {A : Type 0} (code : Coded A) (R : A → Type 0) (tells : (a b : A) → R a → R b → a ≡ b) where
  pub same_told : (x y : (a : A) × ∥ R a ∥₁) → x ≡ y
  same_told x y = Σ_prop_path (λ a. ∥∥₁_prop) (∥∥₁_elim x.1 (Coded-set code x.0 y.0) (λ r. ∥∥₁_elim y.1 (Coded-set code x.0 y.0) (λ s. tells x.0 y.0 r s)))

  abbrev pub told : ∥ ((a : A) × R a) ∥₁ → ((a : A) × ∥ R a ∥₁)
  told some = ∥∥₁_elim some same_told (λ p. (p.0, ∣ p.1 ∣₁))

  -- the one thing that is told
  abbrev pub the_one : ∥ ((a : A) × R a) ∥₁ → A
  the_one some = (told some).0

  -- whatever is told is the one
  pub the_one_is : (some : ∥ ((a : A) × R a) ∥₁) (a : A) → R a → the_one some ≡ a
  the_one_is some a r = ap (λ (x : (b : A) × ∥ R b ∥₁). x.0) (same_told (told some) (a, ∣ r ∣₁))

-- Words that are held in groups, as those of the tasks of a machine are: a call on one group takes it out of the others,
-- and another group is put in its place.
use Rattle.std.proofs.Common.{◌≡◌, ℕ, zero, suc, ◌+◌, List, [], ◌∷◌, ◌++◌, Some, length, length-append, refl, sym, ◌∙◌, ap, arith}
use Rattle.std.specs.Prelude.{flat_map, slice_get, slice_set}
use Rattle.std.proofs.lemmas.Option.{same_Some}
use Rattle.hic_word.specs.declared.Word.{Word}
use Rattle.hic_word.specs.Lists.{times}
use Rattle.hic_word.specs.Names.{NamedAlike, names_in}
use Rattle.hic_word.specs.Memory.{Memory}
use Rattle.hic_word.specs.Holds.{Holds}
use Rattle.hic_word.specs.Exchanges.{Exchanges}
use Rattle.hic_word.proofs.Counting.{names-append}
use Rattle.hic_word.proofs.Exchanging.{exchanges_before, exchanges_regrouped}
use Rattle.hic_word.proofs.Holding.{holding_is_by_counts}

-- all members but the one at a place
pub but_at : {X : Type 0} → List X → ℕ → List X
but_at [] t = []
but_at (x ∷ xs) zero = xs
but_at (x ∷ xs) (suc t) = x ∷ but_at xs t

module _ {X : Type 0} (words : X → List Word) (measure : List Word → ℕ) (adds : (P Q : List Word) → measure (P ++ Q) ≡ measure P + measure Q) where
  -- what is measured of all words is what is measured of one group and of the others
  measured : (xs : List X) (t : ℕ) (x : X) → slice_get xs t ≡ Some x → measure (flat_map words xs) ≡ measure (words x) + measure (flat_map words (but_at xs t))
  unfolding but_at
  measured [] t x e = cc
  measured (y ∷ xs) zero x e = adds (words y) (flat_map words xs) ∙ ap (λ z. measure (words z) + measure (flat_map words xs)) (same_Some y x e)
  measured (y ∷ xs) (suc t) x e =
      let a = adds (words y) (flat_map words xs) in
      let b = adds (words y) (flat_map words (but_at xs t)) in
      let c = measured xs t x e in
      omega (arith, a, b, c)

but_at_set : {X : Type 0} (xs : List X) (t : ℕ) (y : X) → but_at (slice_set xs t y) t ≡ but_at xs t
unfolding but_at
but_at_set [] t y = refl
but_at_set (x ∷ xs) zero y = refl
but_at_set (x ∷ xs) (suc t) y = ap (λ zs. x ∷ zs) (but_at_set xs t y)

set_there : {X : Type 0} (xs : List X) (t : ℕ) (x y : X) → slice_get xs t ≡ Some x → slice_get (slice_set xs t y) t ≡ Some y
set_there [] t x y e = cc
set_there (z ∷ xs) zero x y e = refl
set_there (z ∷ xs) (suc t) x y e = set_there xs t x y e

-- words in front, and then those of groups, of which one stands at a place
module _ {X : Type 0} (words : X → List Word) (front : List Word) (xs : List X) (t : ℕ) (x : X) (there : slice_get xs t ≡ Some x) where
  taken_alike : NamedAlike (front ++ flat_map words xs) (words x ++ (front ++ flat_map words (but_at xs t)))
  taken_alike id =
      let a = names-append id front (flat_map words xs) in
      let b = names-append id (words x) (front ++ flat_map words (but_at xs t)) in
      let c = names-append id front (flat_map words (but_at xs t)) in
      let d = measured words (λ ws. times id (names_in ws)) (names-append id) xs t x there in
      omega (arith, a, b, c, d)

  -- the group comes to the front of all
  pub taken_out : {w : ℕ} (m : Memory) → Holds w m (front ++ flat_map words xs) → Holds w m (words x ++ (front ++ flat_map words (but_at xs t)))
  taken_out {w} m held = holding_is_by_counts w m (front ++ flat_map words xs) (words x ++ (front ++ flat_map words (but_at xs t))) taken_alike held

  -- there are as many words then
  pub taken_length : length (words x ++ (front ++ flat_map words (but_at xs t))) ≡ length (front ++ flat_map words xs)
  taken_length =
      let a = length-append front (flat_map words xs) in
      let b = length-append (words x) (front ++ flat_map words (but_at xs t)) in
      let c = length-append front (flat_map words (but_at xs t)) in
      let d = measured words length length-append xs t x there in
      omega (arith, a, b, c, d)

-- the words of all groups, where one stands in place of another
replaced_alike : {X : Type 0} (words : X → List Word) (front : List Word) (xs : List X) (t : ℕ) (x y : X) → slice_get xs t ≡ Some x
    → NamedAlike (words y ++ (front ++ flat_map words (but_at xs t))) (front ++ flat_map words (slice_set xs t y))
replaced_alike words front xs t x y there id =
    sym (taken_alike words front (slice_set xs t y) t y (set_there xs t x y there) id ∙ ap (λ zs. times id (names_in (words y ++ (front ++ flat_map words zs)))) (but_at_set xs t y))

-- another group is put in place of the one that was taken out
pub replaced : {X : Type 0} (words : X → List Word) (front : List Word) (xs : List X) (t : ℕ) (x y : X) → slice_get xs t ≡ Some x → {w : ℕ} (m : Memory)
    → Holds w m (words y ++ (front ++ flat_map words (but_at xs t))) → Holds w m (front ++ flat_map words (slice_set xs t y))
replaced words front xs t x y there {w} m held =
    holding_is_by_counts w m (words y ++ (front ++ flat_map words (but_at xs t))) (front ++ flat_map words (slice_set xs t y)) (replaced_alike words front xs t x y there) held

-- what a call makes of one group, it makes of all
module _ {X : Type 0} (words : X → List Word) (front : List Word) (xs : List X) (t : ℕ) (x y : X) (there : slice_get xs t ≡ Some x) {old new : Memory} where
  pub group_exchanged : Exchanges old new (words x) (words y) → Exchanges old new (front ++ flat_map words xs) (front ++ flat_map words (slice_set xs t y))
  group_exchanged e =
      exchanges_regrouped (exchanges_before e (front ++ flat_map words (but_at xs t))) (front ++ flat_map words xs) (front ++ flat_map words (slice_set xs t y))
      (taken_alike words front xs t x there) (replaced_alike words front xs t x y there)

-- A text that grows by one item after the other.
use Rattle.std.proofs.Common.{◌≡◌, ℕ, ◌+◌, List, [], ◌∷◌, ◌++◌, take, flat_map, Some, ap, sym, ◌∙◌}
use Rattle.std.specs.Prelude.{slice_get}
use Rattle.std.proofs.lemmas.List.{take_more, flat_map_more}
use Rattle.std.proofs.lemmas.Option.{get_or_from_slice_get, slice_get_within}

-- the item at this place is the next one
pub flat_map-place : {X : Type 0} (f : X → List ℕ) (xs : List X) (i : ℕ) (x : X) (start text next : List ℕ) → slice_get xs i ≡ Some x → text ≡ start ++ flat_map f (take i xs) → next ≡ text ++ f x → next ≡ start ++ flat_map f (take (i + 1) xs)
flat_map-place f xs i x start text next here so_far more =
    let at : take (i + 1) xs ≡ take i xs ++ x ∷ [] = take_more xs i x (slice_get_within xs i x here) ∙ ap (λ y. take i xs ++ y ∷ []) (get_or_from_slice_get xs i x x here) in
    more ∙ ap (λ t. t ++ f x) so_far ∙ flat_map_more f start (take i xs) x ∙ ap (λ front. start ++ flat_map f front) (sym at)

-- Visits of line values, level by level.
use Rattle.std.proofs.Common.{◌≡◌, ℕ, zero, suc, ◌+◌, ◌-◌, ◌<◌, ◌≤◌, List, [], ◌∷◌, ◌++◌, length, refl, ap, arith}
use Rattle.std.specs.Prelude.{flat_map}
use Rattle.std.proofs.lemmas.List.{length-append}
use Rattle.hic_word.specs.Entries.{LineValue}
use Rattle.hic_word.specs.Lines.{children, visits}

-- no level left
pub visits_last : (w : ℕ) (L : LineValue) (Ls : List LineValue) → flat_map (visits w 0) (L ∷ Ls) ≡ flat_map (visits w 0) Ls
unfolding visits
visits_last w L Ls = refl

-- a line value, its children a level lower, and the others
pub visits_more : (w f : ℕ) (L : LineValue) (Ls : List LineValue) → 1 ≤ f
    → flat_map (visits w f) (L ∷ Ls) ≡ L ∷ (flat_map (visits w (f - 1)) (children w L) ++ flat_map (visits w f) Ls)
unfolding visits
visits_more w zero L Ls some = absurd (omega (arith, some))
visits_more w (suc f) L Ls some = let less : f ≡ suc f - 1 = omega arith in ap (λ g. L ∷ (flat_map (visits w g) (children w L) ++ flat_map (visits w (suc f)) Ls)) less

-- one line value alone
pub visits_one : (w f : ℕ) (L : LineValue) → flat_map (visits w f) (L ∷ []) ≡ visits w f L
visits_one w f L = end (visits w f L)
  where
    end : (xs : List LineValue) → xs ++ [] ≡ xs
    end [] = refl
    end (x ∷ xs) = ap (λ ys. x ∷ ys) (end xs)

-- how many line values a visit one level deeper has, which falls with each call
abbrev pub visited : ℕ → ℕ → List LineValue → ℕ
visited w f Ls = length (flat_map (visits w (f + 1)) Ls)

length_of : (L : LineValue) (below rest : List LineValue) → length (L ∷ (below ++ rest)) ≡ length below + length rest + 1
length_of L below rest = let both = length-append below rest in omega (arith, both)

pub visited_rest : (w f : ℕ) (L : LineValue) (Ls : List LineValue) → visited w f Ls < visited w f (L ∷ Ls)
visited_rest w f L Ls =
    let all = ap length (visits_more w (f + 1) L Ls (omega arith)) in
    let parts = length_of L (flat_map (visits w (f + 1 - 1)) (children w L)) (flat_map (visits w (f + 1)) Ls) in
    omega (arith, all, parts)

pub visited_below : (w f : ℕ) (L : LineValue) (Ls : List LineValue) → 1 ≤ f → visited w (f - 1) (children w L) < visited w f (L ∷ Ls)
visited_below w f L Ls some =
    let all = ap length (visits_more w (f + 1) L Ls (omega arith)) in
    let parts = length_of L (flat_map (visits w (f + 1 - 1)) (children w L)) (flat_map (visits w (f + 1)) Ls) in
    let level : f - 1 + 1 ≡ f + 1 - 1 = omega (arith, some) in
    let same = ap (λ g. length (flat_map (visits w g) (children w L))) level in
    omega (arith, all, parts, same)

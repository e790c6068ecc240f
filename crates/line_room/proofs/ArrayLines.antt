-- The lines of an array: those of its root, and those that they name.
use Rattle.std.proofs.Common.{◌≡◌, ℕ, zero, suc, List, [], ◌∷◌, ◌++◌, refl, sym, ap, subst, inl, inr}
use Rattle.std.specs.Prelude.{flat_map}
use Rattle.hic_word.specs.Width.{IsWidth}
use Rattle.hic_word.specs.Lists.{In}
use Rattle.hic_word.specs.Values.{Array, IsArray, IsValue, Ref, array, array-pairs, pairs}
use Rattle.hic_word.specs.Entries.{LineValue, Named}
use Rattle.hic_word.specs.Canon.{root_entry}
use Rattle.hic_word.specs.Lines.{children, line_of_entry, lines, visit, visits}
use Rattle.hic_word.proofs.callers.Lines.{closed_all, In-distinct, distinct-In, In-flat, In-left, In-parts, In-right, visits_are_whole}
use Rattle.line_room.specs.PartLaws.{LinesAreOfEach, RootsHaveLines}

-- the lines of one array are those of its visit
pub visit_lines : (w : ℕ) (A : Array) (L : LineValue) → In L (visit w A) → In L (lines w (A ∷ []))
visit_lines w A L h = distinct-In L (visit w A ++ []) (In-left L (visit w A) [] h)

pub lines_visit : (w : ℕ) (A : Array) (L : LineValue) → In L (lines w (A ∷ [])) → In L (visit w A)
lines_visit w A L h = elim (In-parts L (visit w A) [] (In-distinct L (visit w A ++ []) h)) [ inl i ↦ i | inr i ↦ absurd i ]

pub lines_are_of_each : LinesAreOfEach
lines_are_of_each w A R L = (
  (λ h. elim (In-parts L (visit w A) (flat_map (visit w) R) (In-distinct L (visit w A ++ flat_map (visit w) R) h)) [
    | inl i ↦ inl (visit_lines w A L i)
    | inr i ↦ inr (distinct-In L (flat_map (visit w) R) i)
  ]),
  (λ h. distinct-In L (visit w A ++ flat_map (visit w) R) (elim h [
    | inl i ↦ In-left L (visit w A) (flat_map (visit w) R) (lines_visit w A L i)
    | inr i ↦ In-right L (visit w A) (flat_map (visit w) R) (In-distinct L (flat_map (visit w) R) i)
  ])),
)

-- a visit has the line that the root names, and what its members name
pub root_in : {w : ℕ} → IsWidth w → (A : Array) (L : LineValue) (p : List ℕ) → IsArray A → root_entry w A ≡ Named L p → In L (visit w A)
root_in {w} width A L p a e = subst (In L) (sym ((visits_are_whole w A width a).step L (ap line_of_entry e))) (inl refl)

pub child_in : {w : ℕ} → IsWidth w → (A : Array) (K M : LineValue) → IsArray A → In K (visit w A) → In M (children w K) → In M (visit w A)
unfolding IsValue
child_in {w} width A K M a k c =
    let same = array-pairs A in
    let inside : In K (visit w (array (pairs A))) = subst (λ B. In K (visit w B)) (sym same) k in
    let all = closed_all w width (Ref (pairs A) ∷ []) K M (a, tt) (In-left K (visit w (array (pairs A))) [] inside) c in
    elim (In-parts M (visit w (array (pairs A))) [] all) [ inl i ↦ subst (λ B. In M (visit w B)) same i | inr i ↦ absurd i ]

pub roots_have_lines : RootsHaveLines
roots_have_lines w A L p width a e = visit_lines w A L (root_in width A L p a e)

-- a list that has a line value, and what its members name, has all that a visit of the line value reaches
pub visits_in : (w f : ℕ) (K L : LineValue) (Ls : List LineValue) → ((N M : LineValue) → In N Ls → In M (children w N) → In M Ls) → In K Ls → In L (visits w f K) → In L Ls
unfolding visits
visits_in w zero K L Ls closed k h = absurd h
visits_in w (suc f) K L Ls closed k (inl e) = subst (λ N. In N Ls) e k
visits_in w (suc f) K L Ls closed k (inr h) = let (N, there, inside) = In-flat (visits w f) L (children w K) h in visits_in w f N L Ls closed (closed K N k there) inside

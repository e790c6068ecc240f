-- What is reached from a stored line is stored, and each stored line is reached.
use Rattle.std.proofs.Common.{◌≡◌, ℕ, zero, suc, ◌+◌, ◌<◌, ◌≤◌, List, Some, sym, subst, inl, inr, ◌⊎◌, arith}
use Rattle.hic_word.specs.declared.Word.{Word}
use Rattle.hic_word.specs.Width.{IsWidth}
use Rattle.hic_word.specs.Lists.{In}
use Rattle.hic_word.specs.Entries.{LineValue}
use Rattle.hic_word.specs.Lines.{children, root_lines, visits}
use Rattle.hic_word.specs.Names.{Names}
use Rattle.hic_word.specs.Stands.{IdFor, Lookup}
use Rattle.hic_word.proofs.Children.{child_id, names_child}
use Rattle.hic_word.proofs.Falls.{falls}
use Rattle.hic_word.proofs.Fits.{LineFits}
use Rattle.hic_word.proofs.Rank.{rank}
use Rattle.hic_word.proofs.Tells.{one_value}
use Rattle.hic_word.proofs.Visits.{In-flat}

-- all that a visit reaches from a stored line is stored
pub visit_stored : {w : ℕ} {m : Lookup} (f id : ℕ) (L K : LineValue) → IdFor w m id L → In K (visits w f L) → (j : ℕ) × IdFor w m j K
unfolding visits
visit_stored zero id L K i h = absurd h
visit_stored {w} {m} (suc f) id L K i (inl e) = (id, subst (λ N. IdFor w m id N) e i)
visit_stored {w} (suc f) id L K i (inr h) =
    let (N, there, inside) = In-flat (visits w f) K (children w L) h in
    let (j, stored) = child_id N i there in
    visit_stored f j N K stored inside

-- where each stored line is named from the top or from a stored line, each has what those have that the top names, and
-- what passes from a line to those that it names
pub each_has : {w : ℕ} → IsWidth w → (m : Lookup) (Top Has : ℕ → Type 0)
    → (stands : (id : ℕ) (line : List Word) → m id ≡ Some line → (L : LineValue) × IdFor w m id L × LineFits w L)
    → (parent : (j : ℕ) (line : List Word) → m j ≡ Some line → Top j ⊎ ((id : ℕ) × (above : List Word) × (m id ≡ Some above) × Names j above))
    → (B : ℕ) → ((id : ℕ) (L : LineValue) → IdFor w m id L → LineFits w L → rank L ≤ B)
    → (top : (j : ℕ) → Top j → Has j)
    → (passes : (id j : ℕ) (above : List Word) → m id ≡ Some above → Names j above → Has id → Has j)
    → (n j : ℕ) (L : LineValue) (line : List Word) → m j ≡ Some line → IdFor w m j L → LineFits w L → B ≤ rank L + n → Has j
each_has {w} width m Top Has stands parent B low top passes zero j L line e i o h = elim (parent j line e) [
  | inl t ↦ top j t
  | inr (id, up, there, names) ↦
      let (K, k, fine) = stands id up there in
      let (M, stored, child) = names_child id j K up k there names in
      let r = falls width K M fine child in
      let same : L ≡ M = one_value width i o stored r.0 in
      let less : rank L < rank K = subst (λ N. rank N < rank K) (sym same) r.1 in
      let at_root = low id K k fine in
      absurd (omega arith)
]
each_has {w} width m Top Has stands parent B low top passes (suc n) j L line e i o h = elim (parent j line e) [
  | inl t ↦ top j t
  | inr (id, up, there, names) ↦
      let (K, k, fine) = stands id up there in
      let (M, stored, child) = names_child id j K up k there names in
      let r = falls width K M fine child in
      let same : L ≡ M = one_value width i o stored r.0 in
      let less : rank L < rank K = subst (λ N. rank N < rank K) (sym same) r.1 in
      passes id j up there names (each_has width m Top Has stands parent B low top passes n id K up there k fine (omega arith))
]

-- so each is in a list that has what the top names and what its members name
pub each_reached : {w : ℕ} → IsWidth w → {m : Lookup} (Top : ℕ → Type 0)
    → (stands : (id : ℕ) (line : List Word) → m id ≡ Some line → (L : LineValue) × IdFor w m id L × LineFits w L)
    → (parent : (j : ℕ) (line : List Word) → m j ≡ Some line → Top j ⊎ ((id : ℕ) × (above : List Word) × (m id ≡ Some above) × Names j above))
    → (B : ℕ) → ((id : ℕ) (L : LineValue) → IdFor w m id L → LineFits w L → rank L ≤ B)
    → (Ls : List LineValue) → ((K M : LineValue) → In K Ls → In M (children w K) → In M Ls)
    → ((j : ℕ) (L : LineValue) → Top j → IdFor w m j L → LineFits w L → In L Ls)
    → (n j : ℕ) (L : LineValue) (line : List Word) → m j ≡ Some line → IdFor w m j L → LineFits w L → B ≤ rank L + n → In L Ls
each_reached {w} width {m} Top stands parent B low Ls closed root_lines n j L line e i o h =
    each_has width m Top (λ id. (K : LineValue) → IdFor w m id K → LineFits w K → In K Ls) stands parent B low
    (λ id t K k fine. root_lines id K t k fine)
    (λ id q up there names above K k fine.
    let (N, stored, fits) = stands id up there in
    let (M, under, child) = names_child id q N up stored there names in
    let same : K ≡ M = one_value width k fine under (falls width N M fits child).0 in
    subst (λ M. In M Ls) (sym same) (closed N M (above N stored fits) child))
    n j L line e i o h L i o

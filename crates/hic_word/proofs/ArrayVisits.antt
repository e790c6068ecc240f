-- The visits of arrays: they reach what their members name, start from what the words name, and stay among the stored lines.
use Rattle.std.proofs.Common.{◌≡◌, ℕ, ◌≤◌, List, [], ◌∷◌, map, Option, Some, None, refl, sym, ap, subst, inl, inr, arith}
use Rattle.std.specs.Prelude.{flat_map}
use Rattle.hic_word.specs.declared.Word.{Word}
use Rattle.hic_word.specs.Width.{IsWidth}
use Rattle.hic_word.specs.Lists.{In}
use Rattle.hic_word.specs.Values.{ArePairs, AreValues, Array, IsArray, IsValue, Number, Pairs, Ref, Value, array, array-pairs, arrays_of, depth, pairs, pairs-array}
use Rattle.hic_word.specs.Entries.{LineValue}
use Rattle.hic_word.specs.Canon.{root_entry}
use Rattle.hic_word.specs.Lines.{children, found, line_of_entry, line_of_value, reach, visit, visit_from, visits}
use Rattle.hic_word.specs.Stands.{AWord, IdFor, Lookup, WordsFor}
use Rattle.hic_word.proofs.Children.{word_names}
use Rattle.hic_word.proofs.Falls.{falls, falls_entry}
use Rattle.hic_word.proofs.Fits.{EntryFits-root_entry, LineFits}
use Rattle.hic_word.proofs.Found.{found_first}
use Rattle.hic_word.proofs.Rank.{rank, rank_top}
use Rattle.hic_word.proofs.Reached.{visit_stored}
use Rattle.hic_word.proofs.Visits.{In-left, In-parts, In-right, visit_closed, visit_fine, visit_head}

module _ (w : ℕ) (width : IsWidth w) where
  -- the visit of one array has what its members name
  named_low : (H : Pairs) (L : LineValue) → ArePairs 0 H → line_of_entry (root_entry w (array H)) ≡ Some L → LineFits w L × (rank L ≤ reach (array H))
  unfolding depth
  named_low H L h e =
      let r = falls_entry w (root_entry w (array H)) L (EntryFits-root_entry width H h) e in
      let low = rank_top width H h in
      let same : depth (pairs (array H)) ≡ depth H = ap depth (pairs-array H) in
      (r.0, omega (arith, r.1, low, same))

  pub array_low : (A : Array) (L : LineValue) → IsArray A → line_of_entry (root_entry w A) ≡ Some L → LineFits w L × (rank L ≤ reach A)
  array_low A L a e =
      let same = array-pairs A in
      subst (λ B. LineFits w L × (rank L ≤ reach B)) same (named_low (pairs A) L a (subst (λ B. line_of_entry (root_entry w B) ≡ Some L) (sym same) e))

  closed_of : (o : Option LineValue) (n : ℕ) (K M : LineValue) → ((L : LineValue) → o ≡ Some L → LineFits w L × (rank L ≤ n)) → In K (visit_from w n o) → In M (children w K) → In M (visit_from w n o)
  closed_of None n K M f k c = k
  closed_of (Some L) n K M f k c = let r = f L refl in visit_closed w (LineFits w) (falls width) n L K M r.0 r.1 k c

  closed_one : (H : Pairs) (K M : LineValue) → ArePairs 0 H → In K (visit w (array H)) → In M (children w K) → In M (visit w (array H))
  closed_one H K M h k c =
      let o = line_of_entry (root_entry w (array H)) in
      closed_of o (reach (array H)) K M (λ L e. named_low H L h e) k c

  pub closed_all : (vs : List Value) (K M : LineValue) → AreValues vs → In K (flat_map (visit w) (arrays_of vs)) → In M (children w K) → In M (flat_map (visit w) (arrays_of vs))
  unfolding IsValue
  closed_all [] K M o k c = absurd k
  closed_all (Number n ∷ vs) K M o k c = closed_all vs K M o.1 k c
  closed_all (Ref H ∷ vs) K M o k c = elim (In-parts K (visit w (array H)) (flat_map (visit w) (arrays_of vs)) k) [
    | inl i ↦ In-left M (visit w (array H)) _ (closed_one H K M o.0 i c)
    | inr i ↦ In-right M (visit w (array H)) (flat_map (visit w) (arrays_of vs)) (closed_all vs K M o.1 i c)
  ]

  -- and what the words name
  head_of : (o : Option LineValue) (n : ℕ) (L : LineValue) → 1 ≤ n → o ≡ Some L → In L (visit_from w n o)
  head_of None n L p e = cc
  head_of (Some K) n L p e = let same : K ≡ L = cc in subst (λ N. In L (visits w n N)) (sym same) (visit_head w n L p)

  pub tops_all : (vs : List Value) (L : LineValue) → In L (found (map (line_of_value w) vs)) → In L (flat_map (visit w) (arrays_of vs))
  tops_all [] L h = absurd h
  tops_all (Number n ∷ vs) L h = tops_all vs L h
  tops_all (Ref H ∷ vs) L h = elim (found_first L (line_of_value w (Ref H)) (map (line_of_value w) vs) h) [
    | inl e ↦ In-left L (visit w (array H)) _ (head_of (line_of_value w (Ref H)) (reach (array H)) L (omega arith) e)
    | inr k ↦ In-right L (visit w (array H)) (flat_map (visit w) (arrays_of vs)) (tops_all vs L k)
  ]

  fits_of : (o : Option LineValue) (n : ℕ) (K : LineValue) → ((L : LineValue) → o ≡ Some L → LineFits w L) → In K (visit_from w n o) → LineFits w K
  fits_of None n K f k = absurd k
  fits_of (Some L) n K f k = visit_fine w (LineFits w) (falls width) n L K (f L refl) k

  pub fits_all : (vs : List Value) (K : LineValue) → AreValues vs → In K (flat_map (visit w) (arrays_of vs)) → LineFits w K
  unfolding IsValue
  fits_all [] K o k = absurd k
  fits_all (Number n ∷ vs) K o k = fits_all vs K o.1 k
  fits_all (Ref H ∷ vs) K o k = elim (In-parts K (visit w (array H)) (flat_map (visit w) (arrays_of vs)) k) [
    | inl i ↦ fits_of (line_of_value w (Ref H)) (reach (array H)) K (λ L e. (named_low H L o.0 e).0) i
    | inr i ↦ fits_all vs K o.1 i
  ]

  -- what a visit reaches is stored
  stored_of : {m : Lookup} (o : Option LineValue) (n : ℕ) (K : LineValue) → ((L : LineValue) → o ≡ Some L → (j : ℕ) × IdFor w m j L) → In K (visit_from w n o) → (j : ℕ) × IdFor w m j K
  stored_of None n K f k = absurd k
  stored_of (Some L) n K f k = let (j, i) = f L refl in visit_stored n j L K i k

  pub stored_all : {m : Lookup} (xs : List Word) (vs : List Value) (K : LineValue) → WordsFor w m xs vs → In K (flat_map (visit w) (arrays_of vs)) → (j : ℕ) × IdFor w m j K
  stored_all [] [] K d k = absurd k
  stored_all [] (v ∷ vs) K d k = elim d [ ]
  stored_all (x ∷ xs) [] K d k = elim d [ ]
  stored_all (x ∷ xs) (Number n ∷ vs) K (AWord d ws) k = stored_all xs vs K ws k
  stored_all (x ∷ xs) (Ref H ∷ vs) K (AWord d ws) k = elim (In-parts K (visit w (array H)) (flat_map (visit w) (arrays_of vs)) k) [
    | inl i ↦ stored_of (line_of_value w (Ref H)) (reach (array H)) K (λ L e. word_names L d e) i
    | inr i ↦ stored_all xs vs K ws i
  ]

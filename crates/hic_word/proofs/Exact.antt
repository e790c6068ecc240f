-- In a balanced memory the live ids correspond to the line values of the arrays, with their counts.
use Rattle.std.proofs.Common.{◌≡◌, ℕ, ◌+◌, ◌≤◌, List, [], ◌∷◌, map, length, Some, refl, sym, ◌∙◌, subst, inl, inr, ◌⊎◌, arith}
use Rattle.std.specs.Prelude.{sum_by, count_by, flat_map, ◌==◌}
use Rattle.std.specs.Ordering.{nat_cmp}
use Rattle.std.specs.FinMap as map_of
use Rattle.std.proofs.lemmas.List.Sums.{sum_by-cons}
use Rattle.hic_word.specs.declared.Word.{Word}
use Rattle.hic_word.specs.Width.{IsWidth}
use Rattle.hic_word.specs.Lists.{In}
use Rattle.hic_word.specs.Values.{AreValues, Array, Value, arrays_of}
use Rattle.hic_word.specs.Entries.{LineValue}
use Rattle.hic_word.specs.Same.{same}
use Rattle.hic_word.specs.Lines.{children, count, found, lines, line_of_value, visit}
use Rattle.hic_word.specs.Names.{Names, names_in}
use Rattle.hic_word.specs.Memory.{count_at, line_at, names_of}
use Rattle.hic_word.specs.Stands.{IdFor, Lookup, Unique, WordsFor}
use Rattle.hic_word.specs.BalanceLaws.{BalancedIsExact}
use Rattle.hic_word.proofs.ArrayVisits.{closed_all, fits_all, stored_all, tops_all}
use Rattle.hic_word.proofs.Children.{names_child_values}
use Rattle.hic_word.proofs.Counted.{some_or, counted_entry, counted_name}
use Rattle.hic_word.proofs.Counts.{Valued, counts_agree}
use Rattle.hic_word.proofs.Falls.{falls_values}
use Rattle.hic_word.proofs.Fits.{LineFits, made_fits}
use Rattle.hic_word.proofs.Keys.{KeysRise, find_has, has_find, keys_rise}
use Rattle.hic_word.proofs.Rank.{top_rank}
use Rattle.hic_word.proofs.Reached.{each_reached}
use Rattle.hic_word.proofs.Distinct.{Apart-distinct, In-distinct, distinct-In, sum-same}
use Rattle.hic_word.proofs.Tells.{line_of, one_id, one_value}
use Rattle.hic_word.proofs.Valued.{all_stored, in_valued, length_valued, valued_apart, valued_in, valued_low}

sum_ones : (Ks : List LineValue) → sum_by (λ _. 1) Ks ≡ length Ks
sum_ones [] = refl
sum_ones (K ∷ Ks) = let a = sum_by-cons (λ (x : LineValue). 1) K Ks in let b = sum_ones Ks in omega (arith, a, b)

-- what is to be shown, over the entries of the map
pub record Agrees (w : ℕ) (m : Lookup) (live : ℕ) (counted : ℕ → ℕ) (R : List Array) : Type 0 where
  pub has_line : (id : ℕ) (line : List Word) → m id ≡ Some line → (L : LineValue) × IdFor w m id L × In L (lines w R)
  pub has_id : (L : LineValue) → In L (lines w R) → (id : ℕ) × IdFor w m id L
  pub counts : (id : ℕ) (L : LineValue) → IdFor w m id L → In L (lines w R) → counted id ≡ count w L R
  pub number : live ≡ length (lines w R)
  pub fit : (L : LineValue) → In L (lines w R) → LineFits w L

module _ {w : ℕ} (width : IsWidth w) (m : Lookup) (es : List (ℕ × List Word)) (rise : KeysRise es) (is : (q : ℕ) → m q ≡ map_of.find nat_cmp q es)
    (unique : Unique m) (stands : (id : ℕ) (line : List Word) → m id ≡ Some line → (L : LineValue) × IdFor w m id L × LineFits w L)
    (xs : List Word) (vs : List Value) (words : WordsFor w m xs vs) (fine : AreValues vs)
    (counted : ℕ → ℕ) (held : (id : ℕ) (line : List Word) → m id ≡ Some line → 1 ≤ counted id)
    (counts : (id : ℕ) (line : List Word) → m id ≡ Some line → counted id ≡ count_by (λ x. x == id) (names_of es) + count_by (λ x. x == id) (names_in xs)) where
  all_values : (Ks : List LineValue) × Valued w m es Ks
  all_values = all_stored m es (λ e h. let at : m e.0 ≡ Some e.1 = is e.0 ∙ has_find e es rise h in let (L, i, o) = stands e.0 e.1 at in (L, i, o, at))

  parent : (j : ℕ) (line : List Word) → m j ≡ Some line → Names j xs ⊎ ((id : ℕ) × (above : List Word) × (m id ≡ Some above) × Names j above)
  parent j line e = elim (some_or (count_by (λ x. x == j) (names_of es)) (count_by (λ x. x == j) (names_in xs)) (subst (λ n. 1 ≤ n) (counts j line e) (held j line e))) [
    | inl a ↦ let (d, there, n) = counted_entry j es a in inr (d.0, d.1, is d.0 ∙ has_find d es rise there, n)
    | inr b ↦ inl (counted_name j xs b)
  ]

  reached : (K : LineValue) → In K all_values.0 → In K (lines w (arrays_of vs))
  reached K k =
      let Ks = all_values.0 in
      let Ls = flat_map (visit w) (arrays_of vs) in
      let (e, there, i, o, at) = in_valued m es Ks K all_values.1 k in
      distinct-In K Ls (each_reached width (λ j. Names j xs) stands parent (top_rank Ks)
      (valued_low width m es Ks is all_values.1)
      Ls (λ N M a b. closed_all w width vs N M fine a b)
      (λ j L n s f. root_reached j L n s f)
      (top_rank Ks) e.0 K e.1 at i o (omega arith))
    where
      root_reached : (j : ℕ) (L : LineValue) → Names j xs → IdFor w m j L → LineFits w L → In L (flat_map (visit w) (arrays_of vs))
      root_reached j L n s f =
          let (M, t, i) = names_child_values j words n in
          let r = falls_values width vs M fine i in
          let same_value : M ≡ L = one_value width t r.0 s f in
          tops_all w width vs L (subst (λ N. In N (found (map (line_of_value w) vs))) same_value i)

  reached_back : (K : LineValue) → In K (lines w (arrays_of vs)) → In K all_values.0
  reached_back K k =
      let Ls = flat_map (visit w) (arrays_of vs) in
      let (j, i) = stored_all w width xs vs K words (In-distinct K Ls k) in
      let (line, at) = line_of i in
      let (L, there, s, o) = valued_in m es all_values.0 (j, line) all_values.1 (find_has j line es (sym (is j) ∙ at)) in
      let same_value : L ≡ K = one_value width s o i (fits_all w width vs K fine (In-distinct K Ls k)) in
      subst (λ N. In N all_values.0) same_value there

  pub agrees : Agrees w m (length es) counted (arrays_of vs)
  agrees =
      let Ks = all_values.0 in
      let apart = valued_apart w m unique es Ks rise all_values.1 in
      let lines_apart = Apart-distinct (flat_map (visit w) (arrays_of vs)) in
      record {
        has_line = λ id line e.
            let (L, k, i, o) = valued_in m es Ks (id, line) all_values.1 (find_has id line es (sym (is id) ∙ e)) in
            (L, i, reached L k);
        has_id = λ L k. stored_all w width xs vs L words (In-distinct L (flat_map (visit w) (arrays_of vs)) k);
        counts = λ id L i k.
            let (line, at) = line_of i in
            counts id line at ∙ counts_agree w width m unique id L i (fits_all w width vs L fine (In-distinct L (flat_map (visit w) (arrays_of vs)) k)) es Ks xs vs all_values.1 words fine (sum-same (λ K. count_by (same L) (children w K)) Ks (lines w (arrays_of vs)) apart lines_apart reached reached_back);
        fit = λ L k. fits_all w width vs L fine (In-distinct L (flat_map (visit w) (arrays_of vs)) k);
        number = length_valued w m es Ks all_values.1 ∙ sym (sum_ones Ks) ∙ sum-same (λ _. 1) Ks (lines w (arrays_of vs)) apart lines_apart reached reached_back ∙ sum_ones (lines w (arrays_of vs));
      }

pub balanced_is_exact : BalancedIsExact
balanced_is_exact w m H vs width b words valid =
    let es = map_of.entries m.lines in
    let r = agrees width (line_at m) es (keys_rise es (map_of.entries_sorted m.lines)) (λ q. map_of.get-entries m.lines q) b.unique
    (λ id line e. let (L, i, made) = b.stands id line e in (L, i, made_fits width made)) H vs words valid (count_at m) b.used b.counted in
    record {
      has_line = r.has_line;
      has_id = r.has_id;
      one_id = λ i j L a c. one_id b.unique a c;
      one_line = λ id L K i j k l. one_value width i (r.fit L k) j (r.fit K l);
      counts = r.counts;
      number = map_of.len-entries m.lines ∙ r.number;
    }

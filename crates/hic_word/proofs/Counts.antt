-- Names of ids are names of line values, one by one.
use Rattle.std.proofs.Common.{◌≡◌, ℕ, ◌+◌, true, cond, List, [], ◌∷◌, ◌++◌, map, Option, Some, None, refl, sym, ◌∙◌, ap, subst, inl, inr, ◌⊎◌}
use Rattle.std.specs.Prelude.{sum_by, count_by, flat_map, ◌==◌, option_to_list}
use Rattle.std.proofs.lemmas.List.Sums.{sum_by-cons, sum_by-append}
use Rattle.std.proofs.lemmas.Bool.{cases_eq, eq-eqb, ne_eqb, false_from_ne_true}
use Rattle.hic_word.specs.declared.Word.{Word}
use Rattle.hic_word.specs.Width.{IsWidth}
use Rattle.hic_word.specs.Values.{AreValues, IsValue, Number, Ref, Value, array, arrays_of}
use Rattle.hic_word.specs.Entries.{Entries, Entry, LineValue, Named, entries}
use Rattle.hic_word.specs.Heights.{height}
use Rattle.hic_word.specs.Canon.{root_entry}
use Rattle.hic_word.specs.Same.{same}
use Rattle.hic_word.specs.Lines.{children, count, found, lines, line_of_entry, line_of_value, root_lines}
use Rattle.hic_word.specs.Names.{named_id, names_in}
use Rattle.hic_word.specs.Memory.{names_of}
use Rattle.hic_word.specs.Stands.{AWord, AnEntry, EntriesFor, EntryFor, IdFor, InnerAt, IsEmpty, IsNumber, IsPacked, IsStored, LeafAt, Lookup, NamedEntry, NoEntries, NoWord, PackEntry, Unique, WordFor, WordsFor, ZeroEntry}
use Rattle.hic_word.proofs.Children.{id_of_kind, node_id}
use Rattle.hic_word.proofs.Falls.{falls_entry, falls_value}
use Rattle.hic_word.proofs.Fits.{EntriesFit, EntryFits, LineFits}
use Rattle.hic_word.proofs.Same.{same_refl, same_true}
use Rattle.hic_word.proofs.Tells.{id_fits, one_id, one_value, same_line}

-- the line values of the stored lines, in order
abbrev pub Valued : ℕ → Lookup → List (ℕ × List Word) → List LineValue → Type 0
Valued w m [] [] = Unit {0}
Valued w m [] (K ∷ Ks) = ⊥
Valued w m (e ∷ es) [] = ⊥
Valued w m (e ∷ es) (K ∷ Ks) = (IdFor w m e.0 K × LineFits w K × (m e.0 ≡ Some e.1)) × Valued w m es Ks

module _ (w : ℕ) (width : IsWidth w) (m : Lookup) (unique : Unique m) (id : ℕ) (L : LineValue) (stored : IdFor w m id L) (fine : LineFits w L) where
  -- an id is `id` where its line value is L
  same_name : (j : ℕ) (M : LineValue) → IdFor w m j M → LineFits w M → (j == id) ≡ same L M
  same_name j M i o = elim (cases_eq j id) [
    | inl e ↦
        let same_value : M ≡ L = one_value width (subst (λ d. IdFor w m d M) e i) o stored fine in
        eq-eqb j id e ∙ sym (subst (λ N. same L N ≡ true) (sym same_value) (same_refl L))
    | inr n ↦ ne_eqb j id n ∙ sym (false_from_ne_true (same L M) (λ t. n (one_id unique (subst (λ N. IdFor w m j N) (sym (same_true L M t)) i) stored)))
  ]

  -- what a word names as an id and as a line value
  Matches : Option ℕ → Option LineValue → Type 0
  Matches o q = ((o ≡ None) × (q ≡ None)) ⊎ ((j : ℕ) × (M : LineValue) × (o ≡ Some j) × (q ≡ Some M) × ((j == id) ≡ same L M))

  none_first : (o : Option ℕ) (ns : List ℕ) → o ≡ None → count_by (λ x. x == id) (option_to_list o ++ ns) ≡ count_by (λ x. x == id) ns
  none_first None ns e = refl
  none_first (Some j) ns e = cc

  some_first : (o : Option ℕ) (j : ℕ) (ns : List ℕ) → o ≡ Some j → count_by (λ x. x == id) (option_to_list o ++ ns) ≡ cond (j == id) 1 0 + count_by (λ x. x == id) ns
  some_first None j ns e = cc
  some_first (Some k) j ns e = let same_id : k ≡ j = cc in sum_by-cons (λ x. cond (x == id) 1 0) k ns ∙ ap (λ i. cond (i == id) 1 0 + count_by (λ x. x == id) ns) same_id

  none_found : (q : Option LineValue) (os : List (Option LineValue)) → q ≡ None → count_by (same L) (found (q ∷ os)) ≡ count_by (same L) (found os)
  none_found None os e = refl
  none_found (Some M) os e = cc

  some_found : (q : Option LineValue) (M : LineValue) (os : List (Option LineValue)) → q ≡ Some M → count_by (same L) (found (q ∷ os)) ≡ cond (same L M) 1 0 + count_by (same L) (found os)
  some_found None M os e = cc
  some_found (Some K) M os e = let same_value : K ≡ M = cc in sum_by-cons (λ x. cond (same L x) 1 0) K (found os) ∙ ap (λ N. cond (same L N) 1 0 + count_by (same L) (found os)) same_value

  step : (o : Option ℕ) (q : Option LineValue) (ns : List ℕ) (os : List (Option LineValue)) → Matches o q → count_by (λ x. x == id) ns ≡ count_by (same L) (found os) → count_by (λ x. x == id) (option_to_list o ++ ns) ≡ count_by (same L) (found (q ∷ os))
  unfolding Matches
  step o q ns os (inl (a, b)) r = none_first o ns a ∙ r ∙ sym (none_found q os b)
  step o q ns os (inr (j, M, a, b, s)) r = some_first o j ns a ∙ ap (λ t. cond t 1 0 + count_by (λ x. x == id) ns) s ∙ ap (λ n. cond (same L M) 1 0 + n) r ∙ sym (some_found q M os b)

  word_matches : {x : Word} {v : Value} → WordFor w m x v → IsValue v → Matches (named_id x) (line_of_value w v)
  unfolding Matches height
  word_matches (IsNumber e) o = inl (id_of_kind e, refl)
  word_matches (IsEmpty e) o = inl (id_of_kind e, refl)
  word_matches (IsPacked z e) o = inl (id_of_kind e, ap line_of_entry z)
  word_matches (IsStored {H = H} {id = j} {L = M} {p = p} z i e) o =
      inr (j, M, id_of_kind e ∙ ap (λ (n : ℕ). Some n) (node_id w j p (id_fits i)), ap line_of_entry z, same_name j M i (falls_value width (Ref H) M o (ap line_of_entry z)).0)

  entry_matches : {x : Word} {v : Entry} → EntryFor w m x v → EntryFits w v → Matches (named_id x) (line_of_entry v)
  unfolding Matches
  entry_matches (ZeroEntry e) o = inl (id_of_kind e, refl)
  entry_matches (PackEntry e) o = inl (id_of_kind e, refl)
  entry_matches (NamedEntry {id = j} {L = M} {p = p} i e) o =
      inr (j, M, id_of_kind e ∙ ap (λ (n : ℕ). Some n) (node_id w j p (id_fits i)), refl, same_name j M i (falls_entry w (Named M p) M o refl).0)

  pub words_count : {xs : List Word} {vs : List Value} → WordsFor w m xs vs → AreValues vs → count_by (λ x. x == id) (names_in xs) ≡ count_by (same L) (found (map (line_of_value w) vs))
  words_count NoWord o = refl
  words_count (AWord {x = x} {xs = xs} {v = v} {vs = vs} d ws) o = step (named_id x) (line_of_value w v) (names_in xs) (map (line_of_value w) vs) (word_matches d o.0) (words_count ws o.1)

  entries_count : {xs : List Word} {es : Entries} → EntriesFor w m xs es → EntriesFit w es → count_by (λ x. x == id) (names_in xs) ≡ count_by (same L) (found (map line_of_entry (entries es)))
  unfolding EntriesFit
  entries_count NoEntries o = refl
  entries_count (AnEntry {x = x} {xs = xs} {e = e} {es = es} d ws) o = step (named_id x) (line_of_entry e) (names_in xs) (map line_of_entry (entries es)) (entry_matches d o.0) (entries_count ws o.1)

  pub line_count : (i : ℕ) (line : List Word) (K : LineValue) → IdFor w m i K → LineFits w K → m i ≡ Some line → count_by (λ x. x == id) (names_in line) ≡ count_by (same L) (children w K)
  unfolding LineFits
  line_count i line K (LeafAt {line = y} b e ws) o h = sym (ap (λ z. count_by (λ x. x == id) (names_in z)) (same_line m i y line e h)) ∙ words_count ws o.2
  line_count i line K (InnerAt {line = y} b e es) o h = sym (ap (λ z. count_by (λ x. x == id) (names_in z)) (same_line m i y line e h)) ∙ entries_count es o.2

  names_sum : (es : List (ℕ × List Word)) (Ks : List LineValue) → Valued w m es Ks → count_by (λ x. x == id) (names_of es) ≡ sum_by (λ K. count_by (same L) (children w K)) Ks
  names_sum [] [] v = refl
  names_sum [] (K ∷ Ks) v = absurd v
  names_sum (e ∷ es) [] v = absurd v
  names_sum (e ∷ es) (K ∷ Ks) v =
      sum_by-append (λ x. cond (x == id) 1 0) (names_in e.1) (names_of es)
      ∙ ap (λ n. n + count_by (λ x. x == id) (names_of es)) (line_count e.0 e.1 K v.0.0 v.0.1 v.0.2)
      ∙ ap (λ n. count_by (same L) (children w K) + n) (names_sum es Ks v.1)
      ∙ sym (sum_by-cons (λ N. count_by (same L) (children w N)) K Ks)

  children_sum : (Ks : List LineValue) → count_by (same L) (flat_map (children w) Ks) ≡ sum_by (λ K. count_by (same L) (children w K)) Ks
  children_sum [] = refl
  children_sum (K ∷ Ks) =
      sum_by-append (λ x. cond (same L x) 1 0) (children w K) (flat_map (children w) Ks)
      ∙ ap (λ n. count_by (same L) (children w K) + n) (children_sum Ks)
      ∙ sym (sum_by-cons (λ N. count_by (same L) (children w N)) K Ks)

  tops_found : (vs : List Value) → found (map (line_of_value w) vs) ≡ root_lines w (arrays_of vs)
  tops_found [] = refl
  tops_found (Number n ∷ vs) = tops_found vs
  tops_found (Ref H ∷ vs) = go (line_of_entry (root_entry w (array H))) (tops_found vs)
    where
      go : (o : Option LineValue) → found (map (line_of_value w) vs) ≡ root_lines w (arrays_of vs) → found (o ∷ map (line_of_value w) vs) ≡ found (o ∷ map (λ A. line_of_entry (root_entry w A)) (arrays_of vs))
      go None e = e
      go (Some K) e = ap (λ Ks. K ∷ Ks) e

  -- where the stored lines have the line values of the arrays, each once, names of `id` are as many as `count` says
  pub counts_agree : (es : List (ℕ × List Word)) (Ks : List LineValue) (held : List Word) (vs : List Value) → Valued w m es Ks → WordsFor w m held vs → AreValues vs
      → sum_by (λ K. count_by (same L) (children w K)) Ks ≡ sum_by (λ K. count_by (same L) (children w K)) (lines w (arrays_of vs))
      → count_by (λ x. x == id) (names_of es) + count_by (λ x. x == id) (names_in held) ≡ count w L (arrays_of vs)
  counts_agree es Ks held vs v d o s =
      ap (λ n. n + count_by (λ x. x == id) (names_in held)) (names_sum es Ks v ∙ s ∙ sym (children_sum (lines w (arrays_of vs))))
      ∙ ap (λ n. count_by (same L) (flat_map (children w) (lines w (arrays_of vs))) + n) (words_count d o ∙ ap (count_by (same L)) (tops_found vs))

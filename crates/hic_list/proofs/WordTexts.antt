-- The texts of words, of lines and of roots are those of what they stand for.
use Rattle.std.proofs.Common.{◌≡◌, ℕ, zero, suc, ◌+◌, ◌*◌, ◌/◌, ◌%◌, ◌^◌, ◌<◌, ◌≤◌, ◌==◌, Bool, true, false, cond, eqb, List, [], ◌∷◌, ◌++◌, map, drop, length, Option, Some, None, refl, sym, ◌∙◌, ap, subst, inl, inr, arith, add-one}
use Rattle.std.specs.Prelude.{codes, decimal, flat_map, slice_get, unwrap_or}
use Rattle.std.proofs.Math.Arith.{digits_div, digits_mod}
use Rattle.std.proofs.lemmas.Bool.{ne_eqb}
use Rattle.std.proofs.lemmas.List.{drop_more}
use Rattle.std.proofs.lemmas.Option.{get_or_from_slice_get, slice_get_within}
use Rattle.hic_word.specs.declared.Kind.TheVariants as kind
use Rattle.hic_word.specs.declared.Word.{Word}
use Rattle.hic_word.specs.Lists.{AllBelow, In}
use Rattle.hic_word.specs.Width.{IsWidth, pack_limit}
use Rattle.hic_word.specs.Values.{Array, AreValues, IsArray, IsValue, NoPair, Number, Pairs, Ref, Value, array, array-pairs, pairs}
use Rattle.hic_word.specs.Entries.{Entries, Entry, Inner, Leaf, LineValue, More, Named, NoEntry, Pack, Zero, entries}
use Rattle.hic_word.specs.Heights.{height}
use Rattle.hic_word.specs.Canon.{enc, root_entry}
use Rattle.hic_word.specs.Lines.{children, count, found, line_of_entry, line_of_value, lines, reach, visit, visit_from}
use Rattle.hic_word.specs.InMemory.{RootIn}
use Rattle.hic_word.specs.Memory.{Memory, count_at, line_at, width}
use Rattle.hic_word.specs.Stands.{AWord, AnEntry, EntriesFor, EntryFor, IdFor, IsEmpty, IsNumber, IsPacked, IsStored, LineFor, NamedEntry, NoEntries, NoWord, PackEntry, WordFor, WordsFor, ZeroEntry, digits_value, node_bits, pack_bits, word_of}
use Rattle.hic_word.proofs.callers.Bits.{nodes_are_read, id_fits}
use Rattle.hic_word.proofs.callers.Lines.{distinct-In, found_here, found_later, In-left, In-right, visit_head}
use Rattle.hic_word.proofs.callers.Forms.{EntriesFit, EntryFits, EntryFits-root_entry, LineFits}
use Rattle.hic_word.proofs.callers.Standing.{line_of}
use Rattle.hic_plain.proofs.Fits.{reference-fits}
use Rattle.hic_list.specs.Texts.{bracketed, numbered, separated, text_line}
use Rattle.hic_list.specs.Listing.{entry_text, height_text, line_line, line_words, number, path_text, root_text, segment_line, value_text}
use Rattle.hic_list.specs.Walks.{AllNumbered, AreArrays, HasLines, IdsFor}
use Rattle.hic_list.specs.Words.{digits_in, height_before, id_line, kind_text, name_text, number_of, packed_root_text, packed_text, root_entry_text, root_kind_text, root_line, word_count, word_text, words_line, words_of}
use Rattle.hic_list.proofs.Named.{ids_at, number_is}
use Rattle.hic_list.proofs.Numbered.{line_for, lines_closed, lines_fit, valid_at}

four : IsWidth 4
four = inr (inl refl)

-- the digits of a value are those that it was made of
digits_back : (b : ℕ) (ns : List ℕ) → AllBelow b ns → digits_in b (length ns) (digits_value b ns) ≡ ns
digits_back b [] low = refl
digits_back b (n ∷ ns) low =
    let turned : n + b * digits_value b ns ≡ digits_value b ns * b + n = omega arith in
    let first : (n + b * digits_value b ns) % b ≡ n = ap (λ m. m % b) turned ∙ digits_mod (digits_value b ns) low.0 in
    let rest : (n + b * digits_value b ns) / b ≡ digits_value b ns = ap (λ m. m / b) turned ∙ digits_div (digits_value b ns) low.0 in
    (λ i. first i ∷ digits_in b (length ns) (rest i)) ∙ ap (λ ms. n ∷ ms) (digits_back b ns low.1)

packed_is : (ns : List ℕ) → AllBelow (pack_limit 4) ns → length ns ≡ 4 → packed_text (pack_bits 4 ns) ≡ bracketed (separated ns)
packed_is ns low long = ap (λ ms. bracketed (separated ms)) (ap (λ k. digits_in (pack_limit 4) k (digits_value (pack_limit 4) ns)) (sym long) ∙ digits_back (pack_limit 4) ns low)

packed_fits : (ns : List ℕ) → EntryFits 4 (Pack ns) → packed_text (pack_bits 4 ns) ≡ bracketed (separated ns)
unfolding EntryFits
packed_fits ns fits = packed_is ns fits.0 fits.1

not_zero : (A : Array) (ns : List ℕ) → root_entry 4 A ≡ Pack ns → (height 4 A == 0) ≡ false
not_zero A ns e = ne_eqb (height 4 A) 0 (λ z. let none : enc 4 0 A ≡ Pack ns = ap (λ h. enc 4 h A) (sym z) ∙ e in cc)

stored_not_zero : (A : Array) (L : LineValue) (p : List ℕ) → root_entry 4 A ≡ Named L p → (height 4 A == 0) ≡ false
stored_not_zero A L p e = ne_eqb (height 4 A) 0 (λ z. let none : enc 4 0 A ≡ Named L p = ap (λ h. enc 4 h A) (sym z) ∙ e in cc)

slice_in : (k : ℕ) (L : LineValue) (Ls : List LineValue) → slice_get Ls k ≡ Some L → In L Ls
slice_in k L [] e = cc
slice_in zero L (K ∷ Ls) e = let same : K ≡ L = cc in inl same
slice_in (suc k) L (K ∷ Ls) e = inr (slice_in k L Ls e)

module _ (m : Memory) (R : List Array) (ids : List ℕ) (all : AllNumbered m R ids) where
  fit : (L : LineValue) → In L (lines 4 R) → LineFits 4 L
  fit = lines_fit 4 four R all.lists.valid

  number_at : (id : ℕ) (L : LineValue) → IdFor 4 (line_at m) id L → In L (lines 4 R) → unwrap_or (number_of ids id) 0 ≡ number (lines 4 R) L
  number_at id L i h = ap (λ o. unwrap_or o 0) (number_is 4 (line_at m) four all.lists.unique id L i (fit L h) ids (lines 4 R) all.numbered fit h)

  name_is : (id : ℕ) (L : LineValue) (p : List ℕ) → IdFor 4 (line_at m) id L → In L (lines 4 R) → EntryFits 4 (Named L p) → name_text ids (node_bits 4 id p) ≡ entry_text (lines 4 R) (Named L p)
  unfolding EntryFits
  name_is id L p i h fits =
      let read = nodes_are_read 4 id p four (id_fits i) fits.0 fits.1 in
      let steps : digits_in 4 (node_bits 4 id p / 2 ^ 59) (node_bits 4 id p / 2 ^ 24 % 2 ^ 35) ≡ p = (λ t. digits_in 4 (read.length_bits t) (read.path_bits t)) ∙ digits_back 4 p fits.0 in
      let told : unwrap_or (number_of ids (node_bits 4 id p % 2 ^ 24)) 0 ≡ number (lines 4 R) L = ap (λ n. unwrap_or (number_of ids n) 0) read.id_bits ∙ number_at id L i h in
      λ t. 35 ∷ decimal (told t) ++ path_text (steps t)

  pub entry_is : {x : Word} {e : Entry} → EntryFor 4 (line_at m) x e → EntryFits 4 e → ((L : LineValue) → line_of_entry e ≡ Some L → In L (lines 4 R)) → word_text ids x ≡ entry_text (lines 4 R) e
  entry_is (ZeroEntry e) fits h = ap (word_text ids) e
  entry_is (PackEntry {ns = ns} e) fits h = ap (word_text ids) e ∙ packed_fits ns fits
  entry_is (NamedEntry {id = id} {L = L} {p = p} i e) fits h = ap (word_text ids) e ∙ name_is id L p i (h L refl) fits

  -- ---- references

  packed_root_is : (t : Bool) (bits : ℕ) (text : List ℕ) → t ≡ false → packed_text bits ≡ text → cond t [] (packed_text bits) ≡ text
  packed_root_is true bits text e f = cc
  packed_root_is false bits text e f = f

  reference_packed : (x : Word) (H : Pairs) (ns : List ℕ) → root_entry 4 (array H) ≡ Pack ns → EntryFits 4 (Pack ns) → x ≡ word_of kind.RefPack (height 4 (array H)) (pack_bits 4 ns) → word_text ids x ≡ value_text 4 (lines 4 R) (Ref H)
  reference_packed x H ns z fits e =
      ap (word_text ids) e
      ∙ ap (λ text. 38 ∷ 104 ∷ decimal (height 4 (array H)) ++ text) (packed_root_is (height 4 (array H) == 0) (pack_bits 4 ns) (bracketed (separated ns)) (not_zero (array H) ns z) (packed_fits ns fits))
      ∙ ap (λ entry. 38 ∷ height_text 4 (array H) ++ root_text (lines 4 R) entry) (sym z)

  reference_stored : (x : Word) (H : Pairs) (id : ℕ) (L : LineValue) (p : List ℕ) → root_entry 4 (array H) ≡ Named L p → IdFor 4 (line_at m) id L → EntryFits 4 (Named L p) → In L (lines 4 R) → x ≡ word_of kind.RefNode (height 4 (array H)) (node_bits 4 id p) → word_text ids x ≡ value_text 4 (lines 4 R) (Ref H)
  reference_stored x H id L p z i fits h e =
      ap (word_text ids) e
      ∙ ap (λ text. 38 ∷ 104 ∷ decimal (height 4 (array H)) ++ text) (name_is id L p i h fits)
      ∙ ap (λ entry. 38 ∷ height_text 4 (array H) ++ root_text (lines 4 R) entry) (sym z)

  reference_empty : (x : Word) → x ≡ word_of kind.RefPack 0 0 → word_text ids x ≡ value_text 4 (lines 4 R) (Ref NoPair)
  unfolding height
  reference_empty x e = ap (word_text ids) e

  entry_fits_at : (H : Pairs) (e : Entry) → IsValue (Ref H) → root_entry 4 (array H) ≡ e → EntryFits 4 e
  unfolding IsValue
  entry_fits_at H e valid is = subst (EntryFits 4) is (EntryFits-root_entry four H valid)

  pub value_is : {x : Word} {v : Value} → WordFor 4 (line_at m) x v → IsValue v → ((L : LineValue) → line_of_value 4 v ≡ Some L → In L (lines 4 R)) → word_text ids x ≡ value_text 4 (lines 4 R) v
  value_is (IsNumber e) valid h = ap (word_text ids) e
  value_is {x} (IsEmpty e) valid h = reference_empty x e
  value_is {x} (IsPacked {H = H} {ns = ns} z e) valid h = reference_packed x H ns z (entry_fits_at H (Pack ns) valid z) e
  value_is {x} (IsStored {H = H} {id = id} {L = L} {p = p} z i e) valid h = reference_stored x H id L p z i (entry_fits_at H (Named L p) valid z) (h L (ap line_of_entry z)) e

  -- ---- the words of a line

  values_are : {xs : List Word} {vs : List Value} → WordsFor 4 (line_at m) xs vs → AreValues vs → ((L : LineValue) → In L (found (map (line_of_value 4) vs)) → In L (lines 4 R)) → map (word_text ids) xs ≡ map (value_text 4 (lines 4 R)) vs
  values_are NoWord valid h = refl
  values_are (AWord {v = v} {vs = vs} d ds) valid h =
      let first = value_is d valid.0 (λ L e. h L (found_here L (line_of_value 4 v) (map (line_of_value 4) vs) e)) in
      let rest = values_are ds valid.1 (λ L i. h L (found_later L (line_of_value 4 v) (map (line_of_value 4) vs) i)) in
      λ t. first t ∷ rest t

  entries_are : {xs : List Word} {es : Entries} → EntriesFor 4 (line_at m) xs es → EntriesFit 4 es → ((L : LineValue) → In L (found (map line_of_entry (entries es))) → In L (lines 4 R)) → map (word_text ids) xs ≡ map (entry_text (lines 4 R)) (entries es)
  unfolding EntriesFit
  entries_are NoEntries fits h = refl
  entries_are (AnEntry {e = e} {es = es} d ds) fits h =
      let first = entry_is d fits.0 (λ L is. h L (found_here L (line_of_entry e) (map line_of_entry (entries es)) is)) in
      let rest = entries_are ds fits.1 (λ L i. h L (found_later L (line_of_entry e) (map line_of_entry (entries es)) i)) in
      λ t. first t ∷ rest t

  words_are : (xs : List Word) (L : LineValue) → LineFor 4 (line_at m) xs L → LineFits 4 L → ((M : LineValue) → In M (children 4 L) → In M (lines 4 R)) → map (word_text ids) xs ≡ line_words 4 (lines 4 R) L
  unfolding LineFits
  words_are xs (Leaf vs) d fits h = values_are d fits.2 h
  words_are xs (Inner es) d fits h = entries_are d fits.2 h

  -- the line of an id is that of the line value
  line_is : (i id : ℕ) (L : LineValue) → IdFor 4 (line_at m) id L → In L (lines 4 R) → id_line m ids i id ≡ line_line 4 R i L
  line_is i id L stands h =
      let (line, at) = line_of stands in
      let words : map (word_text ids) (words_of (line_at m id)) ≡ line_words 4 (lines 4 R) L = ap (λ o. map (word_text ids) (words_of o)) at ∙ words_are line L (line_for line id L stands at) (fit L h) (λ M c. lines_closed 4 four R all.lists.valid L M h c) in
      let counted : count_at m id ≡ count 4 L R = all.lists.exact.counts id L stands h in
      λ t. text_line (35 ∷ decimal i) ((110 ∷ decimal (counted t)) ∷ words t)

  -- the lines from a place on are that of the id there and those from the next one on
  pub next_line : (k id : ℕ) → slice_get ids k ≡ Some id → numbered (line_line 4 R) k (drop k (lines 4 R)) ≡ id_line m ids k id ++ numbered (line_line 4 R) (k + 1) (drop (k + 1) (lines 4 R))
  next_line k id there =
      let (L, here, stands) = ids_at 4 (line_at m) ids (lines 4 R) k id all.numbered there in
      let behind : drop k (lines 4 R) ≡ L ∷ drop (k + 1) (lines 4 R) = drop_more (lines 4 R) k L (slice_get_within (lines 4 R) k L here) ∙ ap (λ K. K ∷ drop (k + 1) (lines 4 R)) (get_or_from_slice_get (lines 4 R) k L L here) in
      ap (numbered (line_line 4 R) k) behind ∙ ap (λ t. t ++ numbered (line_line 4 R) (k + 1) (drop (k + 1) (lines 4 R))) (sym (line_is k id L stands (slice_in k L (lines 4 R) here)))

  -- ---- roots

  root_text_is : (o : Option LineValue) (A : Array) (L : LineValue) → line_of_entry (root_entry 4 A) ≡ o → o ≡ Some L → In L (visit_from 4 (reach A) o)
  root_text_is None A L e is = cc
  root_text_is (Some K) A L e is = let same : K ≡ L = cc in subst (λ N. In L (visit_from 4 (reach A) (Some N))) (sym same) (visit_head 4 (reach A) L (omega arith))

  top_is_line : (k : ℕ) (As : List Array) (A : Array) (L : LineValue) → slice_get As k ≡ Some A → line_of_entry (root_entry 4 A) ≡ Some L → In L (flat_map (visit 4) As)
  top_is_line k [] A L there e = cc
  top_is_line zero (B ∷ As) A L there e =
      let same : B ≡ A = cc in
      In-left L (visit 4 B) (flat_map (visit 4) As) (subst (λ C. In L (visit 4 C)) (sym same) (root_text_is (line_of_entry (root_entry 4 A)) A L refl e))
  top_is_line (suc k) (B ∷ As) A L there e = In-right L (visit 4 B) (flat_map (visit 4) As) (top_is_line k As A L there e)

  root_entry_is : (root : Word) (H : Pairs) → WordFor 4 (line_at m) root (Ref H) → IsValue (Ref H) → ((L : LineValue) → line_of_entry (root_entry 4 (array H)) ≡ Some L → In L (lines 4 R)) → (root.height ≡ height 4 (array H)) × (root_entry_text ids root ≡ entry_text (lines 4 R) (root_entry 4 (array H)))
  unfolding height
  root_entry_is root H (IsEmpty e) valid h = (ap (λ (x : Word). x.height) e, ap (root_entry_text ids) e)
  root_entry_is root H (IsPacked {ns = ns} z e) valid h = (
    ap (λ (x : Word). x.height) e,
    ap (root_entry_text ids) e
        ∙ ap (λ t. cond t (decimal 0) (packed_text (pack_bits 4 ns))) (not_zero (array H) ns z)
        ∙ packed_fits ns (entry_fits_at H (Pack ns) valid z)
        ∙ ap (entry_text (lines 4 R)) (sym z),
  )
  root_entry_is root H (IsStored {id = id} {L = L} {p = p} z i e) valid h = (
    ap (λ (x : Word). x.height) e,
    ap (root_entry_text ids) e
        ∙ ap (λ t. cond t (decimal 0) (name_text ids (node_bits 4 id p))) (stored_not_zero (array H) L p z)
        ∙ name_is id L p i (h L (ap line_of_entry z)) (entry_fits_at H (Named L p) valid z)
        ∙ ap (entry_text (lines 4 R)) (sym z),
  )

  -- the line of a segment's root is that of its array
  pub segment_is : (i k : ℕ) (root : Word) (A : Array) → slice_get R k ≡ Some A → RootIn m root A → root_line ids i root ≡ segment_line 4 (lines 4 R) i A
  segment_is i k root A there r =
      let valid : IsValue (Ref (pairs A)) = reference-fits A r.valid in
      let is = root_entry_is root (pairs A) r.word valid (λ L e. distinct-In L _ (top_is_line k R A L there (subst (λ B. line_of_entry (root_entry 4 B) ≡ Some L) (array-pairs A) e))) in
      let high : root.height ≡ height 4 A = is.0 ∙ ap (height 4) (array-pairs A) in
      let entry : root_entry_text ids root ≡ entry_text (lines 4 R) (root_entry 4 A) = is.1 ∙ ap (λ B. entry_text (lines 4 R) (root_entry 4 B)) (array-pairs A) in
      λ t. text_line (codes "seg") (decimal i ∷ (104 ∷ decimal (high t)) ∷ entry t ∷ [])

-- A walk over the lines of a memory: its start, its turns and its end.
use Rattle.std.proofs.Common.{◌≡◌, ℕ, zero, suc, ◌+◌, ◌^◌, ◌<◌, ◌≤◌, List, [], ◌∷◌, ◌++◌, length, reverse, take, get_or, Option, Some, None, IsSome, refl, sym, ◌∙◌, ap, subst, inl, inr, append_assoc, append-nil, arith}
use Rattle.std.specs.Prelude.{flat_map, option_to_list, slice_get}
use Rattle.std.specs.FinMap as map_of
use Rattle.std.proofs.lemmas.List.{reverse-append, reverse-reverse, take_more}
use Rattle.std.proofs.lemmas.Option.{get_or_from_slice_get, slice_get_within}
use Rattle.hic_word.specs.declared.Word.{Word}
use Rattle.hic_word.specs.Width.{IsWidth}
use Rattle.hic_word.specs.Lists.{In}
use Rattle.hic_word.specs.Values.{Array, AreValues, IsArray, Ref, Value, array, array-pairs, arrays_of, pairs}
use Rattle.hic_word.specs.Entries.{Entries, Inner, Leaf, LineValue, entries}
use Rattle.hic_word.specs.Canon.{root_entry}
use Rattle.hic_word.specs.Lines.{children, distinct, found, line_of_entry, line_of_value, lines, reach, visit, visit_from, visits}
use Rattle.hic_word.specs.Memory.{Memory, line_at, width}
use Rattle.hic_word.specs.Names.{named_id, names_in}
use Rattle.hic_word.specs.Stands.{AWord, AnEntry, EntriesFor, IdFor, InnerAt, LeafAt, LineFor, Lookup, NoEntries, NoWord, WordsFor}
use Rattle.hic_word.proofs.callers.Lines.{array_low, closed_all, fits_all, Apart-distinct, In-distinct, distinct-In, falls, In-top_rank, rank, top_rank, In-left, In-parts, In-right, visit_head, visits_enough}
use Rattle.hic_word.proofs.callers.Forms.{LineFits}
use Rattle.hic_word.proofs.callers.Standing.{line_of, same_line, id_live}
use Rattle.line_room.proofs.Pigeons.{distinct-length}
use Rattle.hic_plain.proofs.Fits.{reference-fits}
use Rattle.hic_list.specs.Walks.{AreArrays, AreNumbered, HasLines, IdsFor, IsNext, IsPending, IsUnderWay, IsWalk, added, whole_visits}
use Rattle.hic_list.specs.Words.{number_of}
use Rattle.hic_list.proofs.Firsts.{added-append, distinct-added}
use Rattle.hic_list.proofs.Named.{NamesFor, ids_append, ids_length, line_names, names_first, numbered_in, unnumbered, word_names}
use Rattle.hic_list.proofs.Walking.{flat-append, visits_within, walk_end, walk_new, walk_on, walk_room}

-- the line of an id that stands for a line value stands for it
pub line_for : {w : ℕ} {m : Lookup} (line : List Word) (id : ℕ) (L : LineValue) → IdFor w m id L → m id ≡ Some line → LineFor w m line L
line_for {w} {m} line id (Leaf vs) (LeafAt {line = x} b e ws) h = subst (λ z. WordsFor w m z vs) (same_line m id x line e h) ws
line_for {w} {m} line id (Inner es) (InnerAt {line = x} b e ws) h = subst (λ z. EntriesFor w m z es) (same_line m id x line e h) ws

values_length : {w : ℕ} {m : Lookup} {xs : List Word} {vs : List Value} → WordsFor w m xs vs → length xs ≡ length vs
values_length NoWord = refl
values_length (AWord d ds) = ap suc (values_length ds)

entries_length : {w : ℕ} {m : Lookup} {xs : List Word} {es : Entries} → EntriesFor w m xs es → length xs ≡ length (entries es)
entries_length NoEntries = refl
entries_length (AnEntry d ds) = ap suc (entries_length ds)

words_length : {w : ℕ} (m : Lookup) (line : List Word) (L : LineValue) → LineFor w m line L → LineFits w L → length line ≡ w
unfolding LineFits
words_length m line (Leaf vs) d fits = values_length d ∙ fits.0
words_length m line (Inner es) d fits = entries_length d ∙ fits.0

-- ---- the lines of valid arrays

abbrev references : List Array → List Value
references [] = []
references (A ∷ As) = Ref (pairs A) ∷ references As

referenced : (As : List Array) → arrays_of (references As) ≡ As
referenced [] = refl
referenced (A ∷ As) = λ i. array-pairs A i ∷ referenced As i

referenced_valid : (As : List Array) → AreArrays As → AreValues (references As)
referenced_valid [] d = tt
referenced_valid (A ∷ As) d = (reference-fits A d.0, referenced_valid As d.1)

pub valid_front : (k : ℕ) (As : List Array) → AreArrays As → AreArrays (take k As)
valid_front zero As d = tt
valid_front (suc k) [] d = tt
valid_front (suc k) (A ∷ As) d = (d.0, valid_front k As d.1)

module _ (w : ℕ) (width : IsWidth w) (As : List Array) (valid : AreArrays As) where
  visited : LineValue → Type 0
  visited L = In L (flat_map (visit w) As)

  pub lines_closed : (K M : LineValue) → In K (lines w As) → In M (children w K) → In M (lines w As)
  lines_closed K M k c =
      let at : In K (flat_map (visit w) (arrays_of (references As))) = subst (λ Rs. In K (flat_map (visit w) Rs)) (sym (referenced As)) (In-distinct K (flat_map (visit w) As) k) in
      distinct-In M (flat_map (visit w) As) (subst (λ Rs. In M (flat_map (visit w) Rs)) (referenced As) (closed_all w width (references As) K M (referenced_valid As valid) at c))

  pub lines_fit : (L : LineValue) → In L (lines w As) → LineFits w L
  lines_fit L h = fits_all w width (references As) L (referenced_valid As valid) (subst (λ Rs. In L (flat_map (visit w) Rs)) (sym (referenced As)) (In-distinct L (flat_map (visit w) As) h))

flat_append : (f : Array → List LineValue) (As Bs : List Array) → flat_map f (As ++ Bs) ≡ flat_map f As ++ flat_map f Bs
flat_append f [] Bs = refl
flat_append f (A ∷ As) Bs = ap (λ Ls. f A ++ Ls) (flat_append f As Bs) ∙ sym (append_assoc (f A) (flat_map f As) (flat_map f Bs))

visited_front : (w k : ℕ) (As : List Array) (M : LineValue) → In M (flat_map (visit w) (take k As)) → In M (flat_map (visit w) As)
visited_front w zero As M h = absurd h
visited_front w (suc k) [] M h = absurd h
visited_front w (suc k) (A ∷ As) M h = elim (In-parts M (visit w A) (flat_map (visit w) (take k As)) h) [
  | inl i ↦ In-left M (visit w A) (flat_map (visit w) As) i
  | inr i ↦ In-right M (visit w A) (flat_map (visit w) As) (visited_front w k As M i)
]

-- with one array more, the lines are those before and what the array's visit adds
lines_more : (w : ℕ) (As : List Array) (A : Array) → lines w (As ++ A ∷ []) ≡ added (lines w As) (visit w A)
lines_more w As A =
    ap distinct (flat_append (visit w) As (A ∷ []) ∙ ap (λ Ls. flat_map (visit w) As ++ Ls) (append-nil (visit w A)))
    ∙ distinct-added (flat_map (visit w) As ++ visit w A)
    ∙ added-append [] (flat_map (visit w) As) (visit w A)
    ∙ ap (λ Ds. added Ds (visit w A)) (sym (distinct-added (flat_map (visit w) As)))

-- ---- the start

module _ (w : ℕ) (width : IsWidth w) (As : List Array) (A : Array) (valid : AreArrays As) (also : IsArray A) where
  lines_before : (L : LineValue) → In L (lines w As) → In L (lines w (As ++ A ∷ []))
  lines_before L h = distinct-In L _ (subst (λ Ls. In L Ls) (sym (flat_append (visit w) As (A ∷ []))) (In-left L (flat_map (visit w) As) _ (In-distinct L _ h)))

  line_new : (L : LineValue) → In L (visit w A) → In L (lines w (As ++ A ∷ []))
  line_new L h = distinct-In L _ (subst (λ Ls. In L Ls) (sym (flat_append (visit w) As (A ∷ []))) (In-right L (flat_map (visit w) As) _ (In-left L (visit w A) [] h)))

  top_new : (o : Option LineValue) → line_of_entry (root_entry w A) ≡ o → (K : LineValue) → In K (found (o ∷ [])) → In K (lines w (As ++ A ∷ []))
  top_new None e K h = absurd h
  top_new (Some L) e K (inl same) = subst (λ N. In N (lines w (As ++ A ∷ []))) same (line_new L (subst (λ o. In L (visit_from w (reach A) o)) (sym e) (visit_head w (reach A) L (omega arith))))
  top_new (Some L) e K (inr h) = absurd h

  visit_is : (o : Option LineValue) → line_of_entry (root_entry w A) ≡ o → flat_map (whole_visits w (lines w (As ++ A ∷ []))) (found (o ∷ [])) ≡ visit w A
  visit_is None e = sym (ap (visit_from w (reach A)) e)
  visit_is (Some L) e =
      let low = array_low w width A L also e in
      let there = top_new (Some L) e L (inl refl) in
      append-nil (whole_visits w (lines w (As ++ A ∷ [])) L)
      ∙ visits_enough w (LineFits w) (falls width) (top_rank (lines w (As ++ A ∷ []))) (reach A) L low.0 (In-top_rank L (lines w (As ++ A ∷ [])) there) low.1
      ∙ sym (ap (visit_from w (reach A)) e)

  pub first_walk : IsWalk w (lines w (As ++ A ∷ [])) (lines w As) (found (line_of_entry (root_entry w A) ∷ []))
  first_walk =
      let o = line_of_entry (root_entry w A) in
      record {
        ends = ap (added (lines w As)) (visit_is o refl) ∙ sym (lines_more w As A);
        numbered = lines_before;
        waiting = top_new o refl;
        pending = λ L h. record {
          front = [];
          rest = found (o ∷ []);
          waiting = refl;
          lower = λ K i. absurd i;
          reached = λ M i. inl (visits_within w (lines w As) (lines_closed w width As valid) (top_rank (lines w (As ++ A ∷ []))) L M h i);
        };
      }

front_more : (R : List Array) (k : ℕ) (A : Array) → slice_get R k ≡ Some A → take (k + 1) R ≡ take k R ++ A ∷ []
front_more R k A there = take_more R k A (slice_get_within R k A there) ∙ ap (λ B. take k R ++ B ∷ []) (get_or_from_slice_get R k A A there)

pub valid_at : (R : List Array) (k : ℕ) (A : Array) → AreArrays R → slice_get R k ≡ Some A → IsArray A
valid_at [] k A d e = cc
valid_at (B ∷ R) zero A d e = let same : B ≡ A = cc in subst IsArray same d.0
valid_at (B ∷ R) (suc k) A d e = valid_at R k A d.1 e

-- what the next one that waits stands for, and those behind it
record Turn (m : Memory) (R : List Array) (k : ℕ) (ids waiting : List ℕ) (id : ℕ) : Type 0 where
  pub values : List LineValue
  pub first : LineValue
  pub rest : List LineValue
  pub numbered : IdsFor (width m) (line_at m) ids values
  pub stands : IdFor (width m) (line_at m) id first
  pub waits : IdsFor (width m) (line_at m) (reverse waiting) rest
  pub walk : IsWalk (width m) (lines (width m) (take (k + 1) R)) values (first ∷ rest)

module _ (m : Memory) (w_is : IsWidth (width m)) (R : List Array) (k : ℕ) where
  pub starts : (ids : List ℕ) (root : Word) → IsNext m R k ids root → IsUnderWay m R k ids (reverse (names_in (root ∷ [])))
  starts ids root n =
      let w = width m in
      let also = valid_at R k n.array n.lists.valid n.there in
      let top : line_of_value w (Ref (pairs n.array)) ≡ line_of_entry (root_entry w n.array) = ap (λ B. line_of_entry (root_entry w B)) (array-pairs n.array) in
      let names : IdsFor w (line_at m) (names_in (root ∷ [])) (found (line_of_value w (Ref (pairs n.array)) ∷ [])) = names_first w (line_at m) (named_id root) (line_of_value w (Ref (pairs n.array))) [] [] (word_names w (line_at m) n.stands.word) tt in
      record {
        values = lines w (take k R);
        next = found (line_of_entry (root_entry w n.array) ∷ []);
        numbered = n.numbered;
        waits = subst (λ js. IdsFor w (line_at m) js (found (line_of_entry (root_entry w n.array) ∷ []))) (sym (reverse-reverse (names_in (root ∷ [])))) (subst (λ o. IdsFor w (line_at m) (names_in (root ∷ [])) (found (o ∷ []))) top names);
        walk = subst (λ As. IsWalk w (lines w As) (lines w (take k R)) (found (line_of_entry (root_entry w n.array) ∷ []))) (sym (front_more R k n.array n.there)) (first_walk w w_is (take k R) n.array (valid_front k R n.lists.valid) also);
      }

  -- ---- a turn

  -- the next one waits last
  last_first : (waiting : List ℕ) (id : ℕ) → reverse (waiting ++ id ∷ []) ≡ id ∷ reverse waiting
  last_first waiting id = reverse-append waiting (id ∷ [])

  module _ (lists : HasLines m R) where
    closed : (K M : LineValue) → In K (lines (width m) (take (k + 1) R)) → In M (children (width m) K) → In M (lines (width m) (take (k + 1) R))
    closed = lines_closed (width m) w_is (take (k + 1) R) (valid_front (k + 1) R lists.valid)

    fit : (L : LineValue) → In L (lines (width m) (take (k + 1) R)) → LineFits (width m) L
    fit = lines_fit (width m) w_is (take (k + 1) R) (valid_front (k + 1) R lists.valid)

    turn : (ids waiting : List ℕ) (id : ℕ) → IsUnderWay m R k ids (waiting ++ id ∷ []) → Turn m R k ids waiting id
    turn ids waiting id u = go u.next (subst (λ js. IdsFor (width m) (line_at m) js u.next) (last_first waiting id) u.waits) u.walk
      where
        go : (next : List LineValue) → IdsFor (width m) (line_at m) (id ∷ reverse waiting) next → IsWalk (width m) (lines (width m) (take (k + 1) R)) u.values next → Turn m R k ids waiting id
        go [] d walk = absurd d
        go (K ∷ Ks) d walk = record { values = u.values; first = K; rest = Ks; numbered = u.numbered; stands = d.0; waits = d.1; walk = walk }

    turn_fits : (ids waiting : List ℕ) (id : ℕ) (t : Turn m R k ids waiting id) → (L : LineValue) → In L t.values → LineFits (width m) L
    turn_fits ids waiting id t L h = fit L (t.walk.numbered L h)

    pub next_is_live : (ids waiting : List ℕ) (id : ℕ) → IsUnderWay m R k ids (waiting ++ id ∷ []) → IsSome (line_at m id)
    next_is_live ids waiting id u = id_live (turn ids waiting id u).stands

    pub goes_on : (n : ℕ) (ids waiting : List ℕ) (id : ℕ) → IsUnderWay m R k ids (waiting ++ id ∷ []) → number_of ids id ≡ Some n → IsUnderWay m R k ids waiting
    goes_on n ids waiting id u e =
        let t = turn ids waiting id u in
        let there : In t.first t.values = numbered_in (width m) (line_at m) w_is lists.unique id t.first t.stands (fit t.first (t.walk.waiting t.first (inl refl))) n ids t.values t.numbered (turn_fits ids waiting id t) e in
        record {
          values = t.values;
          next = t.rest;
          numbered = t.numbered;
          waits = t.waits;
          walk = walk_on (width m) w_is (lines (width m) (take (k + 1) R)) closed fit t.values t.rest t.first t.walk there;
        }

    not_there : (ids waiting : List ℕ) (id : ℕ) (t : Turn m R k ids waiting id) → number_of ids id ≡ None → In t.first t.values → ⊥
    not_there ids waiting id t none h = unnumbered (width m) (line_at m) w_is lists.unique id t.first t.stands (fit t.first (t.walk.waiting t.first (inl refl))) ids t.values t.numbered (turn_fits ids waiting id t) none h

    pub gets_a_number : (line : List Word) (ids waiting : List ℕ) (id : ℕ) → IsUnderWay m R k ids (waiting ++ id ∷ []) → number_of ids id ≡ None → line_at m id ≡ Some line → IsUnderWay m R k (ids ++ id ∷ []) (waiting ++ reverse (names_in line))
    gets_a_number line ids waiting id u none at =
        let t = turn ids waiting id u in
        let w = width m in
        let back : reverse (waiting ++ reverse (names_in line)) ≡ names_in line ++ reverse waiting = reverse-append waiting (reverse (names_in line)) ∙ ap (λ ns. ns ++ reverse waiting) (reverse-reverse (names_in line)) in
        record {
          values = t.values ++ t.first ∷ [];
          next = children w t.first ++ t.rest;
          numbered = ids_append w (line_at m) ids (id ∷ []) t.values (t.first ∷ []) t.numbered (t.stands, tt);
          waits = subst (λ js. IdsFor w (line_at m) js (children w t.first ++ t.rest)) (sym back) (ids_append w (line_at m) (names_in line) (reverse waiting) (children w t.first) t.rest (line_names w (line_at m) line t.first (line_for line id t.first t.stands at)) t.waits);
          walk = walk_new w w_is (lines w (take (k + 1) R)) closed fit t.values t.rest t.first t.walk (not_there ids waiting id t none);
        }

    -- a line has as many words as its line value
    pub line_length : (line : List Word) (ids waiting : List ℕ) (id : ℕ) → IsUnderWay m R k ids (waiting ++ id ∷ []) → line_at m id ≡ Some line → length line ≡ width m
    line_length line ids waiting id u at =
        let t = turn ids waiting id u in
        words_length (line_at m) line t.first (line_for line id t.first t.stands at) (fit t.first (t.walk.waiting t.first (inl refl)))

    -- there are more lines than numbers
    pub has_room : (ids waiting : List ℕ) (id : ℕ) → IsUnderWay m R k ids (waiting ++ id ∷ []) → number_of ids id ≡ None → length ids < map_of.len m.lines
    has_room ids waiting id u none =
        let t = turn ids waiting id u in
        let w = width m in
        let a = ids_length w (line_at m) ids t.values t.numbered in
        let b = walk_room w w_is (lines w (take (k + 1) R)) closed fit t.values t.rest t.first t.walk (not_there ids waiting id t none) in
        let c : length (lines w (take (k + 1) R)) ≤ length (lines w R) = distinct-length (lines w (take (k + 1) R)) (lines w R) (Apart-distinct (flat_map (visit w) (take (k + 1) R))) (λ M i. distinct-In M _ (visited_front w (k + 1) R M (In-distinct M _ i))) in
        omega (arith, a, b, c, lists.exact.number)

  -- ---- the end

  pub ends : (ids : List ℕ) → IsUnderWay m R k ids [] → AreNumbered m R (k + 1) ids
  ends ids u = go u.next u.waits u.walk
    where
      go : (next : List LineValue) → IdsFor (width m) (line_at m) [] next → IsWalk (width m) (lines (width m) (take (k + 1) R)) u.values next → AreNumbered m R (k + 1) ids
      go [] d walk = subst (λ Ls. IdsFor (width m) (line_at m) ids Ls) (walk_end (width m) (lines (width m) (take (k + 1) R)) u.values walk) u.numbered
      go (K ∷ Ks) d walk = absurd d

-- The ids that a line names stand for what its line value names, in order; and the numbers of ids are those of line values.
use Rattle.std.proofs.Common.{◌≡◌, ℕ, zero, suc, ◌<◌, ◌==◌, Bool, true, false, cond, eqb, List, [], ◌∷◌, ◌++◌, map, length, Option, Some, None, refl, sym, ◌∙◌, ap, subst, inl, inr, arith}
use Rattle.std.specs.Prelude.{IsSome, option_to_list, slice_get}
use Rattle.std.proofs.lemmas.Bool.{eq-eqb, ne_eqb}
use Rattle.hic_word.specs.declared.Word.{Word}
use Rattle.hic_word.specs.Width.{IsWidth}
use Rattle.hic_word.specs.Lists.{In}
use Rattle.hic_word.specs.Values.{NoPair, Value, array}
use Rattle.hic_word.specs.Entries.{Entries, Entry, Inner, Leaf, LineValue, entries}
use Rattle.hic_word.specs.Heights.{height}
use Rattle.hic_word.specs.Lines.{children, found, line_of_entry, line_of_value}
use Rattle.hic_word.specs.Names.{named_id, names_in}
use Rattle.hic_word.specs.Same.{same}
use Rattle.hic_word.specs.Stands.{AWord, AnEntry, EntriesFor, EntryFor, IdFor, IsEmpty, IsNumber, IsPacked, IsStored, LineFor, Lookup, NamedEntry, NoEntries, NoWord, PackEntry, Unique, WordFor, WordsFor, ZeroEntry}
use Rattle.hic_word.proofs.callers.Bits.{id_of_kind, node_id, id_fits}
use Rattle.hic_word.proofs.callers.Forms.{LineFits, same_refl, same_true}
use Rattle.hic_word.proofs.callers.Standing.{id_live, one_id, one_value}
use Rattle.hic_list.specs.Listing.{number}
use Rattle.hic_list.specs.Walks.{IdsFor}
use Rattle.hic_list.specs.Words.{number_of, one_more}

module _ (w : ℕ) (m : Lookup) where
  -- ---- what a word names

  -- an id stands for a line value, or there is neither
  abbrev pub NamesFor : Option ℕ → Option LineValue → Type 0
  NamesFor None None = Unit {0}
  NamesFor None (Some L) = ⊥
  NamesFor (Some id) None = ⊥
  NamesFor (Some id) (Some L) = IdFor w m id L

  names_as : {o p : Option ℕ} {q r : Option LineValue} → o ≡ p → q ≡ r → NamesFor p r → NamesFor o q
  names_as {o} {p} {q} {r} e f h = subst (λ x. NamesFor x q) (sym e) (subst (λ y. NamesFor p y) (sym f) h)

  pub word_names : {x : Word} {v : Value} → WordFor w m x v → NamesFor (named_id x) (line_of_value w v)
  unfolding height
  word_names (IsNumber e) = names_as (id_of_kind e) refl tt
  word_names (IsEmpty e) = names_as (id_of_kind e) refl tt
  word_names (IsPacked z e) = names_as (id_of_kind e) (ap line_of_entry z) tt
  word_names (IsStored {id = id} {L = L} {p = p} z i e) = names_as (id_of_kind e ∙ ap (λ (n : ℕ). Some n) (node_id w id p (id_fits i))) (ap line_of_entry z) i

  pub entry_names : {x : Word} {e : Entry} → EntryFor w m x e → NamesFor (named_id x) (line_of_entry e)
  entry_names (ZeroEntry e) = names_as (id_of_kind e) refl tt
  entry_names (PackEntry e) = names_as (id_of_kind e) refl tt
  entry_names (NamedEntry {id = id} {p = p} i e) = names_as (id_of_kind e ∙ ap (λ (n : ℕ). Some n) (node_id w id p (id_fits i))) refl i

  pub names_first : (o : Option ℕ) (q : Option LineValue) (ids : List ℕ) (qs : List (Option LineValue)) → NamesFor o q → IdsFor w m ids (found qs) → IdsFor w m (option_to_list o ++ ids) (found (q ∷ qs))
  names_first None None ids qs n h = h
  names_first None (Some L) ids qs n h = absurd n
  names_first (Some id) None ids qs n h = absurd n
  names_first (Some id) (Some L) ids qs n h = (n, h)

  words_names : {xs : List Word} {vs : List Value} → WordsFor w m xs vs → IdsFor w m (names_in xs) (found (map (line_of_value w) vs))
  words_names NoWord = tt
  words_names (AWord {x = x} {xs = xs} {v = v} {vs = vs} d ws) = names_first (named_id x) (line_of_value w v) (names_in xs) (map (line_of_value w) vs) (word_names d) (words_names ws)

  entries_names : {xs : List Word} {es : Entries} → EntriesFor w m xs es → IdsFor w m (names_in xs) (found (map line_of_entry (entries es)))
  entries_names NoEntries = tt
  entries_names (AnEntry {x = x} {xs = xs} {e = e} {es = es} d ws) = names_first (named_id x) (line_of_entry e) (names_in xs) (map line_of_entry (entries es)) (entry_names d) (entries_names ws)

  pub line_names : (line : List Word) (L : LineValue) → LineFor w m line L → IdsFor w m (names_in line) (children w L)
  line_names line (Leaf vs) d = words_names d
  line_names line (Inner es) d = entries_names d

  -- ---- lists of ids

  pub ids_append : (ids js : List ℕ) (Ls Ks : List LineValue) → IdsFor w m ids Ls → IdsFor w m js Ks → IdsFor w m (ids ++ js) (Ls ++ Ks)
  ids_append [] js [] Ks d e = e
  ids_append [] js (L ∷ Ls) Ks d e = absurd d
  ids_append (id ∷ ids) js [] Ks d e = absurd d
  ids_append (id ∷ ids) js (L ∷ Ls) Ks d e = (d.0, ids_append ids js Ls Ks d.1 e)

  pub ids_length : (ids : List ℕ) (Ls : List LineValue) → IdsFor w m ids Ls → length ids ≡ length Ls
  ids_length [] [] d = refl
  ids_length [] (L ∷ Ls) d = absurd d
  ids_length (id ∷ ids) [] d = absurd d
  ids_length (id ∷ ids) (L ∷ Ls) d = ap suc (ids_length ids Ls d.1)

  -- ---- numbers

  module _ (width : IsWidth w) (unique : Unique m) (id : ℕ) (K : LineValue) (stands : IdFor w m id K) (fits : LineFits w K) where
    -- the test of ids is the test of what they stand for
    same_as : (j : ℕ) (L : LineValue) → IdFor w m j L → LineFits w L → (j == id) ≡ same L K
    same_as j L i f = go (same L K) refl
      where
        go : (t : Bool) → same L K ≡ t → (j == id) ≡ t
        go true e = eq-eqb j id (one_id unique (subst (λ N. IdFor w m j N) (same_true L K e) i) stands)
        go false e = ne_eqb j id (λ s. let a : L ≡ K = one_value width (subst (λ n. IdFor w m n L) s i) f stands fits in let t : same L K ≡ true = subst (λ N. same L N ≡ true) a (same_refl L) in let both : true ≡ false = sym t ∙ e in cc)

    known_more : (t : Bool) (n : ℕ) (o : Option ℕ) (Ls : List LineValue) → cond t (Some 0) (one_more o) ≡ Some n → ((k : ℕ) → o ≡ Some k → In K Ls) → (t ≡ true → In K Ls) → In K Ls
    known_more true n o Ls h later now = now refl
    known_more false n None Ls h later now = cc
    known_more false n (Some k) Ls h later now = later k refl

    -- an id with a number stands for one of the line values
    pub numbered_in : (n : ℕ) (ids : List ℕ) (Ls : List LineValue) → IdsFor w m ids Ls → ((L : LineValue) → In L Ls → LineFits w L) → number_of ids id ≡ Some n → In K Ls
    numbered_in n [] [] d f h = cc
    numbered_in n [] (L ∷ Ls) d f h = absurd d
    numbered_in n (j ∷ ids) [] d f h = absurd d
    numbered_in n (j ∷ ids) (L ∷ Ls) d f h =
        known_more (j == id) n (number_of ids id) (L ∷ Ls) h
        (λ k e. inr (numbered_in k ids Ls d.1 (λ M i. f M (inr i)) e))
        (λ e. inl (same_true L K (sym (same_as j L d.0 (f L (inl refl))) ∙ e)))

    number_at : (t : Bool) (o : Option ℕ) (n : ℕ) → o ≡ Some n → cond t (Some 0) (one_more o) ≡ Some (cond t 0 (suc n))
    number_at true o n e = refl
    number_at false o n e = ap one_more e

    -- the number of an id is that of the line value that it stands for
    pub number_is : (ids : List ℕ) (Ls : List LineValue) → IdsFor w m ids Ls → ((L : LineValue) → In L Ls → LineFits w L) → In K Ls → number_of ids id ≡ Some (number Ls K)
    number_is [] [] d f h = absurd h
    number_is [] (L ∷ Ls) d f h = absurd d
    number_is (j ∷ ids) [] d f h = absurd d
    number_is (j ∷ ids) (L ∷ Ls) d f (inl e) =
        let here : (j == id) ≡ true = same_as j L d.0 (f L (inl refl)) ∙ subst (λ N. same L N ≡ true) e (same_refl L) in
        let there : same L K ≡ true = subst (λ N. same L N ≡ true) e (same_refl L) in
        ap (λ t. cond t (Some 0) (one_more (number_of ids id))) here ∙ ap (λ t. Some (cond t 0 (suc (number Ls K)))) (sym there)
    number_is (j ∷ ids) (L ∷ Ls) d f (inr h) =
        ap (λ t. cond t (Some 0) (one_more (number_of ids id))) (same_as j L d.0 (f L (inl refl)))
        ∙ number_at (same L K) (number_of ids id) (number Ls K) (number_is ids Ls d.1 (λ M i. f M (inr i)) h)

    -- an id without a number stands for none of them
    pub unnumbered : (ids : List ℕ) (Ls : List LineValue) → IdsFor w m ids Ls → ((L : LineValue) → In L Ls → LineFits w L) → number_of ids id ≡ None → In K Ls → ⊥
    unnumbered ids Ls d f none h = let some = number_is ids Ls d f h in let both : Some (number Ls K) ≡ None = sym some ∙ none in cc

  -- an id at a place stands for the line value there
  pub ids_at : (ids : List ℕ) (Ls : List LineValue) (k id : ℕ) → IdsFor w m ids Ls → slice_get ids k ≡ Some id → (L : LineValue) × (slice_get Ls k ≡ Some L) × IdFor w m id L
  ids_at [] Ls k id d e = cc
  ids_at (j ∷ ids) [] k id d e = absurd d
  ids_at (j ∷ ids) (L ∷ Ls) zero id d e = let same : j ≡ id = cc in (L, refl, subst (λ i. IdFor w m i L) same d.0)
  ids_at (j ∷ ids) (L ∷ Ls) (suc k) id d e = ids_at ids Ls k id d.1 e

  -- ids that stand for line values are live
  pub ids_live : (ids : List ℕ) (Ls : List LineValue) (k id : ℕ) → IdsFor w m ids Ls → slice_get ids k ≡ Some id → IsSome (m id)
  ids_live [] Ls k id d e = cc
  ids_live (j ∷ ids) [] k id d e = absurd d
  ids_live (j ∷ ids) (L ∷ Ls) zero id d e = let same : j ≡ id = cc in subst (λ i. IsSome (m i)) same (id_live d.0)
  ids_live (j ∷ ids) (L ∷ Ls) (suc k) id d e = ids_live ids Ls k id d.1 e

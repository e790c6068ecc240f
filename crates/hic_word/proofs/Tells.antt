-- A line stands for one line value at most, and among lines that differ a value has one word at most.
use Rattle.std.proofs.Common.{◌≡◌, ℕ, ◌^◌, ◌<◌, ◌≤◌, Bool, true, false, ltb, List, [], ◌∷◌, length, Option, Some, None, refl, sym, ◌∙◌, ap, subst, arith}
use Rattle.hic_word.specs.declared.Kind.{Kind}
use Rattle.hic_word.specs.declared.Kind.TheVariants.{Node, RefNode, RefPack}
use Rattle.hic_word.specs.declared.Word.{Word}
use Rattle.hic_word.specs.Width.{IsWidth, longest, pack_limit}
use Rattle.hic_word.specs.Values.{ArePairs, AreValues, IsValue, NoPair, Number, Pair, Pairs, Ref, Value, array, pairs, pairs-array}
use Rattle.hic_word.specs.Entries.{Entries, Entry, Inner, Leaf, LineValue, More, Named, Pack}
use Rattle.hic_word.specs.Heights.{height}
use Rattle.hic_word.specs.Canon.{small, small_more, root_entry}
use Rattle.hic_word.specs.Stands.{AWord, AnEntry, EntriesFor, EntryFor, IdFor, InnerAt, IsEmpty, IsNumber, IsPacked, IsStored, LeafAt, Lookup, NamedEntry, NoEntries, NoWord, PackEntry, Unique, WordFor, WordsFor, ZeroEntry, node_bits, pack_bits, word_of}
use Rattle.hic_word.specs.Lists.{AllBelow}
use Rattle.hic_word.proofs.Digits.{digits_value-injective, node_bits-injective}
use Rattle.hic_word.proofs.Fits.{EntriesFit, EntryFits, EntryFits-root_entry, LineFits, sorted_of}
use Rattle.hic_word.proofs.Heights.{height_positive}
use Rattle.hic_word.proofs.Roots.{root-injective}
use Rattle.hic_word.proofs.Widths.{two_words, zero_small}

-- an id has one line
pub same_line : (m : Lookup) (id : ℕ) (l k : List Word) → m id ≡ Some l → m id ≡ Some k → l ≡ k
same_line m id l k e f = cc

-- an id has 24 bits
pub id_fits : {w : ℕ} {m : Lookup} {id : ℕ} {L : LineValue} → IdFor w m id L → id < 2 ^ 24
id_fits (LeafAt b e ws) = b
id_fits (InnerAt b e es) = b

-- the line of an id that stands for a line value
pub line_of : {w : ℕ} {m : Lookup} {id : ℕ} {L : LineValue} → IdFor w m id L → (line : List Word) × (m id ≡ Some line)
line_of (LeafAt {line = x} b e ws) = (x, e)
line_of (InnerAt {line = x} b e es) = (x, e)

-- the parts of a word
pub kind_is : {x : Word} {k : Kind} {h b : ℕ} → x ≡ word_of k h b → x.kind ≡ k
kind_is e = ap (λ y. y.kind) e

pub height_is : {x : Word} {k : Kind} {h b : ℕ} → x ≡ word_of k h b → x.height ≡ h
height_is e = ap (λ y. y.height) e

pub bits_is : {x : Word} {k : Kind} {h b : ℕ} → x ≡ word_of k h b → x.bits ≡ b
bits_is e = ap (λ y. y.bits) e

-- words, entries and their parts
node_with : (w : ℕ) (k : Kind) (h i j : ℕ) (p q : List ℕ) → i ≡ j → p ≡ q → word_of k h (node_bits w i p) ≡ word_of k h (node_bits w j q)
node_with w k h i j p q e f = λ t. word_of k h (node_bits w (e t) (f t))

pack_parts : {ns ms : List ℕ} → Pack ns ≡ Pack ms → ns ≡ ms
pack_parts e = cc

named_parts : {L K : LineValue} {p q : List ℕ} → Named L p ≡ Named K q → (L ≡ K) × (p ≡ q)
named_parts e = (cc, cc)

-- the empty array has height 0 and names nothing, and a packed one is higher
empty_low : (w : ℕ) → 1 ≤ height w [] → ⊥
unfolding height
empty_low w h = omega arith

pub empty_named : (w : ℕ) {L : LineValue} {p : List ℕ} → root_entry w [] ≡ Named L p → ⊥
unfolding height
empty_named w e = cc

packed_height : (w : ℕ) (H : Pairs) (ns : List ℕ) → root_entry w (array H) ≡ Pack ns → 1 ≤ height w (array H)
unfolding height
packed_height w NoPair ns e = cc
packed_height w (Pair o v H) ns e = height_positive w (o, v) (array H)

-- the rest is not small where the first is
pub more_none : (t : Bool) (n : ℕ) (o : Option (List ℕ)) → t ≡ true → small_more t n o ≡ None → o ≡ None
more_none true n None e h = refl
more_none true n (Some ns) e h = cc
more_none false n o e h = cc

-- references to arrays with one height and one entry are the same
refs_same : {w : ℕ} → IsWidth w → (H K : Pairs) → ArePairs 0 H → ArePairs 0 K → height w (array H) ≡ height w (array K) → root_entry w (array H) ≡ root_entry w (array K) → Ref H ≡ Ref K
refs_same {w} width H K h k e f =
    let arrays : array H ≡ array K = root-injective w (array H) (array K) (two_words width) (sorted_of H h) (sorted_of K k) (λ i. (e i, f i)) in
    ap Ref (sym (pairs-array H) ∙ ap pairs arrays ∙ pairs-array K)

-- what an entry of a valid array has
packed_fits : {w : ℕ} → IsWidth w → (H : Pairs) (ns : List ℕ) → ArePairs 0 H → root_entry w (array H) ≡ Pack ns → AllBelow (pack_limit w) ns × (length ns ≡ w)
unfolding EntryFits
packed_fits {w} width H ns h e = subst (EntryFits w) e (EntryFits-root_entry width H h)

named_fits : {w : ℕ} → IsWidth w → (H : Pairs) (L : LineValue) (p : List ℕ) → ArePairs 0 H → root_entry w (array H) ≡ Named L p → AllBelow w p × (length p ≤ longest w) × LineFits w L
unfolding EntryFits
named_fits {w} width H L p h e = subst (EntryFits w) e (EntryFits-root_entry width H h)

named_with : (L K : LineValue) (p q : List ℕ) → L ≡ K → p ≡ q → Named L p ≡ Named K q
named_with L K p q e f = cc

-- a word that stands for a word and for an entry is the number 0
both : {w : ℕ} {m : Lookup} {x : Word} {v : Value} {e : Entry} → WordFor w m x v → EntryFor w m x e → v ≡ Number 0
both (IsNumber d) (ZeroEntry e) = ap Number (sym (bits_is d) ∙ bits_is e)
both (IsNumber d) (PackEntry e) = let a = kind_is d in let b = kind_is e in cc
both (IsNumber d) (NamedEntry i e) = let a = kind_is d in let b = kind_is e in cc
both (IsEmpty d) (ZeroEntry e) = let a = kind_is d in let b = kind_is e in cc
both (IsEmpty d) (PackEntry e) = let a = kind_is d in let b = kind_is e in cc
both (IsEmpty d) (NamedEntry i e) = let a = kind_is d in let b = kind_is e in cc
both (IsPacked z d) (ZeroEntry e) = let a = kind_is d in let b = kind_is e in cc
both (IsPacked z d) (PackEntry e) = let a = kind_is d in let b = kind_is e in cc
both (IsPacked z d) (NamedEntry i e) = let a = kind_is d in let b = kind_is e in cc
both (IsStored z j d) (ZeroEntry e) = let a = kind_is d in let b = kind_is e in cc
both (IsStored z j d) (PackEntry e) = let a = kind_is d in let b = kind_is e in cc
both (IsStored z j d) (NamedEntry i e) = let a = kind_is d in let b = kind_is e in cc

module _ {w : ℕ} (width : IsWidth w) {m : Lookup} where
  -- words that stand for words and for entries are all 0
  pub mixed : {xs : List Word} {vs : List Value} {es : Entries} → WordsFor w m xs vs → EntriesFor w m xs es → small (pack_limit w) vs ≡ None → ⊥
  mixed NoWord NoEntries n = cc
  mixed (AWord {v = v} {vs = vs} d ws) (AnEntry e es) n =
      let zero_first : v ≡ Number 0 = both d e in
      mixed ws es (more_none (ltb 0 (pack_limit w)) 0 (small (pack_limit w) vs) (zero_small width) (subst (λ u. small (pack_limit w) (u ∷ vs) ≡ None) zero_first n))

  -- an id, words, a word stand for one value each
  mutual
    unfolding LineFits IsValue

    pub one_value : {id : ℕ} {L K : LineValue} → IdFor w m id L → LineFits w L → IdFor w m id K → LineFits w K → L ≡ K
    one_value (LeafAt {line = x} b e ws) l (LeafAt {line = y} {vs = vs'} c f us) k = ap Leaf (one_list ws l.2 (subst (λ z. WordsFor w m z vs') (same_line m _ y x f e) us) k.2)
    one_value (LeafAt {line = x} b e ws) l (InnerAt {line = y} {es = es'} c f es) k = absurd (mixed ws (subst (λ z. EntriesFor w m z es') (same_line m _ y x f e) es) l.1)
    one_value (InnerAt {line = x} b e es) l (LeafAt {line = y} {vs = vs'} c f us) k = absurd (mixed (subst (λ z. WordsFor w m z vs') (same_line m _ y x f e) us) es k.1)
    one_value (InnerAt {line = x} b e es) l (InnerAt {line = y} {es = es'} c f ds) k = ap Inner (one_entries es l.2 (subst (λ z. EntriesFor w m z es') (same_line m _ y x f e) ds) k.2)

    pub one_list : {xs : List Word} {vs us : List Value} → WordsFor w m xs vs → AreValues vs → WordsFor w m xs us → AreValues us → vs ≡ us
    one_list NoWord l NoWord k = refl
    one_list (AWord d ws) l (AWord u us) k = λ i. one_of_word d l.0 u k.0 i ∷ one_list ws l.1 us k.1 i

    pub one_entries : {xs : List Word} {es ds : Entries} → EntriesFor w m xs es → EntriesFit w es → EntriesFor w m xs ds → EntriesFit w ds → es ≡ ds
    one_entries NoEntries l NoEntries k = refl
    one_entries (AnEntry e es) l (AnEntry d ds) k = λ i. More (one_of_entry e l.0 d k.0 i) (one_entries es l.1 ds k.1 i)

    pub one_of_word : {x : Word} {v u : Value} → WordFor w m x v → IsValue v → WordFor w m x u → IsValue u → v ≡ u
    one_of_word (IsNumber e) l (IsNumber f) k = ap Number (sym (bits_is e) ∙ bits_is f)
    one_of_word (IsNumber e) l (IsEmpty f) k = let a = kind_is e in let c = kind_is f in cc
    one_of_word (IsNumber e) l (IsPacked y f) k = let a = kind_is e in let c = kind_is f in cc
    one_of_word (IsNumber e) l (IsStored y j f) k = let a = kind_is e in let c = kind_is f in cc
    one_of_word (IsEmpty e) l (IsNumber f) k = let a = kind_is e in let c = kind_is f in cc
    one_of_word (IsEmpty e) l (IsEmpty f) k = refl
    one_of_word (IsEmpty e) l (IsPacked {H = K} {ns = ms} y f) k = let a = height_is e in let c = height_is f in let h = packed_height w K ms y in absurd (omega arith)
    one_of_word (IsEmpty e) l (IsStored y j f) k = let a = kind_is e in let c = kind_is f in cc
    one_of_word (IsPacked z e) l (IsNumber f) k = let a = kind_is e in let c = kind_is f in cc
    one_of_word (IsPacked {H = H} {ns = ns} z e) l (IsEmpty f) k = let a = height_is e in let c = height_is f in let h = packed_height w H ns z in absurd (omega arith)
    one_of_word (IsPacked {H = H} {ns = ns} z e) l (IsPacked {H = K} {ns = ms} y f) k =
        let n = packed_fits width H ns l z in
        let o = packed_fits width K ms k y in
        let same : ns ≡ ms = digits_value-injective (pack_limit w) ns ms n.0 o.0 (n.1 ∙ sym o.1) (sym (bits_is e) ∙ bits_is f) in
        refs_same width H K l k (sym (height_is e) ∙ height_is f) (z ∙ ap Pack same ∙ sym y)
    one_of_word (IsPacked z e) l (IsStored y j f) k = let a = kind_is e in let c = kind_is f in cc
    one_of_word (IsStored z i e) l (IsNumber f) k = let a = kind_is e in let c = kind_is f in cc
    one_of_word (IsStored z i e) l (IsEmpty f) k = let a = kind_is e in let c = kind_is f in cc
    one_of_word (IsStored z i e) l (IsPacked y f) k = let a = kind_is e in let c = kind_is f in cc
    one_of_word (IsStored {H = H} {id = i'} {L = L} {p = p} z i e) l (IsStored {H = K} {id = j'} {L = M} {p = q} y j f) k =
        let n = named_fits width H L p l z in
        let o = named_fits width K M q k y in
        let (ids, paths) = node_bits-injective width i' j' p q (id_fits i) (id_fits j) n.0 o.0 n.1 o.1 (sym (bits_is e) ∙ bits_is f) in
        let lines : L ≡ M = one_value i n.2 (subst (λ d. IdFor w m d M) (sym ids) j) o.2 in
        refs_same width H K l k (sym (height_is e) ∙ height_is f) (z ∙ named_with L M p q lines paths ∙ sym y)

    pub one_of_entry : {x : Word} {e d : Entry} → EntryFor w m x e → EntryFits w e → EntryFor w m x d → EntryFits w d → e ≡ d
    one_of_entry (ZeroEntry e) l (ZeroEntry f) k = refl
    one_of_entry (ZeroEntry e) l (PackEntry f) k = let a = kind_is e in let c = kind_is f in cc
    one_of_entry (ZeroEntry e) l (NamedEntry j f) k = let a = kind_is e in let c = kind_is f in cc
    one_of_entry (PackEntry e) l (ZeroEntry f) k = let a = kind_is e in let c = kind_is f in cc
    one_of_entry (PackEntry {ns = ns} e) l (PackEntry {ns = ms} f) k = ap Pack (digits_value-injective (pack_limit w) ns ms l.0 k.0 (l.1 ∙ sym k.1) (sym (bits_is e) ∙ bits_is f))
    one_of_entry (PackEntry e) l (NamedEntry j f) k = let a = kind_is e in let c = kind_is f in cc
    one_of_entry (NamedEntry i e) l (ZeroEntry f) k = let a = kind_is e in let c = kind_is f in cc
    one_of_entry (NamedEntry i e) l (PackEntry f) k = let a = kind_is e in let c = kind_is f in cc
    one_of_entry (NamedEntry {id = i'} {L = L} {p = p} i e) l (NamedEntry {id = j'} {L = M} {p = q} j f) k =
        let (ids, paths) = node_bits-injective width i' j' p q (id_fits i) (id_fits j) l.0 k.0 l.1 k.1 (sym (bits_is e) ∙ bits_is f) in
        let lines : L ≡ M = one_value i l.2 (subst (λ d. IdFor w m d M) (sym ids) j) k.2 in
        named_with L M p q lines paths

module _ {w : ℕ} {m : Lookup} (u : Unique m) where
  -- among lines that differ a line value has one id, and a value or an entry one word
  mutual
    pub one_id : {i j : ℕ} {L : LineValue} → IdFor w m i L → IdFor w m j L → i ≡ j
    one_id (LeafAt {line = x} b e ws) (LeafAt {line = y} c f vs) = u _ _ y (e ∙ ap (λ (l : List Word). Some l) (one_words ws vs)) f
    one_id (InnerAt {line = x} b e es) (InnerAt {line = y} c f ds) = u _ _ y (e ∙ ap (λ (l : List Word). Some l) (one_inner es ds)) f

    pub one_words : {xs ys : List Word} {vs : List Value} → WordsFor w m xs vs → WordsFor w m ys vs → xs ≡ ys
    one_words NoWord NoWord = refl
    one_words (AWord d ws) (AWord v vs) = λ i. one_word d v i ∷ one_words ws vs i

    pub one_inner : {xs ys : List Word} {es : Entries} → EntriesFor w m xs es → EntriesFor w m ys es → xs ≡ ys
    one_inner NoEntries NoEntries = refl
    one_inner (AnEntry e es) (AnEntry d ds) = λ i. one_entry_word e d i ∷ one_inner es ds i

    pub one_word : {x y : Word} {v : Value} → WordFor w m x v → WordFor w m y v → x ≡ y
    one_word (IsNumber e) (IsNumber f) = e ∙ sym f
    one_word (IsEmpty e) (IsEmpty f) = e ∙ sym f
    one_word (IsEmpty e) (IsPacked {ns = ns} y f) = let h = packed_height w NoPair ns y in absurd (empty_low w h)
    one_word (IsEmpty e) (IsStored y j f) = absurd (empty_named w y)
    one_word (IsPacked {ns = ns} y f) (IsEmpty e) = let h = packed_height w NoPair ns y in absurd (empty_low w h)
    one_word (IsPacked {H = H} {ns = ns} z e) (IsPacked {ns = ms} y f) =
        let same : ns ≡ ms = pack_parts (sym z ∙ y) in
        e ∙ ap (λ ls. word_of RefPack (height w (array H)) (pack_bits w ls)) same ∙ sym f
    one_word (IsPacked z e) (IsStored y j f) = let h = sym z ∙ y in cc
    one_word (IsStored y j f) (IsEmpty e) = absurd (empty_named w y)
    one_word (IsStored z i e) (IsPacked y f) = let h = sym z ∙ y in cc
    one_word (IsStored {H = H} {id = i'} {L = L} {p = p} z i e) (IsStored {id = j'} {L = M} {p = q} y j f) =
        let (lines, paths) = named_parts (sym z ∙ y) in
        e ∙ node_with w RefNode (height w (array H)) i' j' p q (one_id i (subst (λ K. IdFor w m j' K) (sym lines) j)) paths ∙ sym f

    pub one_entry_word : {x y : Word} {e : Entry} → EntryFor w m x e → EntryFor w m y e → x ≡ y
    one_entry_word (ZeroEntry e) (ZeroEntry f) = e ∙ sym f
    one_entry_word (PackEntry e) (PackEntry f) = e ∙ sym f
    one_entry_word (NamedEntry {p = p} i e) (NamedEntry j f) = e ∙ node_with w Node 0 _ _ p p (one_id i j) refl ∙ sym f

-- What folded forms stand for, and what they name.
use Rattle.std.proofs.Common.{◌≡◌, ◌≢◌, ℕ, zero, suc, ◌+◌, ◌-◌, ◌*◌, ◌/◌, ◌%◌, ◌^◌, ◌<◌, ◌≤◌, Bool, List, [], ◌∷◌, ◌++◌, map, length, get_or, replicate, Some, None, refl, sym, ◌∙◌, ap, subst, arith}
use Rattle.std.specs.Prelude.{option_to_list}
use Rattle.std.proofs.Math.Nat.{le_trans, mod-eq_of_lt}
use Rattle.hic_word.specs.declared.Kind.TheVariants.{Num, Node}
use Rattle.hic_word.specs.declared.Kind.TheVariants as kinds
use Rattle.hic_word.specs.declared.Word.{Word}
use Rattle.hic_word.specs.Lists.{AllBelow}
use Rattle.hic_word.specs.Width.{IsWidth, longest, pack_limit}
use Rattle.hic_word.specs.Values.{Array}
use Rattle.hic_word.specs.Entries.{Entries, Entry, Inner, Leaf, LineValue, Named, Pack, Zero, entries, entries-inner, inner}
use Rattle.hic_word.specs.Parts.{values}
use Rattle.hic_word.specs.Canon.{AllZero, Alone, IsPart, Sole, enc, joined, small, sole}
use Rattle.hic_word.specs.Canon as canon
use Rattle.hic_word.specs.Needed.{IsBranch}
use Rattle.hic_word.specs.FormLaws.{part_entries}
use Rattle.hic_word.specs.Names.{id_if, named_id, names_in}
use Rattle.hic_word.specs.Stands.{AnEntry, EntriesFor, EntryFor, LineFor, Lookup, NamedEntry, NoEntries, PackEntry, WordsFor, ZeroEntry, node_bits, digits_value, pack_bits, word_of}
use Rattle.hic_word.proofs.callers.Bits.{nodes_are_read, digits_value_below, bits_is, id_fits, kind_is}
use Rattle.hic_word.proofs.callers.Forms.{by_width, lines_are_needed, paths_are_short, paths_are_places}
use Rattle.seg_canon.specs.declared.filled.Filled.TheVariants.{Nowhere, At, Several}
use Rattle.seg_canon.specs.Filled.{AreTests, filled_of}
use Rattle.seg_canon.specs.Folds.{PiecesFor}
use Rattle.seg_canon.proofs.Filling.{filled_by, filled_sole, names_at, nowhere_zero, sole_at, tests_entries, zero_entry, zero_nowhere}
use Rattle.seg_canon.proofs.Pieces.{empty_entries, empty_values, enc-empty, enc_joined, pieces_entries, some_words, zero_part}

-- an entry's kind tells its form
pub entry_named : {w : ℕ} {m : Lookup} {x : Word} {e : Entry} → EntryFor w m x e → x.kind ≡ Node → (L : LineValue) × (p : List ℕ) × (e ≡ Named L p)
entry_named (ZeroEntry e) k = let a = kind_is e in cc
entry_named (PackEntry e) k = let a = kind_is e in cc
entry_named (NamedEntry {L = L} {p = p} i e) k = (L, p, refl)

not_named : {w : ℕ} {m : Lookup} {x : Word} {e : Entry} (q : ℕ) (es : List Entry) → EntryFor w m x e → (x.kind ≡ Node → ⊥) → joined (Alone q e) es ≡ Named (Inner (inner es)) []
not_named q es (ZeroEntry e) n = refl
not_named q es (PackEntry e) n = refl
not_named q es (NamedEntry i e) n = absurd (n (kind_is e))

entry_in : {w : ℕ} {m : Lookup} {xs : List Word} {es : Entries} (k : ℕ) (x : Word) → EntriesFor w m xs es → k < length xs → EntryFor w m (get_or xs k x) (get_or (entries es) k Zero)
entry_in k x NoEntries h = absurd (omega arith)
entry_in zero x (AnEntry e es) h = e
entry_in (suc k) x (AnEntry e es) h = entry_in k x es (omega arith)

-- one number more before a path
path_room : {w : ℕ} → IsWidth w → w ^ (longest w - 1) ≤ 2 ^ 35 / w
path_room = by_width (λ w. w ^ (longest w - 1) ≤ 2 ^ 35 / w) (omega arith) (omega arith) (omega arith)

path_lengths : {w : ℕ} → IsWidth w → longest w ≤ 31
path_lengths = by_width (λ w. longest w ≤ 31) (omega arith) (omega arith) (omega arith)

node_longer : {w : ℕ} → IsWidth w → (q id : ℕ) (p : List ℕ) → id < 2 ^ 24 → AllBelow w p → length p < longest w
    → node_bits w id p % 2 ^ 24 + 2 ^ 24 * (q + w * (node_bits w id p / 2 ^ 24 % 2 ^ 35 % (2 ^ 35 / w))) + 2 ^ 59 * ((node_bits w id p / 2 ^ 59 + 1) % 32) ≡ node_bits w id (q ∷ p)
node_longer {w} wide q id p i b l =
    let short : length p ≤ longest w = omega arith in
    let less : length p ≤ longest w - 1 = omega arith in
    let lengths = path_lengths wide in
    let reads = nodes_are_read w id p wide i b short in
    let low : digits_value w p < 2 ^ 35 / w = le_trans (digits_value_below w (longest w - 1) p (some_words wide) b less) (path_room wide) in
    let a : node_bits w id p % 2 ^ 24 ≡ id = reads.id_bits in
    let e : node_bits w id p / 2 ^ 24 % 2 ^ 35 ≡ digits_value w p = reads.path_bits in
    let n : node_bits w id p / 2 ^ 59 ≡ length p = reads.length_bits in
    let e2 : digits_value w p % (2 ^ 35 / w) ≡ digits_value w p = mod-eq_of_lt low in
    let n2 : (length p + 1) % 32 ≡ suc (length p) = omega arith in
    rw (a, e, n, e2, n2) refl

pub longer_entry : {w : ℕ} {m : Lookup} {x : Word} {L : LineValue} {p : List ℕ} → IsWidth w → (q : ℕ) (r : Word) → EntryFor w m x (Named L p) → AllBelow w p → length p < longest w
    → r ≡ word_of Node 0 (x.bits % 2 ^ 24 + 2 ^ 24 * (q + w * (x.bits / 2 ^ 24 % 2 ^ 35 % (2 ^ 35 / w))) + 2 ^ 59 * ((x.bits / 2 ^ 59 + 1) % 32))
    → EntryFor w m r (Named L (q ∷ p))
longer_entry {w} wide q r (NamedEntry {id = id} {p = p} i e) b l f =
    NamedEntry i (f ∙ ap (λ n. word_of Node 0 (n % 2 ^ 24 + 2 ^ 24 * (q + w * (n / 2 ^ 24 % 2 ^ 35 % (2 ^ 35 / w))) + 2 ^ 59 * ((n / 2 ^ 59 + 1) % 32))) (bits_is e)
    ∙ ap (word_of Node 0) (node_longer wide q id p (id_fits i) b l))

-- where one alone is not 0, the longer entry names what the words name
pub longer_names : (w : ℕ) (xs : List Word) (zs : List Bool) (q : ℕ) (d r : Word) → AreTests xs zs → filled_of zs ≡ At q → (get_or xs q d).kind ≡ Node
    → r ≡ word_of Node 0 ((get_or xs q d).bits % 2 ^ 24 + 2 ^ 24 * (q + w * ((get_or xs q d).bits / 2 ^ 24 % 2 ^ 35 % (2 ^ 35 / w))) + 2 ^ 59 * (((get_or xs q d).bits / 2 ^ 59 + 1) % 32))
    → names_in xs ≡ names_in (r ∷ [])
longer_names w xs zs q d r t f k e =
    let x = get_or xs q d in
    let path = q + w * (x.bits / 2 ^ 24 % 2 ^ 35 % (2 ^ 35 / w)) in
    let same : (x.bits % 2 ^ 24 + 2 ^ 24 * path + 2 ^ 59 * ((x.bits / 2 ^ 59 + 1) % 32)) % 2 ^ 24 ≡ x.bits % 2 ^ 24 = omega arith in
    let name : named_id r ≡ named_id x = ap named_id e ∙ ap (λ n. Some n) same ∙ sym (ap (λ j. id_if j x.bits) k) in
    names_at xs zs q d t f ∙ ap (λ o. option_to_list o ++ []) (sym name)

all_nowhere : (n : ℕ) → filled_of (map zero_entry (replicate n Zero)) ≡ Nowhere
all_nowhere zero = refl
all_nowhere (suc n) = rw (all_nowhere n) refl

-- over words that stand for the pieces of a part, and their tests for 0
module _ {w : ℕ} (wide : IsWidth w) (m : Lookup) {h : ℕ} (xs : List Word) {A : Array} (zs : List Bool) (high : 2 ≤ h) (a : IsPart w h A) (pieces : PiecesFor w m h xs A) (tests : AreTests xs zs) where
  these : EntriesFor w m xs (inner (part_entries w h A))
  these = pieces_entries m h xs A high pieces

  tested : zs ≡ map zero_entry (part_entries w h A)
  tested = tests_entries zs these tests ∙ ap (map zero_entry) (entries-inner (part_entries w h A))

  places : filled_of zs ≡ filled_by (sole (part_entries w h A))
  places = ap filled_of tested ∙ filled_sole (part_entries w h A)

  some : filled_of zs ≢ Nowhere → A ≢ []
  some n e = n (ap filled_of (tested ∙ ap (λ X. map zero_entry (part_entries w h X)) e ∙ ap (map zero_entry) (empty_entries w h)) ∙ all_nowhere w)

  piece : (q : ℕ) (d : Word) → q < length xs → EntryFor w m (get_or xs q d) (get_or (part_entries w h A) q Zero)
  piece q d l = subst (λ es. EntryFor w m (get_or xs q d) (get_or es q Zero)) (entries-inner (part_entries w h A)) (entry_in q d these l)

  line_of : joined (sole (part_entries w h A)) (part_entries w h A) ≡ Named (Inner (inner (part_entries w h A))) [] → A ≢ [] → (L : LineValue) × (enc w h A ≡ Named L []) × LineFor w m xs L
  line_of e n = (Inner (inner (part_entries w h A)), enc_joined w h A high n ∙ e, these)

  pub path_form : (q : ℕ) (d r : Word) → filled_of zs ≡ At q → q < length xs → (get_or xs q d).kind ≡ Node
      → r ≡ word_of Node 0 ((get_or xs q d).bits % 2 ^ 24 + 2 ^ 24 * (q + w * ((get_or xs q d).bits / 2 ^ 24 % 2 ^ 35 % (2 ^ 35 / w))) + 2 ^ 59 * (((get_or xs q d).bits / 2 ^ 59 + 1) % 32))
      → (L : LineValue) × (j : ℕ) × (p : List ℕ) × (enc w h A ≡ Named L (j ∷ p)) × EntryFor w m r (enc w h A)
  path_form q d r f l k e =
      let es = part_entries w h A in
      let only : sole es ≡ Alone q (get_or es q Zero) = sole_at es q (sym places ∙ f) in
      let x : EntryFor w m (get_or xs q d) (get_or es q Zero) = piece q d l in
      let (L, p, is) = entry_named x k in
      let made : enc w h A ≡ Named L (q ∷ p) = enc_joined w h A high (some (λ n. let g : At q ≡ Nowhere = sym f ∙ n in cc)) ∙ ap (λ t. joined t es) (only ∙ ap (Alone q) is) in
      let low = paths_are_places w h A L (q ∷ p) wide a made in
      let short : suc (length p) ≤ longest w = paths_are_short w h A L (q ∷ p) wide a made in
      (L, q, p, made, subst (EntryFor w m r) (sym made) (longer_entry wide q r (subst (EntryFor w m (get_or xs q d)) is x) low.1 (omega arith) e))

  pub alone_form : (q : ℕ) (d : Word) → filled_of zs ≡ At q → q < length xs → ((get_or xs q d).kind ≡ Node → ⊥) → (L : LineValue) × (enc w h A ≡ Named L []) × LineFor w m xs L
  alone_form q d f l k =
      let es = part_entries w h A in
      let only : sole es ≡ Alone q (get_or es q Zero) = sole_at es q (sym places ∙ f) in
      line_of (ap (λ t. joined t es) only ∙ not_named q es (piece q d l) k) (some (λ n. let g : At q ≡ Nowhere = sym f ∙ n in cc))

  pub several_form : filled_of zs ≡ Several → (L : LineValue) × (enc w h A ≡ Named L []) × LineFor w m xs L
  several_form f =
      let es = part_entries w h A in
      let only : sole es ≡ canon.Several = several (sole es) (sym places ∙ f) in
      line_of (ap (λ t. joined t es) only) (some (λ n. let g : Several ≡ Nowhere = sym f ∙ n in cc))
    where
      several : (s : Sole) → filled_by s ≡ Several → s ≡ canon.Several
      several AllZero e = cc
      several (Alone q d) e = cc
      several canon.Several e = refl

nowhere : (s : Sole) → filled_by s ≡ Nowhere → s ≡ AllZero
nowhere AllZero e = refl
nowhere (Alone q d) e = cc
nowhere canon.Several e = cc

pub empty_form : {w : ℕ} → IsWidth w → (m : Lookup) {h : ℕ} (xs : List Word) {A : Array} (zs : List Bool) → 2 ≤ h → IsPart w h A → PiecesFor w m h xs A → AreTests xs zs → filled_of zs ≡ Nowhere → enc w h A ≡ Zero
empty_form {w} wide m {h} xs {A = []} zs high a pieces tests f = enc-empty w h
empty_form {w} wide m {h} xs {A = b ∷ A} zs high a pieces tests f =
    let es = part_entries w h (b ∷ A) in
    let none : sole es ≡ AllZero = nowhere (sole es) (sym (places wide m xs zs high a pieces tests) ∙ f) in
    let made : enc w h (b ∷ A) ≡ Named (Inner (inner es)) [] = enc_joined w h (b ∷ A) high (λ n. cc) ∙ ap (λ t. joined t es) none in
    let needed = lines_are_needed w (Inner (inner es)) wide (record { height = h; array = b ∷ A; path = []; is_part = a; made = made }) in
    absurd (subst IsBranch (ap sole (entries-inner es) ∙ none) needed.2)

-- over words that stand for the values of a lowest part
pub empty_words : {w : ℕ} (m : Lookup) (xs : List Word) (A : Array) (zs : List Bool) → IsPart w 1 A → WordsFor w m xs (values w 0 A) → AreTests xs zs → filled_of zs ≡ Nowhere → enc w 1 A ≡ Zero
empty_words {w} m xs A zs a fs t f = ap (enc w 1) (zero_part A a (nowhere_zero zs fs t f))

lowest_is : (w : ℕ) (A : Array) → A ≢ [] → enc w 1 A ≡ canon.lowest (small (pack_limit w) (values w 0 A)) (values w 0 A)
lowest_is w [] n = absurd (n refl)
lowest_is w (p ∷ A) n = refl

values_there : {w : ℕ} (m : Lookup) (xs : List Word) (A : Array) (zs : List Bool) → WordsFor w m xs (values w 0 A) → AreTests xs zs → filled_of zs ≢ Nowhere → A ≢ []
values_there {w} m xs A zs fs t n e = n (zero_nowhere zs (subst (λ X. WordsFor w m xs (values w 0 X)) e fs) t (empty_values w 0))

pub pack_form : {w : ℕ} (m : Lookup) (xs : List Word) (A : Array) (zs : List Bool) (x : Word) (bits : ℕ) → WordsFor w m xs (values w 0 A) → AreTests xs zs → filled_of zs ≢ Nowhere
    → x ≡ word_of kinds.Pack 0 bits → (ns : List ℕ) × (small (pack_limit w) (values w 0 A) ≡ Some ns) × (bits ≡ pack_bits w ns) → (ns : List ℕ) × (enc w 1 A ≡ Pack ns) × EntryFor w m x (enc w 1 A)
pack_form {w} m xs A zs x bits fs t n e s =
    let (ns, is, b) = s in
    let made : enc w 1 A ≡ Pack ns = lowest_is w A (values_there m xs A zs fs t n) ∙ ap (λ o. canon.lowest o (values w 0 A)) is in
    (ns, made, subst (EntryFor w m x) (sym made) (PackEntry (e ∙ ap (word_of kinds.Pack 0) b)))

pub leaf_form : {w : ℕ} (m : Lookup) (xs : List Word) (A : Array) (zs : List Bool) → WordsFor w m xs (values w 0 A) → AreTests xs zs → filled_of zs ≢ Nowhere
    → small (pack_limit w) (values w 0 A) ≡ None → (L : LineValue) × (enc w 1 A ≡ Named L []) × LineFor w m xs L
leaf_form {w} m xs A zs fs t n s = (Leaf (values w 0 A), lowest_is w A (values_there m xs A zs fs t n) ∙ ap (λ o. canon.lowest o (values w 0 A)) s, fs)

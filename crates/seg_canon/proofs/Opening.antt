-- What opened parts are.
use Rattle.std.proofs.Common.{◌≡◌, ◌≢◌, ℕ, suc, ◌+◌, ◌-◌, ◌*◌, ◌/◌, ◌%◌, ◌^◌, ◌<◌, ◌≤◌, List, [], ◌∷◌, map, length, Some, refl, sym, ◌∙◌, ap, subst, arith}
use Rattle.std.proofs.Math.Arith.{digits_div, digits_mod}
use Rattle.std.proofs.lemmas.List.{nil_from_length}
use Rattle.hic_word.specs.declared.Kind.TheVariants.{Node}
use Rattle.hic_word.specs.declared.Kind.TheVariants as kinds
use Rattle.hic_word.specs.declared.Word.{Word}
use Rattle.hic_word.specs.Lists.{AllBelow}
use Rattle.hic_word.specs.Width.{IsWidth, pack_limit}
use Rattle.hic_word.specs.Values.{Array, Number}
use Rattle.hic_word.specs.Entries.{Entry, LineValue, Named, Pack, Zero}
use Rattle.hic_word.specs.Parts.{part, values}
use Rattle.hic_word.specs.Canon.{IsPart, enc, sole}
use Rattle.hic_word.specs.FormLaws.{part_entries}
use Rattle.hic_word.specs.Needed.{height_of}
use Rattle.hic_word.specs.Names.{named_id}
use Rattle.hic_word.specs.Stands.{EntryFor, IdFor, Lookup, NamedEntry, PackEntry, WordsFor, ZeroEntry, digits_value, node_bits, pack_bits, word_of}
use Rattle.hic_word.specs.WordLaws.{ReadsNode}
use Rattle.hic_word.proofs.callers.Bits.{nodes_are_read, node_id, bits_is, id_fits, kind_is}
use Rattle.hic_word.proofs.callers.Forms.{height_of_some, lines_tell_heights, paths_are_short, packs_are_small, parts_are_parts, paths_are_places}
use Rattle.seg_canon.specs.declared.parts.Part.{Part}
use Rattle.seg_canon.specs.Parts.{PartFor, whole_part}
use Rattle.seg_canon.specs.Opens.{IsLine, IsOne}
use Rattle.seg_canon.proofs.Filling.{sole_only, zero_entry_of, zero_word_of}
use Rattle.seg_canon.proofs.Folding.{entry_named}
use Rattle.seg_canon.proofs.Pieces.{empty_part, enc-empty, enc_joined, entry_at, first_quarter, joined_path, other_quarters, pack_height, packed_values, some_words}

-- an entry's kind tells its form
pub entry_packed : {w : ℕ} {m : Lookup} {x : Word} {e : Entry} → EntryFor w m x e → x.kind ≡ kinds.Pack → (ns : List ℕ) × (e ≡ Pack ns) × (x.bits ≡ pack_bits w ns)
entry_packed (ZeroEntry e) k = let a = kind_is e in cc
entry_packed (PackEntry {ns = ns} e) k = (ns, refl, bits_is e)
entry_packed (NamedEntry i e) k = let a = kind_is e in cc

entry_zero : {w : ℕ} {m : Lookup} {x : Word} {e : Entry} → EntryFor w m x e → (x.kind ≡ Node → ⊥) → (x.kind ≡ kinds.Pack → ⊥) → e ≡ Zero
entry_zero (ZeroEntry e) n k = refl
entry_zero (PackEntry e) n k = absurd (k (kind_is e))
entry_zero (NamedEntry i e) n k = absurd (n (kind_is e))

pub zero_opened : {w : ℕ} {m : Lookup} {p : Part} {A : Array} → PartFor w m p A → (p.entry.kind ≡ Node → ⊥) → (p.entry.kind ≡ kinds.Pack → ⊥) → A ≡ []
zero_opened {p = p} {A = A} f n k = empty_part p.at A f.is_part (entry_zero f.entry n k)

-- a part is empty where its entry is the word 0, and nowhere else
pub part_empty : {w : ℕ} {m : Lookup} {p : Part} {A : Array} → PartFor w m p A → p.entry ≡ word_of kinds.Num 0 0 → A ≡ []
part_empty {p = p} {A = A} f z = empty_part p.at A f.is_part (zero_entry_of f.entry z)

pub part_zero : {w : ℕ} {m : Lookup} {p : Part} {A : Array} → PartFor w m p A → A ≡ [] → p.entry ≡ word_of kinds.Num 0 0
part_zero {w} {p = p} f none = zero_word_of f.entry (ap (enc w p.at) none ∙ enc-empty w p.at)

-- a part above its array is opened to its first part
pub lowered_opened : {w : ℕ} {m : Lookup} {p : Part} {A : Array} → IsWidth w → (r : Part) → PartFor w m p A → A ≢ [] → p.at < p.top → r ≡ record p { top = p.top - 1 } → IsOne w m p 0 r A
lowered_opened {w} {m} {p} {A} wide r f some less e =
    let under : p.at ≤ p.top - 1 = omega arith in
    let low = f.low in
    let lower : PartFor w m (record p { top = p.top - 1 }) A = record { is_part = f.is_part; high = under; low = omega (arith, low); entry = f.entry } in
    subst (λ (s : Part). IsOne w m p 0 s A) (sym e) (record {
      some = some;
      place = some_words wide;
      top = omega arith;
      quarter = subst (PartFor w m (record p { top = p.top - 1 })) (sym (first_quarter wide p.top p.at A under f.is_part.below)) lower;
      others = λ i l n. other_quarters wide p.top p.at A under f.is_part.below i n;
      names = refl;
    })

pub some_entry : (w h : ℕ) (A : Array) (e : Entry) → enc w h A ≡ e → (e ≡ Zero → ⊥) → A ≢ []
some_entry w h A e is n none = n (sym is ∙ ap (enc w h) none ∙ enc-empty w h)

-- what is read from an entry that names a line
record IsNode (w : ℕ) (m : Lookup) (p : Part) (A : Array) : Type 0 where
  value : LineValue
  path : List ℕ
  id : ℕ
  made : enc w p.at A ≡ Named value path
  line : IdFor w m id value
  word : p.entry ≡ word_of Node 0 (node_bits w id path)
  low : AllBelow w path
  reads : ReadsNode w id path

node_read : {w : ℕ} {m : Lookup} {p : Part} {A : Array} → IsWidth w → PartFor w m p A → p.entry.kind ≡ Node → IsNode w m p A
node_read {w} {m} {p} {A} wide f k =
    let (L, path, made) = entry_named f.entry k in
    let (id, i, word) = named (subst (EntryFor w m p.entry) made f.entry) in
    let low = paths_are_places w p.at A L path wide f.is_part made in
    let short = paths_are_short w p.at A L path wide f.is_part made in
    record { value = L; path = path; id = id; made = made; line = i; word = word; low = low; reads = nodes_are_read w id path wide (id_fits {id = id} i) low short }
  where
    named : {L : LineValue} {path : List ℕ} {x : Word} → EntryFor w m x (Named L path) → (id : ℕ) × IdFor w m id L × (x ≡ word_of Node 0 (node_bits w id path))
    named (NamedEntry {id = id} i e) = (id, i, e)

pub node_lowered : {w : ℕ} {m : Lookup} {p : Part} {A : Array} → IsWidth w → (r : Part) → PartFor w m p A → p.entry.kind ≡ Node → p.at < p.top → r ≡ record p { top = p.top - 1 } → IsOne w m p 0 r A
node_lowered {w} {p = p} {A = A} wide r f k less e = let n = node_read wide f k in lowered_opened wide r f (some_entry w p.at A (Named n.value n.path) n.made (λ z. cc)) less e

pub stored_opened : {w : ℕ} {m : Lookup} {p : Part} {A : Array} → IsWidth w → (id : ℕ) → PartFor w m p A → p.entry.kind ≡ Node → p.top ≤ p.at → p.entry.bits / 2 ^ 59 ≡ 0 → id ≡ p.entry.bits % 2 ^ 24 → IsLine w m p id A
stored_opened {w} {m} {p} {A} wide id f k all none e =
    let n = node_read wide f k in
    let high = f.high in
    let at : p.at ≡ p.top = omega arith in
    let bits : p.entry.bits ≡ node_bits w n.id n.path = bits_is n.word in
    let empty : n.path ≡ [] = nil_from_length n.path (sym n.reads.length_bits ∙ ap (λ b. b / 2 ^ 59) (sym bits) ∙ none) in
    let same : n.id ≡ id = sym n.reads.id_bits ∙ ap (λ b. b % 2 ^ 24) (sym bits) ∙ sym e in
    record {
      at = at;
      value = n.value;
      made = ap (λ h. enc w h A) (sym at) ∙ n.made ∙ ap (Named n.value) empty;
      line = subst (λ i. IdFor w m i n.value) same n.line;
      names = ap named_id n.word ∙ ap (λ i. Some i) (n.reads.id_bits ∙ same);
    }

-- the part that a path begins with
record IsFirst (w : ℕ) (m : Lookup) (h : ℕ) (A : Array) (q : ℕ) (r : Word) : Type 0 where
  place : q < w
  quarter : PartFor w m (whole_part (h - 1) r) (part w A h q)
  others : (i : ℕ) → i < w → i ≢ q → part w A h i ≡ []

first_of_path : {w : ℕ} (m : Lookup) (h : ℕ) (A : Array) (L : LineValue) (q : ℕ) (path : List ℕ) (id : ℕ) (r : Word) → IsPart w h A → 2 ≤ h → q < w → enc w h A ≡ Named L (q ∷ path) → IdFor w m id L → r ≡ word_of Node 0 (node_bits w id path) → IsFirst w m h A q r
first_of_path {w} m h A L q path id r a high place made i word =
    let es = part_entries w h A in
    let some : A ≢ [] = some_entry w h A (Named L (q ∷ path)) made (λ z. cc) in
    let only = sole_only es q (Named L path) (joined_path (sole es) es L q path (sym (enc_joined w h A high some) ∙ made)) in
    let entry : enc w (h - 1) (part w A h q) ≡ Named L path = sym (entry_at h A q place) ∙ only.0 in
    let low = a.low in
    record {
      place = place;
      quarter = record {
        is_part = (parts_are_parts w h q A high a).is_part;
        high = omega arith;
        low = omega (arith, low);
        entry = subst (EntryFor w m r) (sym entry) (NamedEntry i word);
      };
      others = λ j l n. empty_part (h - 1) (part w A h j) (parts_are_parts w h j A high a).is_part (sym (entry_at h A j l) ∙ only.1 j n);
    }

turn : (q w n : ℕ) → q + w * n ≡ n * w + q
turn q w n = omega arith

pub path_opened : {w : ℕ} {m : Lookup} {p : Part} {A : Array} → IsWidth w → (path length : ℕ) (r : Word) → PartFor w m p A → p.entry.kind ≡ Node → p.top ≤ p.at
    → path ≡ p.entry.bits / 2 ^ 24 % 2 ^ 35 → length ≡ p.entry.bits / 2 ^ 59 → 1 ≤ length → r ≡ word_of Node 0 (p.entry.bits % 2 ^ 24 + 2 ^ 24 * (p.entry.bits / 2 ^ 24 % 2 ^ 35 / w) + 2 ^ 59 * (p.entry.bits / 2 ^ 59 - 1))
    → IsOne w m p (path % w) (whole_part (p.top - 1) r) A
path_opened {w} {m} {p} {A} wide path len r f k all t l more word = go (node_read wide f k).path refl
  where
    go : (qs : List ℕ) → (node_read wide f k).path ≡ qs → IsOne w m p (path % w) (whole_part (p.top - 1) r) A
    go [] none =
        let n = node_read wide f k in
        let bits : p.entry.bits ≡ node_bits w n.id n.path = bits_is n.word in
        let zero : len ≡ 0 = l ∙ ap (λ b. b / 2 ^ 59) bits ∙ n.reads.length_bits ∙ ap length none in
        absurd (omega arith)
    go (q ∷ qs) is =
        let n = node_read wide f k in
        let high = f.high in
        let at : p.at ≡ p.top = omega arith in
        let bits : p.entry.bits ≡ node_bits w n.id n.path = bits_is n.word in
        let low : AllBelow w (q ∷ qs) = subst (AllBelow w) is n.low in
        let place : q < w = low.0 in
        let a : IsPart w p.top A = subst (λ h. IsPart w h A) at f.is_part in
        let made : enc w p.top A ≡ Named n.value (q ∷ qs) = ap (λ h. enc w h A) (sym at) ∙ n.made ∙ ap (Named n.value) is in
        let tall : p.top ≡ suc (length qs) + height_of n.value = lines_tell_heights w p.top A n.value (q ∷ qs) wide a made in
        let some : 1 ≤ height_of n.value = height_of_some n.value in
        let same : p.entry.bits % 2 ^ 24 ≡ n.id = ap (λ b. b % 2 ^ 24) bits ∙ n.reads.id_bits in
        let digits : path ≡ q + w * digits_value w qs = t ∙ ap (λ b. b / 2 ^ 24 % 2 ^ 35) bits ∙ n.reads.path_bits ∙ ap (digits_value w) is in
        let long : len ≡ suc (length qs) = l ∙ ap (λ b. b / 2 ^ 59) bits ∙ n.reads.length_bits ∙ ap length is in
        let turned : path ≡ digits_value w qs * w + q = digits ∙ turn q w (digits_value w qs) in
        let first : path % w ≡ q = ap (λ d. d % w) turned ∙ digits_mod (digits_value w qs) place in
        let rest : p.entry.bits / 2 ^ 24 % 2 ^ 35 / w ≡ digits_value w qs = ap (λ d. d / w) (sym t ∙ turned) ∙ digits_div (digits_value w qs) place in
        let less : p.entry.bits / 2 ^ 59 - 1 ≡ length qs = ap (λ d. d - 1) (sym l) ∙ omega arith in
        let number : p.entry.bits % 2 ^ 24 + 2 ^ 24 * (p.entry.bits / 2 ^ 24 % 2 ^ 35 / w) + 2 ^ 59 * (p.entry.bits / 2 ^ 59 - 1) ≡ node_bits w n.id qs = rw (same, rest, less) refl in
        let entry : r ≡ word_of Node 0 (node_bits w n.id qs) = word ∙ ap (word_of Node 0) number in
        let o = first_of_path m p.top A n.value q qs n.id r a (omega arith) place made n.line entry in
        subst (λ j. IsOne w m p j (whole_part (p.top - 1) r) A) (sym first) (record {
          some = some_entry w p.top A (Named n.value (q ∷ qs)) made (λ z. cc);
          place = place;
          top = omega arith;
          quarter = o.quarter;
          others = o.others;
          names = ap named_id entry ∙ ap (λ i. Some i) (node_id w n.id qs (id_fits n.line)) ∙ sym (ap named_id n.word ∙ ap (λ i. Some i) n.reads.id_bits);
        })

-- packed parts
pub pack_opened : {w : ℕ} {m : Lookup} {p : Part} {A : Array} → IsWidth w → (words : List Word) → PartFor w m p A → p.entry.kind ≡ kinds.Pack
    → ((ns : List ℕ) → AllBelow (pack_limit w) ns → length ns ≡ w → p.entry.bits ≡ pack_bits w ns → WordsFor w m words (map Number ns)) → (ns : List ℕ) × (enc w 1 A ≡ Pack ns) × WordsFor w m words (values w 0 A)
pack_opened {w} {m} {p} {A} wide words f k unpacked =
    let (ns, is, bits) = entry_packed f.entry k in
    let (long, low) = packs_are_small w p.at A ns wide f.is_part is in
    let made : enc w 1 A ≡ Pack ns = ap (λ h. enc w h A) (sym (pack_height w p.at A ns is)) ∙ is in
    (ns, made, subst (WordsFor w m words) (packed_values w A ns made) (unpacked ns low long bits))

pub pack_lowered : {w : ℕ} {m : Lookup} {p : Part} {A : Array} → IsWidth w → (r : Part) → PartFor w m p A → p.entry.kind ≡ kinds.Pack → 1 ≤ p.top → p.top ≢ 1 → r ≡ record p { top = p.top - 1 } → IsOne w m p 0 r A
pack_lowered {w} {p = p} {A = A} wide r f k positive more e =
    let (ns, is, bits) = entry_packed f.entry k in
    let at : p.at ≡ 1 = pack_height w p.at A ns is in
    lowered_opened wide r f (some_entry w p.at A (Pack ns) is (λ z. cc)) (omega arith) e

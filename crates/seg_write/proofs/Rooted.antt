-- The root of the array that a part stands for.
use Rattle.std.proofs.Common.{◌≡◌, ◌≢◌, ℕ, ◌%◌, ◌^◌, ◌≤◌, List, [], ◌∷◌, ◌++◌, Some, None, refl, sym, ◌∙◌, ap, subst, inl, inr, arith}
use Rattle.std.proofs.lemmas.Bool.{cases_eq}
use Rattle.std.specs.Prelude.{option_to_list}
use Rattle.hic_word.specs.Width.{four_wide}
use Rattle.hic_word.specs.declared.Kind.TheVariants.{Node, RefNode, RefPack}
use Rattle.hic_word.specs.declared.Kind.TheVariants as kinds
use Rattle.hic_word.specs.declared.Word.{Word}
use Rattle.hic_word.specs.Lists.{times}
use Rattle.hic_word.specs.Values.{Array, IsArray, IsBelow, Pairs, Ref, array, array-pairs, pairs}
use Rattle.hic_word.specs.Entries.{Entry, Inner, LineValue, Named, Pack, Zero, inner}
use Rattle.hic_word.specs.Parts.{part}
use Rattle.hic_word.specs.Heights.{height}
use Rattle.hic_word.specs.Canon.{AllZero, Alone, IsPart, Several, Sole, enc, joined, root_entry, sole}
use Rattle.hic_word.specs.FormLaws.{part_entries, raised}
use Rattle.hic_word.specs.Names.{id_if, named_id, names_in}
use Rattle.hic_word.specs.InMemory.{RootIn}
use Rattle.hic_word.specs.Memory.{Memory, line_at}
use Rattle.hic_word.specs.Holds.{Holds}
use Rattle.hic_word.specs.Standing.{IsWithin}
use Rattle.hic_word.specs.Stands.{EntryFor, IsPacked, IsStored, Lookup, NamedEntry, WordFor, node_bits, pack_bits, word_of}
use Rattle.hic_word.proofs.callers.Holds.{names-none, holding_is_by_counts}
use Rattle.hic_word.proofs.callers.Forms.{heights_are_least, entries_are_raised}
use Rattle.hic_word.proofs.callers.Bits.{bits_is, kind_is}
use Rattle.line_room.specs.MemoryLaws.{HasKeys}
use Rattle.line_room.proofs.Alike.{holds_tell_memories}
use Rattle.seg_canon.specs.declared.parts.Part.{Part}
use Rattle.seg_canon.specs.Opens.{IsLine, IsOne}
use Rattle.seg_canon.specs.Parts.{PartFor, whole_part}
use Rattle.seg_canon.proofs.Opening.{some_entry}
use Rattle.seg_canon.proofs.Pieces.{enc-empty, enc_joined, first_quarter}
use Rattle.seg_read.proofs.Entering.{one_high}
use Rattle.seg_write.specs.Gains.{Grew}
use Rattle.seg_write.specs.Settled.{IsRaised, IsSettled, LoneFor}
use Rattle.seg_write.proofs.LoneLines.{pack_digits, pack_kind, zero_none}
use Rattle.seg_write.proofs.Settling.{lowest_height}

-- a word that names what another names is held in its place, and one that names nothing is held as well
pub same_held : {m : Memory} {x y : Word} (held : List Word) → named_id x ≡ named_id y → Holds 4 m (x ∷ held) → Holds 4 m (y ∷ held)
same_held {m} {x} {y} held same h = holding_is_by_counts 4 m (x ∷ held) (y ∷ held) (λ j. ap (λ o. times j (option_to_list o ++ names_in held)) same) h

pub nothing_held : {m : Memory} {x : Word} (held : List Word) → named_id x ≡ None → Holds 4 m held → Holds 4 m (x ∷ held)
nothing_held {m} {x} held none h = holding_is_by_counts 4 m held (x ∷ held) (λ j. sym (names-none j x held none)) h

pub grew_same : {before m : Memory} {x y : Word} {held : List Word} → named_id x ≡ named_id y → Grew before m (x ∷ []) held → Grew before m (y ∷ []) held
grew_same {held = held} same grew = record { held_before = grew.held_before; held_now = same_held held same grew.held_now; lines = grew.lines; keys = grew.keys; layout = grew.layout }

-- a root stands for a valid array
pub record StandsFor (m : Lookup) (x : Word) (A : Array) : Type 0 where
  pub valid : IsArray A
  pub word : WordFor 4 m x (Ref (pairs A))

pub root_in : {m : Memory} {x : Word} {A : Array} → StandsFor (line_at m) x A → RootIn m x A
root_in s = record { valid = s.valid; word = s.word }

-- a reference to an array by its height and entry
packed_root : {m : Lookup} {A : Array} {x : Word} (ns : List ℕ) → IsArray A → height 4 A ≡ 1 → enc 4 1 A ≡ Pack ns → x ≡ word_of RefPack 1 (pack_bits 4 ns) → StandsFor m x A
packed_root {m} {A} {x} ns a one packed word = record { valid = a; word = stands (pairs A) (array-pairs A) }
  where
    stands : (H : Pairs) → array H ≡ A → WordFor 4 m x (Ref H)
    stands H same =
        let low : height 4 (array H) ≡ 1 = ap (height 4) same ∙ one in
        IsPacked (ap (root_entry 4) same ∙ ap (λ h. enc 4 h A) one ∙ packed) (word ∙ ap (λ h. word_of RefPack h (pack_bits 4 ns)) (sym low))

pub lone_root : {m : Lookup} {A : Array} {x : Word} (pack : Word) → IsArray A → LoneFor (Some pack) A → x ≡ word_of RefPack 1 pack.bits → StandsFor m x A
lone_root pack a (low, ns, packed, bits) word = packed_root ns a low packed (word ∙ ap (word_of RefPack 1) bits)

named_root : {m : Lookup} {A : Array} {x y : Word} {L : LineValue} {p : List ℕ} (h : ℕ) → IsArray A → height 4 A ≡ h → enc 4 h A ≡ Named L p → EntryFor 4 m y (Named L p) → x ≡ word_of RefNode h y.bits → StandsFor m x A
named_root {m} {A} {x} {y} {L} {p} h a tall made (NamedEntry {id = id} i e) word = record { valid = a; word = stands (pairs A) (array-pairs A) }
  where
    stands : (H : Pairs) → array H ≡ A → WordFor 4 m x (Ref H)
    stands H same =
        let high : height 4 (array H) ≡ h = ap (height 4) same ∙ tall in
        IsStored (ap (root_entry 4) same ∙ ap (λ k. enc 4 k A) tall ∙ made) i (word ∙ ap (word_of RefNode h) (bits_is e) ∙ ap (λ k. word_of RefNode k (node_bits 4 id p)) (sym high))

-- a root that is made of a part stands for the part's array, and names what the part's entry names
pub record IsRooted (m : Lookup) (p : Part) (x : Word) (A : Array) : Type 0 where
  pub root : StandsFor m x A
  pub names : named_id x ≡ named_id p.entry

-- what an entry names, by its kind
node_kind : {m : Lookup} {y : Word} {L : LineValue} {p : List ℕ} → EntryFor 4 m y (Named L p) → y.kind ≡ Node
node_kind (NamedEntry i e) = kind_is e

node_name : (y : Word) → y.kind ≡ Node → named_id y ≡ Some (y.bits % 2 ^ 24)
node_name y k = ap (λ j. id_if j y.bits) k

pack_name : (y : Word) → y.kind ≡ kinds.Pack → named_id y ≡ None
pack_name y k = ap (λ j. id_if j y.bits) k

-- the part has its array's height, and its entry names a line
line_rooted : {m : Lookup} {p : Part} {A : Array} {x : Word} (L : LineValue) (path : List ℕ) → PartFor 4 m p A → height 4 A ≡ p.top → enc 4 p.top A ≡ Named L path → x ≡ word_of RefNode p.top p.entry.bits → IsRooted m p x A
line_rooted {m} {p} {A} L path f tall made word =
    let a = f.is_part in
    let own = heights_are_least 4 A four_wide a.valid in
    let least = own.least p.at a.positive a.below in
    let high = f.high in
    let whole : p.at ≡ p.top = omega (arith, least, high, tall) in
    let entry : EntryFor 4 m p.entry (Named L path) = subst (EntryFor 4 m p.entry) (ap (λ h. enc 4 h A) whole ∙ made) f.entry in
    record { root = named_root p.top a.valid tall made entry word; names = ap named_id word ∙ sym (node_name p.entry (node_kind entry)) }

pub stored_rooted : {m : Lookup} {p : Part} {id : ℕ} {A : Array} {x : Word} → PartFor 4 m p A → height 4 A ≡ p.top → IsLine 4 m p id A → x ≡ word_of RefNode p.top p.entry.bits → IsRooted m p x A
stored_rooted f tall i word = line_rooted i.value [] f tall i.made word

pub settled_line : {m : Lookup} {p : Part} {id : ℕ} {A : Array} {x : Word} → PartFor 4 m p A → IsSettled p A → p.top ≢ 2 → IsLine 4 m p id A → x ≡ word_of RefNode p.top p.entry.bits → IsRooted m p x A
settled_line {p = p} {A = A} f (inl none) other i word = absurd (some_entry 4 p.top A (Named i.value []) i.made (λ z. cc) none)
settled_line f (inr (inl tall)) other i word = stored_rooted f tall i word
settled_line f (inr (inr r)) other i word = absurd (other r.top)

-- an array above the lowest height names a line
joined_named : (s : Sole) (es : List Entry) → (L : LineValue) × (p : List ℕ) × (joined s es ≡ Named L p)
joined_named AllZero es = (Inner (inner es), [], refl)
joined_named (Alone q Zero) es = (Inner (inner es), [], refl)
joined_named (Alone q (Pack ns)) es = (Inner (inner es), [], refl)
joined_named (Alone q (Named L p)) es = (L, q ∷ p, refl)
joined_named Several es = (Inner (inner es), [], refl)

-- a packed array that was raised is not opened to a quarter: its entry names a line, which no quarter does
raised_not_one : {m : Lookup} {p r : Part} {q : ℕ} {A : Array} → PartFor 4 m p A → IsRaised p A → IsOne 4 m p q r A → ⊥
raised_not_one {m} {p} {r} {q} {A} f is o = elim (cases_eq q 0) [
  | inl first ↦
      let some = o.quarter.is_part.positive in
      let high = o.quarter.high in
      let top = o.top in
      let two = is.top in
      let at : r.at ≡ 1 = omega (arith, some, high, top, two) in
      let whole : part 4 A p.top q ≡ A = ap (part 4 A p.top) first ∙ same in
      let packed = subst (EntryFor 4 m r.entry) (ap (λ h. enc 4 h (part 4 A p.top q)) at ∙ ap (enc 4 1) whole ∙ is.packed) o.quarter.entry in
      let none = pack_name r.entry (pack_kind packed) in
      let named = node_name p.entry (node_kind line) in
      let names = o.names in
      cc
  | inr later ↦ absurd (o.some (sym same ∙ o.others 0 (omega arith) (λ e. later (sym e))))
]
  where
    below : IsBelow 4 A
    below = subst (λ h. IsBelow (4 ^ h) A) is.low (heights_are_least 4 A four_wide f.is_part.valid).room

    same : part 4 A p.top 0 ≡ A
    same = let two = is.top in first_quarter four_wide p.top 1 A (omega (arith, two)) below

    line : EntryFor 4 m p.entry (raised 4 (Pack is.numbers))
    line = subst (EntryFor 4 m p.entry) (ap (λ h. enc 4 h A) is.at ∙ entries_are_raised 4 1 A four_wide (record { positive = omega arith; low = omega arith; valid = f.is_part.valid; below = below }) ∙ ap (raised 4) is.packed) f.entry

pub one_rooted : {m : Lookup} {p r : Part} {q : ℕ} {A : Array} {x : Word} → PartFor 4 m p A → IsSettled p A → IsOne 4 m p q r A → x ≡ word_of RefNode p.top p.entry.bits → IsRooted m p x A
one_rooted f (inl none) o word = absurd (o.some none)
one_rooted {p = p} {A = A} f (inr (inl tall)) o word =
    let (L, path, made) = joined_named (sole (part_entries 4 p.top A)) (part_entries 4 p.top A) in
    line_rooted L path f tall (enc_joined 4 p.top A (one_high o) o.some ∙ made) word
one_rooted f (inr (inr r)) o word = absurd (raised_not_one f r o)

-- the part is packed, or empty
pub words_rooted : {m : Lookup} {p : Part} {A : Array} {x : Word} (ns : List ℕ) → PartFor 4 m p A → p.top ≡ 1 → enc 4 1 A ≡ Pack ns → x ≡ word_of RefPack 1 p.entry.bits → IsRooted m p x A
words_rooted {m} {p} {A} ns f one packed word =
    let some = f.is_part.positive in
    let high = f.high in
    let at : p.at ≡ 1 = omega (arith, some, high, one) in
    let entry : EntryFor 4 m p.entry (Pack ns) = subst (EntryFor 4 m p.entry) (ap (λ h. enc 4 h A) at ∙ packed) f.entry in
    let low = lowest_height (subst (λ h. IsPart 4 h A) at f.is_part) (some_entry 4 1 A (Pack ns) packed (λ z. cc)) in
    record {
      root = packed_root ns f.is_part.valid low packed (word ∙ ap (word_of RefPack 1) (pack_digits entry));
      names = ap named_id word ∙ sym (pack_name p.entry (pack_kind entry));
    }

pub zero_names : {m : Lookup} {p : Part} {A : Array} {x : Word} → PartFor 4 m p A → A ≡ [] → x ≡ word_of RefPack 0 0 → named_id x ≡ named_id p.entry
zero_names {m} {p} f none word = ap named_id word ∙ sym (ap named_id (zero_none (subst (EntryFor 4 m p.entry) (ap (enc 4 p.at) none ∙ enc-empty 4 p.at) f.entry)))

-- after the line of a packed array is given up, the memory is the one that held the other words
pub given_up : (before m new : Memory) (x : Word) (held : List Word) → Grew before m (x ∷ []) held → HasKeys new → new.layout ≡ m.layout → Holds 4 new held → IsWithin (line_at new) (line_at m) → before ≡ new
given_up before m new x held grew keys same now within = holds_tell_memories 4 before new held (line_at m) four_wide grew.keys keys (grew.layout ∙ sym same) grew.held_before now grew.lines within

-- an array whose part has a line is not empty
pub line_some : {m : Lookup} {p : Part} {id : ℕ} {A : Array} → PartFor 4 m p A → IsLine 4 m p id A → 1 ≤ height 4 A
line_some {p = p} {A = A} f i = (heights_are_least 4 A four_wide f.is_part.valid).positive (some_entry 4 p.top A (Named i.value []) i.made (λ z. cc))

-- an array of its own height, above the lowest
pub tall_rooted : {m : Lookup} {h : ℕ} {x y : Word} {A : Array} → PartFor 4 m (whole_part h x) A → height 4 A ≡ h → 2 ≤ h → y ≡ word_of RefNode h x.bits → IsRooted m (whole_part h x) y A
tall_rooted {h = h} {A = A} f tall high word =
    let some : A ≢ [] = λ none. (let zero = (heights_are_least 4 A four_wide f.is_part.valid).empty none in omega (arith, zero, tall, high)) in
    let (L, path, made) = joined_named (sole (part_entries 4 h A)) (part_entries 4 h A) in
    line_rooted L path f tall (enc_joined 4 h A high some ∙ made) word

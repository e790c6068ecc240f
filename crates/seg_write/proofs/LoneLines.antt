-- What the line of an array of height 2 tells: whether only its first quarter is not empty, and packed.
use Rattle.std.proofs.Common.{◌≡◌, ◌≢◌, ℕ, zero, suc, ◌<◌, List, [], ◌∷◌, map, length, get_or, Option, Some, None, refl, sym, ◌∙◌, ap, subst, inl, inr, arith}
use Rattle.std.proofs.lemmas.Bool.{cases_eq}
use Rattle.hic_word.specs.Width.{four_wide}
use Rattle.hic_word.specs.declared.Kind.TheVariants.{Num}
use Rattle.hic_word.specs.declared.Kind.TheVariants as kinds
use Rattle.hic_word.specs.declared.Word.{Word}
use Rattle.hic_word.specs.Values.{Array}
use Rattle.hic_word.specs.Entries.{LineValue, Named, Pack, Zero}
use Rattle.hic_word.specs.Parts.{part}
use Rattle.hic_word.specs.Heights.{height}
use Rattle.hic_word.specs.Canon.{IsPart, enc}
use Rattle.hic_word.specs.Stands.{EntryFor, LineFor, Lookup, PackEntry, ZeroEntry, pack_bits, word_of}
use Rattle.hic_word.proofs.callers.Bits.{bits_is, kind_is}
use Rattle.seg_canon.specs.declared.parts.Part.{Part}
use Rattle.seg_canon.specs.Opens.{IsLine}
use Rattle.seg_canon.specs.Parts.{PartFor, QuartersFor, whole_part}
use Rattle.seg_canon.proofs.Opening.{entry_packed, some_entry, zero_opened}
use Rattle.seg_write.proofs.Fours.{four}
use Rattle.seg_canon.proofs.Pieces.{first_quarter, other_quarters}
use Rattle.seg_canon.proofs.Quarters.{lines_are_stored, quarters_of_line}
use Rattle.seg_read.proofs.Entering.{part_top}
use Rattle.seg_write.specs.Settled.{LoneFor}
use Rattle.seg_write.proofs.Settling.{line_height, lower, lowest_height, only_first}

-- the entry of an empty part
abbrev pub IsNone : Word → Type 0
IsNone x = x ≡ word_of Num 0 0

-- the words of the line of a part of height 2 stand for its quarters
abbrev AreFour : Lookup → Array → Word → Word → Word → Word → Type 0
AreFour m A a b c d = QuartersFor 4 m 2 A 0 (map (whole_part 1) (a ∷ b ∷ c ∷ d ∷ []))

line_quarters : (m : Lookup) (A : Array) (L : LineValue) (xs : List Word) (d : Word) → IsPart 4 2 A → enc 4 2 A ≡ Named L [] → LineFor 4 m xs L → length xs ≡ 4 → AreFour m A (get_or xs 0 d) (get_or xs 1 d) (get_or xs 2 d) (get_or xs 3 d)
line_quarters m A L xs d a made f long = subst (λ ys. QuartersFor 4 m 2 A 0 (map (whole_part 1) ys)) (sym (four xs d long)) (quarters_of_line four_wide m 2 A L xs (omega arith) a made f)

-- what an entry tells of its word, and an empty part of its entry
pub pack_kind : {m : Lookup} {x : Word} {ns : List ℕ} → EntryFor 4 m x (Pack ns) → x.kind ≡ kinds.Pack
pack_kind (PackEntry e) = kind_is e

pub pack_digits : {m : Lookup} {x : Word} {ns : List ℕ} → EntryFor 4 m x (Pack ns) → x.bits ≡ pack_bits 4 ns
pack_digits (PackEntry e) = bits_is e

pub zero_none : {m : Lookup} {x : Word} → EntryFor 4 m x Zero → IsNone x
zero_none (ZeroEntry e) = e

none_empty : {m : Lookup} {x : Word} {A : Array} → PartFor 4 m (whole_part 1 x) A → IsNone x → A ≡ []
none_empty f z = zero_opened f (λ k. let a = kind_is z in cc) (λ k. let a = kind_is z in cc)

empty_none : {m : Lookup} {x : Word} {A : Array} → PartFor 4 m (whole_part 1 x) A → A ≡ [] → IsNone x
empty_none {m} {x} f none = zero_none (subst (λ B. EntryFor 4 m x (enc 4 1 B)) none f.entry)

-- a packed entry and three that are empty are those of an array of height 1
first_packed : {m : Lookup} {A : Array} {a b c d : Word} → IsPart 4 2 A → AreFour m A a b c d → a.kind ≡ kinds.Pack → IsNone b → IsNone c → IsNone d → LoneFor (Some a) A
first_packed {m} {A} {a} is_part (first, (second, (third, (fourth, end)))) packed y z w =
    let whole : part 4 A 2 0 ≡ A = only_first 2 A is_part others in
    let (ns, is, bits) = entry_packed first.entry packed in
    let made : enc 4 1 A ≡ Pack ns = sym (ap (enc 4 1) whole) ∙ is in
    (lowest_height (subst (IsPart 4 1) whole first.is_part) (some_entry 4 1 A (Pack ns) made (λ e. cc)), ns, made, bits)
  where
    others : (i : ℕ) → i < 4 → i ≢ 0 → part 4 A 2 i ≡ []
    others zero low n = absurd (n refl)
    others (suc zero) low n = none_empty second y
    others (suc (suc zero)) low n = none_empty third z
    others (suc (suc (suc zero))) low n = none_empty fourth w
    others (suc (suc (suc (suc i)))) low n = absurd (omega arith)

-- and only they are
none_packed : {m : Lookup} {A : Array} {a b c d : Word} (L : LineValue) → IsPart 4 2 A → enc 4 2 A ≡ Named L [] → AreFour m A a b c d → (a.kind ≡ kinds.Pack → IsNone b → IsNone c → IsNone d → ⊥) → LoneFor None A
none_packed {m} {A} {a} L is_part made (first, (second, (third, (fourth, end)))) not_lone = elim (cases_eq (height 4 A) 2) [
  | inl same ↦ same
  | inr other ↦
      let (two, ns, packed) = line_height L is_part made other in
      let below = lower is_part other in
      let whole : enc 4 1 (part 4 A 2 0) ≡ Pack ns = ap (enc 4 1) (first_quarter four_wide 2 1 A (omega arith) below) ∙ packed in
      let rest = other_quarters four_wide 2 1 A (omega arith) below in
      absurd (not_lone (pack_kind (subst (EntryFor 4 m a) whole first.entry)) (empty_none second (rest 1 (omega arith))) (empty_none third (rest 2 (omega arith))) (empty_none fourth (rest 3 (omega arith))))
]

-- the same of the words of a line
abbrev pub nth : List Word → ℕ → Word
nth xs i = get_or xs i (word_of Num 0 0)

pub lone_line : (m : Lookup) (A : Array) (L : LineValue) (xs : List Word) → IsPart 4 2 A → enc 4 2 A ≡ Named L [] → LineFor 4 m xs L → length xs ≡ 4
    → (nth xs 0).kind ≡ kinds.Pack → IsNone (nth xs 1) → IsNone (nth xs 2) → IsNone (nth xs 3) → LoneFor (Some (nth xs 0)) A
lone_line m A L xs a made f long = first_packed a (line_quarters m A L xs _ a made f long)

pub other_line : (m : Lookup) (A : Array) (L : LineValue) (xs : List Word) → IsPart 4 2 A → enc 4 2 A ≡ Named L [] → LineFor 4 m xs L → length xs ≡ 4
    → ((nth xs 0).kind ≡ kinds.Pack → IsNone (nth xs 1) → IsNone (nth xs 2) → IsNone (nth xs 3) → ⊥) → LoneFor None A
other_line m A L xs a made f long not_lone = none_packed L a made (line_quarters m A L xs _ a made f long) not_lone

-- what the line of a part of height 2 tells
pub line_lone : {m : Lookup} {p : Part} {id : ℕ} {A : Array} (o : Option Word) (line : List Word) → p.top ≡ 2 → m id ≡ Some line
    → ((k : Lookup) (B : Array) (L : LineValue) → IsPart 4 2 B → enc 4 2 B ≡ Named L [] → LineFor 4 k line L → LoneFor o B) → PartFor 4 m p A → IsLine 4 m p id A → LoneFor o A
line_lone {m} {p} {id} {A} o line two stored lone f i =
    lone m A i.value (subst (λ h. IsPart 4 h A) two (part_top f)) (sym (ap (λ h. enc 4 h A) two) ∙ i.made) (lines_are_stored 4 m id i.value line i.line stored)

-- A part without the levels above it that have only their first quarter.
use Rattle.std.proofs.Common.{◌≡◌, ◌≢◌, ℕ, suc, ◌+◌, ◌-◌, ◌*◌, ◌^◌, ◌<◌, ◌≤◌, List, [], ◌∷◌, ◌++◌, refl, sym, ◌∙◌, ap, subst, inl, inr, arith}
use Rattle.std.proofs.Math.Nat.{pow-le-pow_right, pow-succ'}
use Rattle.std.proofs.lemmas.Bool.{cases_eq}
use Rattle.hic_word.specs.Width.{four_wide}
use Rattle.hic_word.specs.Values.{Array, IsBelow}
use Rattle.hic_word.specs.Entries.{Entry, LineValue, Named, Pack, Zero}
use Rattle.hic_word.specs.Parts.{part}
use Rattle.hic_word.specs.Heights.{height}
use Rattle.hic_word.specs.Canon.{IsPart, enc}
use Rattle.hic_word.specs.FormLaws.{raised}
use Rattle.hic_word.specs.Stands.{Lookup}
use Rattle.hic_word.proofs.callers.Forms.{part_plain, heights_are_least, entries_are_raised}
use Rattle.hic_word.proofs.callers.Slices.{IsBelow-more, glue, glue-slices, raise, slices_are_parts}
use Rattle.seg_canon.specs.declared.parts.Part.{Part}
use Rattle.seg_canon.specs.declared.opened.Opened.{Opened}
use Rattle.seg_canon.specs.declared.opened.Opened.TheVariants.{One, Stored, Words}
use Rattle.seg_canon.specs.declared.opened.Opened.TheVariants as opened
use Rattle.seg_canon.specs.Parts.{PartFor}
use Rattle.seg_canon.specs.Opens.{IsLine, IsOne, OpenedFor}
use Rattle.seg_canon.proofs.Opening.{some_entry}
use Rattle.seg_canon.proofs.Pieces.{first_quarter, pack_height}
use Rattle.seg_read.proofs.Entering.{part_top}
use Rattle.seg_write.specs.Settled.{IsSettled}

-- an array of which each quarter but the first is empty is its first quarter
raise_none : (A : Array) → raise 0 A ++ [] ≡ A
raise_none [] = refl
raise_none (p ∷ A) = let same : 0 + p.0 ≡ p.0 = omega arith in rw (same, raise_none A) refl

pub only_first : (h : ℕ) (A : Array) → IsPart 4 h A → ((i : ℕ) → i < 4 → i ≢ 0 → part 4 A h i ≡ []) → part 4 A h 0 ≡ A
only_first h A a others =
    let s = 4 ^ (h - 1) in
    let some = a.positive in
    let up : suc (h - 1) ≡ h = omega (arith, some) in
    let whole : 4 ^ h ≡ 0 + 4 * s = ap (λ n. 4 ^ n) (sym up) ∙ pow-succ' 4 (h - 1) ∙ (let same : 4 * s ≡ 0 + 4 * s = omega arith in same) in
    let quarters = ap (glue 0 s) (slices_are_parts 4 h A) in
    let joined = glue-slices 4 0 s A (part_plain a).rises (subst (λ n. IsBelow n A) whole a.below) in
    let one = others 1 (omega arith) (omega arith) in
    let two = others 2 (omega arith) (omega arith) in
    let three = others 3 (omega arith) (omega arith) in
    let rest : glue 0 s (part 4 A h 0 ∷ part 4 A h 1 ∷ part 4 A h 2 ∷ part 4 A h 3 ∷ []) ≡ part 4 A h 0 = rw (one, two, three) (raise_none (part 4 A h 0)) in
    sym rest ∙ sym quarters ∙ joined

-- a part that is not below a lesser one has the height of its array
pub lower : {h : ℕ} {A : Array} → IsPart 4 h A → height 4 A ≢ h → IsBelow (4 ^ (h - 1)) A
lower {h} {A} a other =
    let own = heights_are_least 4 A four_wide a.valid in
    let least = own.least h a.positive a.below in
    IsBelow-more (4 ^ height 4 A) (4 ^ (h - 1)) A (pow-le-pow_right (omega arith) (omega (arith, least, other))) own.room

lower_part : {h : ℕ} {A : Array} → IsPart 4 h A → 2 ≤ h → height 4 A ≢ h → IsPart 4 (h - 1) A
lower_part {h} {A} a high other = let low = a.low in record { positive = omega (arith, high); low = omega (arith, low); valid = a.valid; below = lower a other }

pub lowest_height : {A : Array} → IsPart 4 1 A → A ≢ [] → height 4 A ≡ 1
lowest_height {A} a some =
    let own = heights_are_least 4 A four_wide a.valid in
    let least = own.least 1 a.positive a.below in
    let most = own.positive some in
    omega (arith, least, most)

later_height : {m : Lookup} {p r : Part} {q : ℕ} {A : Array} → PartFor 4 m p A → IsOne 4 m p q r A → q ≢ 0 → height 4 A ≡ p.top
later_height {m} {p} {r} {q} {A} f o later = elim (cases_eq (height 4 A) p.top) [
  | inl same ↦ same
  | inr other ↦
      let below = lower (part_top f) other in
      let first = first_quarter four_wide p.top (p.top - 1) A (omega arith) below in
      absurd (o.some (sym first ∙ o.others 0 (omega arith) (λ e. later (sym e))))
]

-- an array of a lesser height has a line of its own as a part only where it is packed
raised_line : (e : Entry) (L : LineValue) → raised 4 e ≡ Named L [] → (ns : List ℕ) × (e ≡ Pack ns)
raised_line Zero L is = cc
raised_line (Pack ns) L is = (ns, refl)
raised_line (Named K p) L is = cc

below_line : {h : ℕ} {A : Array} (L : LineValue) → IsPart 4 h A → enc 4 (suc h) A ≡ Named L [] → (h ≡ 1) × (ns : List ℕ) × (enc 4 1 A ≡ Pack ns)
below_line {h} {A} L a made =
    let (ns, packed) = raised_line (enc 4 h A) L (sym (entries_are_raised 4 h A four_wide a) ∙ made) in
    let one = pack_height 4 h A ns packed in
    (one, ns, sym (ap (λ n. enc 4 n A) one) ∙ packed)

pub line_height : {h : ℕ} {A : Array} (L : LineValue) → IsPart 4 h A → enc 4 h A ≡ Named L [] → (height 4 A ≢ h) → (h ≡ 2) × (ns : List ℕ) × (enc 4 1 A ≡ Pack ns)
line_height {h} {A} L a made other =
    let own = heights_are_least 4 A four_wide a.valid in
    let least = own.least h a.positive a.below in
    let most = own.positive (some_entry 4 h A (Named L []) made (λ z. cc)) in
    let high : 2 ≤ h = omega (arith, most, least, other) in
    let up : suc (h - 1) ≡ h = omega (arith, high) in
    let (one, ns, packed) = below_line L (lower_part a high other) (ap (λ n. enc 4 n A) up ∙ made) in
    (omega (arith, up, one), ns, packed)

line_settled : {m : Lookup} {p : Part} {id : ℕ} {A : Array} → PartFor 4 m p A → IsLine 4 m p id A → IsSettled p A
line_settled {m} {p} {id} {A} f i = elim (cases_eq (height 4 A) p.top) [
  | inl same ↦ inr (inl same)
  | inr other ↦
      let (two, ns, packed) = line_height i.value (part_top f) i.made other in
      let below = subst (λ h. IsPart 4 (h - 1) A) two (lower_part (part_top f) (omega arith) other) in
      inr (inr (record { top = two; at = i.at ∙ two; low = lowest_height below (some_entry 4 1 A (Pack ns) packed (λ z. cc)); numbers = ns; packed = packed }))
]

-- a part is settled unless it was opened to its first quarter
pub later_settled : {m : Lookup} {p r : Part} {q : ℕ} {A : Array} → PartFor 4 m p A → IsOne 4 m p q r A → q ≢ 0 → IsSettled p A
later_settled f o later = inr (inl (later_height f o later))

pub opened_settled : {m : Lookup} {p : Part} {A : Array} (o : Opened 4) → PartFor 4 m p A → OpenedFor 4 m p o A → ((q : ℕ) (r : Part) → o ≡ One q r → ⊥) → IsSettled p A
opened_settled opened.Zero f is not_one = inl is
opened_settled {p = p} {A = A} (Words words) f (one, ns, packed, stand) not_one =
    inr (inl (lowest_height (subst (λ h. IsPart 4 h A) one (part_top f)) (some_entry 4 1 A (Pack ns) packed (λ z. cc)) ∙ sym one))
opened_settled (One q r) f o not_one = absurd (not_one q r refl)
opened_settled (Stored id) f i not_one = line_settled f i

-- the first quarter, if the others are empty
pub first_part : {m : Lookup} {p r : Part} {q : ℕ} {A : Array} → PartFor 4 m p A → IsOne 4 m p q r A → q ≡ 0 → PartFor 4 m r A
first_part {m} {p} {r} {q} {A} f o first =
    let this : PartFor 4 m r (part 4 A p.top 0) = subst (λ i. PartFor 4 m r (part 4 A p.top i)) first o.quarter in
    subst (PartFor 4 m r) (only_first p.top A (part_top f) (λ i low n. o.others i low (λ e. n (e ∙ first)))) this

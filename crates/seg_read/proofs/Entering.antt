-- What is inside a part, and the levels of lines below it.
use Rattle.std.proofs.Common.{◌≡◌, ◌≢◌, ℕ, ◌+◌, ◌-◌, ◌^◌, ◌<◌, ◌≤◌, List, [], ◌∷◌, map, length, Some, refl, sym, ◌∙◌, ap, subst, arith}
use Rattle.hic_word.specs.declared.Kind.TheVariants as kinds
use Rattle.hic_word.specs.declared.Word.{Word}
use Rattle.hic_word.specs.Values.{ArePairs, Array}
use Rattle.hic_word.specs.Parts.{part, values}
use Rattle.hic_word.specs.Canon.{IsPart, enc}
use Rattle.hic_word.specs.Stands.{EntryFor, Lookup, WordsFor, ZeroEntry, word_of}
use Rattle.hic_word.proofs.callers.Slices.{IsBelow-more}
use Rattle.std.proofs.Math.Nat.{pow-le-pow_right}
use Rattle.seg_canon.specs.declared.parts.Part.{Part}
use Rattle.seg_canon.specs.Parts.{PartFor, whole_part}
use Rattle.seg_canon.specs.Opens.{IsLine, IsOne}
use Rattle.seg_canon.proofs.Quarters.{leaves_have_values, lines_are_stored}
use Rattle.seg_canon.proofs.Pieces.{enc-empty}
use Rattle.seg_read.specs.Levels.{levels, levels_of}
use Rattle.seg_read.proofs.Levels.{quarter_low}

-- a part, taken at its whole height
pub part_top : {m : Lookup} {p : Part} {A : Array} → PartFor 4 m p A → IsPart 4 p.top A
part_top {p = p} {A = A} f =
    let a = f.is_part in
    let some = a.positive in
    let high = f.high in
    record { positive = omega (arith, some, high); low = f.low; valid = a.valid; below = IsBelow-more (4 ^ p.at) (4 ^ p.top) A (pow-le-pow_right (omega arith) high) a.below }

-- an empty quarter
pub empty_quarter : (m : Lookup) (h : ℕ) (x : Word) (A : Array) → 1 ≤ h → h ≤ 16 → x ≡ word_of kinds.Num 0 0 → A ≡ [] → PartFor 4 m (whole_part h x) A
unfolding ArePairs
empty_quarter m h x A some low is none = subst (PartFor 4 m (whole_part h x)) (sym none) (record {
  is_part = record { positive = some; low = low; valid = tt; below = tt };
  high = omega arith;
  low = low;
  entry = subst (EntryFor 4 m x) (sym (enc-empty 4 h)) (ZeroEntry is);
})

-- the quarters other than the only one that is not empty
pub other_quarter : {m : Lookup} {p : Part} {r : Part} {q : ℕ} {A : Array} (x : Word) (i : ℕ) → IsOne 4 m p q r A → x ≡ word_of kinds.Num 0 0 → i < 4 → i ≢ q → PartFor 4 m (whole_part r.top x) (part 4 A p.top i)
other_quarter {m} {p} {r} {q} {A} x i o is l n =
    let a = o.quarter.is_part in
    let some = a.positive in
    let high = o.quarter.high in
    empty_quarter m r.top x (part 4 A p.top i) (omega (arith, some, high)) o.quarter.low is (o.others i l n)

pub this_quarter : {m : Lookup} {p : Part} {r : Part} {q : ℕ} {A : Array} (i : ℕ) → IsOne 4 m p q r A → i ≡ q → PartFor 4 m r (part 4 A p.top i)
this_quarter {m} {p} {r} {q} {A} i o e = subst (λ j. PartFor 4 m r (part 4 A p.top j)) (sym e) o.quarter

pub one_high : {m : Lookup} {p : Part} {r : Part} {q : ℕ} {A : Array} → IsOne 4 m p q r A → 2 ≤ p.top
one_high o =
    let a = o.quarter.is_part in
    let some = a.positive in
    let high = o.quarter.high in
    let top = o.top in
    omega (arith, some, high, top)

-- a part whose line has to be read has the levels of the line, and each quarter fewer
pub line_levels : {m : Lookup} {p : Part} {id : ℕ} {A : Array} (i : IsLine 4 m p id A) → levels (enc 4 p.at A) ≡ levels_of i.value
line_levels {p = p} {A = A} i = ap levels (ap (λ h. enc 4 h A) i.at ∙ i.made)

-- what a line that was read stands for
pub line_words : {m : Lookup} {p : Part} {id : ℕ} {A : Array} (line : List Word) → IsLine 4 m p id A → m id ≡ Some line → p.top ≡ 1 → WordsFor 4 m line (values 4 0 A)
line_words {m} {p} {id} {A} line i is one = leaves_have_values 4 m A i.value line (ap (λ h. enc 4 h A) (sym one) ∙ i.made) (lines_are_stored 4 m id i.value line i.line is)

-- Parts that are equal: told by their entries, and by having no difference.
use Rattle.std.proofs.Common.{◌≡◌, ◌↔◌, ℕ, ◌^◌, Bool, true, false, [], sym, ◌∙◌, subst, inl, inr, arith}
use Rattle.std.specs.Prelude.{IsTrue}
use Rattle.std.proofs.lemmas.Bool.{cases_lt}
use Rattle.hic_word.specs.Width.{four_wide}
use Rattle.hic_word.specs.Values.{Array}
use Rattle.hic_word.specs.Canon.{IsPart, enc}
use Rattle.hic_word.specs.Stands.{EntryFor, Lookup, Unique}
use Rattle.hic_word.proofs.callers.Forms.{at_high, values_tell_arrays}
use Rattle.hic_word.proofs.callers.Standing.{entries_tell_parts}
use Rattle.seg_canon.specs.declared.parts.Part.{Part}
use Rattle.seg_canon.specs.Parts.{PartFor}
use Rattle.seg_changes.specs.Differing.{differ_from}
use Rattle.seg_changes.proofs.Ranges.{differ_nowhere}

-- a test that fails
pub told_not : {P : Type 0} (b : Bool) → IsTrue b ↔ P → b ≡ false → P → ⊥
told_not true told e p = cc
told_not false told e p = let h = told.1 p in cc

-- one entry of one height is of one part
pub equal_parts : {m : Lookup} {p q : Part} {A B : Array} → Unique m → PartFor 4 m p A → PartFor 4 m q B → p.at ≡ q.at → p.entry ≡ q.entry → A ≡ B
equal_parts {m} {p} {q} {A} {B} u f g e d =
    let b : IsPart 4 p.at B = subst (λ h. IsPart 4 h B) (sym e) g.is_part in
    let entry : EntryFor 4 m q.entry (enc 4 p.at B) = subst (λ h. EntryFor 4 m q.entry (enc 4 h B)) (sym e) g.entry in
    (entries_tell_parts 4 p.at m p.entry q.entry A B four_wide u f.is_part b f.entry entry).0 d

-- and equal parts of one height have one entry
pub equal_entries : {m : Lookup} {p q : Part} {A B : Array} → Unique m → PartFor 4 m p A → PartFor 4 m q B → p.at ≡ q.at → A ≡ B → p.entry ≡ q.entry
equal_entries {m} {p} {q} {A} {B} u f g e d =
    let b : IsPart 4 p.at B = subst (λ h. IsPart 4 h B) (sym e) g.is_part in
    let entry : EntryFor 4 m q.entry (enc 4 p.at B) = subst (λ h. EntryFor 4 m q.entry (enc 4 h B)) (sym e) g.entry in
    (entries_tell_parts 4 p.at m p.entry q.entry A B four_wide u f.is_part b f.entry entry).1 d

-- parts without a difference are equal
pub no_difference : (h : ℕ) (A B : Array) → IsPart 4 h A → IsPart 4 h B → differ_from 0 (4 ^ h) A B ≡ [] → A ≡ B
no_difference h A B a b none = values_tell_arrays A B a.valid b.valid (λ i l. elim (cases_lt i (4 ^ h)) [
  | inl low ↦ differ_nowhere 0 (4 ^ h) A B none i (omega arith) (omega (arith, low))
  | inr high ↦ at_high (4 ^ h) i A a.below high ∙ sym (at_high (4 ^ h) i B b.below high)
])

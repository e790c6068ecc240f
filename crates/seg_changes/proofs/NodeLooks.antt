-- The looks that are taken in two parts.
use Rattle.std.proofs.Common.{◌≡◌, ◌≢◌, ℕ, suc, ◌+◌, ◌-◌, ◌*◌, ◌^◌, ◌<◌, ◌≤◌, Bool, true, false, ltb, List, [], ◌∷◌, length, refl, sym, ◌∙◌, ap, subst, inl, inr, arith}
use Rattle.std.proofs.Math.Nat.{pow-le-pow_right}
use Rattle.std.proofs.lemmas.Bool.{cases_eq, cases_order, lt-ltb}
use Rattle.std.proofs.lemmas.List.{nil_from_length}
use Rattle.hic_word.specs.Width.{four_wide}
use Rattle.hic_word.specs.declared.Kind.{Kind}
use Rattle.hic_word.specs.declared.Kind.TheVariants as kinds
use Rattle.hic_word.specs.Values.{Array}
use Rattle.hic_word.specs.Entries.{Entry, Named, Pack, Zero}
use Rattle.hic_word.specs.FormLaws.{raised}
use Rattle.hic_word.specs.Canon.{IsPart, enc}
use Rattle.hic_word.specs.Stands.{EntryFor, Lookup, PackEntry, Unique}
use Rattle.hic_word.proofs.callers.Slices.{IsBelow-more}
use Rattle.hic_word.proofs.callers.Forms.{entries_are_raised}
use Rattle.hic_word.proofs.callers.Bits.{kind_is}
use Rattle.seg_canon.specs.declared.parts.Part.{Part}
use Rattle.seg_canon.specs.Parts.{PartFor}
use Rattle.seg_canon.specs.Raises.{if_low, one_if_packed, raises}
use Rattle.seg_canon.proofs.Pieces.{pack_height}
use Rattle.seg_read.specs.Levels.{own_line}
use Rattle.seg_read.proofs.Entering.{part_top}
use Rattle.seg_changes.specs.Differing.{differ_from}
use Rattle.seg_changes.specs.ChangeList.{most_changes}
use Rattle.seg_changes.specs.DifferLooks.{DifferLooks, found_of}
use Rattle.seg_changes.specs.declared.within.Within.{Within}
use Rattle.seg_changes.specs.Withins.{LooksInside, raises_from}
use Rattle.seg_changes.proofs.QuarterParts.{HaveQuarters, quarters_free}
use Rattle.seg_changes.proofs.EqualParts.{equal_entries, no_difference}

raises_most : (p : Part) → raises p ≤ 1
raises_most p = go (ltb p.at p.top) p.entry.kind
  where
    go : (t : Bool) (k : Kind) → if_low t (one_if_packed k) ≤ 1
    go false k = omega arith
    go true kinds.Pack = omega arith
    go true kinds.Num = omega arith
    go true kinds.Node = omega arith
    go true kinds.RefNode = omega arith
    go true kinds.RefPack = omega arith

own_most : (e : Entry) → own_line e ≤ 1
own_most Zero = omega arith
own_most (Pack ns) = omega arith
own_most (Named L []) = omega arith
own_most (Named L (q ∷ p)) = omega arith

-- ---- the looks inside one part

-- a look, or a line that it would take to be raised
pub one_look : {p : Part} {A : Array} {old new : ℕ} → LooksInside p A old new → new + raises p ≤ old + 1
one_look {p} {A} {old} {new} e = elim (cases_eq (raises p) 0) [
  | inl none ↦ let here = e.whole none in let most = own_most (enc 4 p.top A) in omega (arith, none, here, most)
  | inr some ↦ let here = e.packed (omega (arith, some)) in let most = raises_most p in omega (arith, here, most)
]

no_line : {p : Part} {A : Array} {old new : ℕ} → LooksInside p A old new → own_line (enc 4 p.top A) ≡ 0 → new ≤ old
no_line {p} e own = elim (cases_eq (raises p) 0) [
  | inl none ↦ let here = e.whole none in omega (arith, here, own)
  | inr some ↦ e.packed (omega (arith, some))
]

-- ---- two equal parts that are taken at different heights

raised_line : (e : Entry) → 1 ≤ own_line (raised 4 e) → (ns : List ℕ) × (e ≡ Pack ns)
raised_line Zero some = absurd (omega arith)
raised_line (Pack ns) some = (ns, refl)
raised_line (Named L p) some = absurd (omega arith)

packed_kind : {m : Lookup} {x : _} {ns : List ℕ} → EntryFor 4 m x (Pack ns) → x.kind ≡ kinds.Pack
packed_kind (PackEntry is) = kind_is is

-- a part above its array has a line of its own only at height 2, above a packed quarter
lone_line : {m : Lookup} {p : Part} {A : Array} → PartFor 4 m p A → p.at < p.top → 1 ≤ own_line (enc 4 p.top A) → (p.top ≡ 2) × (raises p ≡ 1)
lone_line {m} {p} {A} f less some =
    let a = f.is_part in
    let least = a.positive in
    let low = f.low in
    let under : IsPart 4 (p.top - 1) A = record {
      positive = omega (arith, least, less);
      low = omega (arith, low);
      valid = a.valid;
      below = IsBelow-more (4 ^ p.at) (4 ^ (p.top - 1)) A (pow-le-pow_right (omega arith) (omega (arith, less))) a.below;
    } in
    let up : suc (p.top - 1) ≡ p.top = omega (arith, less) in
    let same : enc 4 p.top A ≡ raised 4 (enc 4 (p.top - 1) A) = ap (λ h. enc 4 h A) (sym up) ∙ entries_are_raised 4 (p.top - 1) A four_wide under in
    let (ns, is) = raised_line (enc 4 (p.top - 1) A) (subst (λ e. 1 ≤ own_line e) same some) in
    let lowest : p.top - 1 ≡ 1 = pack_height 4 (p.top - 1) A ns is in
    let here : p.at ≡ p.top - 1 = omega (arith, least, less, lowest) in
    let kind : p.entry.kind ≡ kinds.Pack = packed_kind (subst (EntryFor 4 m p.entry) (ap (λ h. enc 4 h A) here ∙ is) f.entry) in
    (omega (arith, less, lowest), ap (λ b. if_low b (one_if_packed p.entry.kind)) (lt-ltb p.at p.top less) ∙ ap one_if_packed kind)

-- the lower one is packed and costs nothing, and the other one costs its line
lower : {m : Lookup} {p q : Part} {A : Array} {before now done ps qs : ℕ} → PartFor 4 m p A → PartFor 4 m q A → p.top ≡ q.top → p.at < q.at → 1 ≤ own_line (enc 4 p.top A)
    → (1 ≤ raises p → now ≤ before) → done ≤ now + 1 → (p.top ≡ 2 → ps ≡ 0) → (p.top ≡ 2 → qs ≡ 0) → done + (ps + qs) ≤ before + (raises p + raises q)
lower {p = p} {q = q} f g top less own first second none also =
    let high = g.high in
    let (two, one) = lone_line f (omega (arith, high, less, top)) own in
    let free = first (omega (arith, one)) in
    let a = none two in
    let b = also two in
    omega (arith, one, free, second, a, b)

-- entering two equal parts that are taken at different heights takes no more looks than lines to raise them
pub equal_looks : {m : Lookup} {p q : Part} {A : Array} {before now done ps qs : ℕ} → PartFor 4 m p A → PartFor 4 m q A → p.top ≡ q.top → p.at ≢ q.at → LooksInside p A before now → LooksInside q A now done
    → ps ≤ raises p → qs ≤ raises q → (p.top ≡ 2 → ps ≡ 0) → (p.top ≡ 2 → qs ≡ 0) → done + (ps + qs) ≤ before + (raises p + raises q)
equal_looks {m} {p} {q} {A} {before} {now} {done} {ps} {qs} f g top other e d few also none too = elim (cases_eq (own_line (enc 4 p.top A)) 0) [
  | inl free ↦
      let first = no_line e free in
      let second = no_line d (ap (λ h. own_line (enc 4 h A)) (sym top) ∙ free) in
      omega (arith, first, second, few, also)
  | inr own ↦
      let some : 1 ≤ own_line (enc 4 p.top A) = omega (arith, own) in
      let high : 1 ≤ own_line (enc 4 q.top A) = subst (λ h. 1 ≤ own_line (enc 4 h A)) top some in
      let first = one_look e in
      let second = one_look d in
      elim (cases_order p.at q.at) [
        | inl same ↦ absurd (other same)
        | inr (inl less) ↦ lower f g top less some e.packed (omega (arith, second)) none too
        | inr (inr more) ↦
            let (two, one) = lone_line g (let up = f.high in omega (arith, up, more, top)) high in
            let free = d.packed (omega (arith, one)) in
            let a = none (omega (arith, top, two)) in
            let b = too (omega (arith, top, two)) in
            omega (arith, one, free, first, a, b)
      ]
]

-- ---- all looks of two parts

-- two parts of one height whose entries are not one, and the looks inside them
pub record Visited (m : Lookup) (p q : Part) (A B : Array) (before now done : ℕ) : Type 0 where
  pub unique : Unique m
  pub old : PartFor 4 m p A
  pub new : PartFor 4 m q B
  pub top : p.top ≡ q.top
  pub other : p.at ≡ q.at → p.entry ≢ q.entry
  pub first : LooksInside p A before now
  pub second : LooksInside q B now done

pub visited : {m : Lookup} {p q : Part} {A B : Array} {before now done : ℕ} → Unique m → PartFor 4 m p A → PartFor 4 m q B → p.top ≡ q.top → (p.at ≡ q.at → p.entry ≢ q.entry) → LooksInside p A before now → LooksInside q B now done → Visited m p q A B before now done
visited u f g top other e d = record { unique = u; old = f; new = g; top = top; other = other; first = e; second = d }

-- with n differences found in the quarters, which have r lines to be raised
pub node_looks : {m : Lookup} {p q : Part} {A B : Array} {before now done : ℕ} (n ps qs end : ℕ) → Visited m p q A B before now done → (n ≡ 0 → A ≡ B)
    → ps ≤ raises p → qs ≤ raises q → (p.top ≡ 2 → ps ≡ 0) → (p.top ≡ 2 → qs ≡ 0) → done ≤ end → end ≤ done + 2 * (p.top - 1) * n + (ps + qs) → DifferLooks p.top n (raises p + raises q) before end
node_looks {m} {p} {q} {A} {B} {before} {now} {done} n ps qs end v same few also none too more most =
    let up = v.first.more in
    let on = v.second.more in
    let some = v.old.is_part.positive in
    let high = v.old.high in
    record {
      more = omega (arith, up, on, more);
      equal = λ none_found.
          let e = sym (same none_found) in
          let g : PartFor 4 m q A = subst (PartFor 4 m q) e v.new in
          let d : LooksInside q A now done = subst (λ (C : Array). LooksInside q C now done) e v.second in
          let few_looks = equal_looks v.old g v.top (λ at. v.other at (equal_entries v.unique v.old v.new at (sym e))) v.first d few also none too in
          let nothing = ap (λ k. 2 * (p.top - 1) * k) none_found in
          omega (arith, few_looks, nothing, most);
      each = λ found.
          let first = one_look v.first in
          let second = one_look v.second in
          let level : p.top ≡ suc (p.top - 1) = omega (arith, some, high) in
          let whole = ap (λ k. 2 * k * n) level in
          omega (arith, first, second, few, also, found, most, whole);
    }

-- how many differences are found
pub found_all : (n pairs : ℕ) → pairs + n ≤ most_changes → found_of n pairs ≡ n
found_all n pairs few = omega (arith, few)

pub found_most : (n pairs : ℕ) → pairs ≤ most_changes → most_changes < pairs + n → found_of n pairs ≡ most_changes + 1 - pairs
found_most n pairs few wide = omega (arith, few, wide)

-- parts of which no difference is found are equal
pub found_nothing : {m : Lookup} {p q : Part} {A B : Array} → PartFor 4 m p A → PartFor 4 m q B → p.top ≡ q.top → (pairs : ℕ) → pairs ≤ most_changes → found_of (length (differ_from 0 (4 ^ p.top) A B)) pairs ≡ 0 → A ≡ B
found_nothing {m} {p} {q} {A} {B} f g top pairs few none =
    no_difference p.top A B (part_top f) (subst (λ h. IsPart 4 h B) (sym top) (part_top g)) (nil_from_length (differ_from 0 (4 ^ p.top) A B) (omega (arith, few, none)))

-- the looks of two lowest parts
pub lowest_looks : {m : Lookup} {p q : Part} {A B : Array} {before now done : ℕ} (pairs : ℕ) → Visited m p q A B before now done → pairs ≤ most_changes
    → DifferLooks p.top (found_of (length (differ_from 0 (4 ^ p.top) A B)) pairs) (raises p + raises q) before done
lowest_looks {p = p} {A = A} {B = B} {done = done} pairs v few =
    let found = found_of (length (differ_from 0 (4 ^ p.top) A B)) pairs in
    node_looks found 0 0 done v (found_nothing v.old v.new v.top pairs few) (omega arith) (omega arith) (λ two. refl) (λ two. refl) (omega arith) (omega arith)

-- the looks of two higher parts, n differences being found in their quarters
pub higher_looks : {m : Lookup} {p q : Part} {A B : Array} {s before now done : ℕ} {old new : Within} (n pairs end : ℕ) → Visited m p q A B before now done → pairs ≤ most_changes → HaveQuarters m p.top s A old → HaveQuarters m p.top s B new
    → raises_from old (p.top - 1) 0 4 ≤ raises p → raises_from new (q.top - 1) 0 4 ≤ raises q → n ≡ found_of (length (differ_from 0 (4 ^ p.top) A B)) pairs
    → done ≤ end → end ≤ done + 2 * (p.top - 1) * n + (raises_from old (p.top - 1) 0 4 + raises_from new (p.top - 1) 0 4) → DifferLooks p.top (found_of (length (differ_from 0 (4 ^ p.top) A B)) pairs) (raises p + raises q) before end
higher_looks {p = p} {q = q} {A = A} {B = B} {before = before} {old = old} {new = new} n pairs end v few w x first second all more most =
    let low : raises_from new (p.top - 1) 0 4 ≤ raises q = subst (λ h. raises_from new (h - 1) 0 4 ≤ raises q) (sym v.top) second in
    subst (λ k. DifferLooks p.top k (raises p + raises q) before end) all
    (node_looks n (raises_from old (p.top - 1) 0 4) (raises_from new (p.top - 1) 0 4) end v (λ none. found_nothing v.old v.new v.top pairs few (sym all ∙ none)) first low (quarters_free w) (quarters_free x) more most)

-- The looks of two roots.
use Rattle.std.proofs.Common.{◌≡◌, ◌≢◌, ℕ, ◌+◌, ◌*◌, ◌^◌, ◌≤◌, [], length, max, min, sym, ◌∙◌, ap, inl, inr, arith}
use Rattle.std.proofs.lemmas.Bool.{cases_eq}
use Rattle.hic_word.specs.Width.{four_wide}
use Rattle.hic_word.specs.declared.Word.{Word}
use Rattle.hic_word.specs.Values.{Array, IsArray, IsValue, Pairs, Ref, array, array-pairs, pairs}
use Rattle.hic_word.specs.Heights.{height}
use Rattle.hic_word.specs.Differences.{differ}
use Rattle.hic_word.specs.InMemory.{RootIn, WordIn}
use Rattle.hic_word.specs.Memory.{Memory, line_at}
use Rattle.hic_word.specs.Stands.{Unique}
use Rattle.hic_word.proofs.callers.Standing.{words_tell_values}
use Rattle.line_mem.specs.Looks.{LooksUpTo}
use Rattle.seg_canon.specs.declared.parts.Part.{Part}
use Rattle.seg_canon.specs.Parts.{PartFor}
use Rattle.seg_canon.specs.Raises.{raises}
use Rattle.seg_read.proofs.Raising.{raises_whole}
use Rattle.seg_read.proofs.Rooting.{empty_array, root_height, root_low, root_part}
use Rattle.seg_changes.specs.ChangeList.{most_changes}
use Rattle.seg_changes.specs.Differing.{differ_from}
use Rattle.seg_changes.specs.DifferLooks.{DifferLooks, found_of}
use Rattle.seg_changes.proofs.EqualParts.{equal_parts}
use Rattle.seg_changes.proofs.NodeLooks.{found_nothing}
use Rattle.seg_changes.proofs.Ranges.{differ_same}
use Rattle.seg_changes.proofs.WholeArrays.{parts_differ}

empty_height : (A : Array) → A ≡ [] → height 4 A ≡ 0
unfolding height
empty_height A e = ap (height 4) e

-- a root has the height of its array
whole_height : {m : Memory} {x : Word} {A : Array} → RootIn m x A → x.height ≡ height 4 A
whole_height {x = x} {A = A} r = elim (cases_eq x.height 0) [
  | inl none ↦ none ∙ sym (empty_height A (empty_array r none))
  | inr some ↦ root_height r (omega (arith, some))
]

-- among lines that differ, roots are one word exactly where their arrays are one
valid_ref : (A : Array) → IsArray A → IsValue (Ref (pairs A))
unfolding IsValue
valid_ref A a = a

ref_pairs : {H K : Pairs} → Ref H ≡ Ref K → H ≡ K
ref_pairs e = cc

pub equal_arrays : {m : Memory} {x y : Word} {A B : Array} → Unique (line_at m) → RootIn m x A → RootIn m y B → x ≡ y → A ≡ B
equal_arrays {m} {x} {y} {A} {B} u r s e =
    let same = (words_tell_values 4 (line_at m) x y (Ref (pairs A)) (Ref (pairs B)) four_wide u (valid_ref A r.valid) (valid_ref B s.valid) r.word s.word).0 e in
    sym (array-pairs A) ∙ ap array (ref_pairs same) ∙ array-pairs B

equal_roots : {m : Memory} {x y : Word} {A B : Array} → Unique (line_at m) → RootIn m x A → RootIn m y B → A ≡ B → x ≡ y
equal_roots {m} {x} {y} {A} {B} u r s e =
    (words_tell_values 4 (line_at m) x y (Ref (pairs A)) (Ref (pairs B)) four_wide u (valid_ref A r.valid) (valid_ref B s.valid) r.word s.word).1 (ap (λ C. Ref (pairs C)) e)

-- the height that both arrays are parts of
pub top_low : {m : Memory} {x y : Word} {A B : Array} (more top : ℕ) → RootIn m x A → RootIn m y B → more ≡ max x.height y.height → top ≡ max more 1 → top ≤ 16
top_low more top r s a b = let low = root_low r in let also = root_low s in omega (arith, low, also, a, b)

-- two roots as parts of one height
pub record AreRoots (m : Memory) (x y : Word) (p q : Part) (A B : Array) : Type 0 where
  pub before : RootIn m x A
  pub after : RootIn m y B
  pub old : PartFor 4 (line_at m) p A
  pub new : PartFor 4 (line_at m) q B
  pub top : p.top ≡ max (max x.height y.height) 1
  pub also : q.top ≡ max (max x.height y.height) 1
  pub at : p.at ≡ max 1 x.height
  pub at_too : q.at ≡ max 1 y.height

pub roots : {m : Memory} {x y : Word} {A B : Array} (p q : Part) (more top : ℕ) → RootIn m x A → RootIn m y B → more ≡ max x.height y.height → top ≡ max more 1
    → ((H : Pairs) → IsValue (Ref H) → WordIn m x (Ref H) → PartFor 4 (line_at m) p (array H)) → ((H : Pairs) → IsValue (Ref H) → WordIn m y (Ref H) → PartFor 4 (line_at m) q (array H))
    → p.top ≡ top → q.top ≡ top → p.at ≡ max 1 x.height → q.at ≡ max 1 y.height → AreRoots m x y p q A B
roots p q more top r s a b f g e d at also = record {
  before = r;
  after = s;
  old = root_part p f r;
  new = root_part q g s;
  top = e ∙ b ∙ ap (λ h. max h 1) a;
  also = d ∙ b ∙ ap (λ h. max h 1) a;
  at = at;
  at_too = also;
}

same_heights : {m : Memory} {x y : Word} {p q : Part} {A B : Array} → AreRoots m x y p q A B → A ≡ B → x.height ≡ y.height
same_heights w e = whole_height w.before ∙ ap (height 4) e ∙ sym (whole_height w.after)

pub other_entries : {m : Memory} {x y : Word} {p q : Part} {A B : Array} → Unique (line_at m) → AreRoots m x y p q A B → x ≢ y → p.at ≡ q.at → p.entry ≢ q.entry
other_entries u w other at entry = other (equal_roots u w.before w.after (equal_parts u w.old w.new at entry))

-- equal arrays are taken at their own height
no_raises : {m : Memory} {x y : Word} {p q : Part} {A B : Array} → AreRoots m x y p q A B → A ≡ B → raises p + raises q ≡ 0
no_raises {p = p} {q = q} w e =
    let same = same_heights w e in
    let top = w.top in
    let also = w.also in
    let at = w.at in
    let at_too = w.at_too in
    let first = raises_whole p (omega (arith, same, top, at)) in
    let second = raises_whole q (omega (arith, same, also, at_too)) in
    omega (arith, first, second)

-- two roots of height 0 are of the empty array
both_empty : {m : Memory} {x y : Word} {p q : Part} {A B : Array} → AreRoots m x y p q A B → max x.height y.height ≡ 0 → A ≡ B
both_empty {x = x} {y = y} w none = empty_array w.before (omega (arith, none)) ∙ sym (empty_array w.after (omega (arith, none)))

pub root_looks : {m : Memory} {x y : Word} {p q : Part} {A B : Array} {before after : ℕ} (pairs : ℕ) → pairs ≡ 0 → AreRoots m x y p q A B
    → DifferLooks p.top (found_of (length (differ_from 0 (4 ^ p.top) A B)) pairs) (raises p + raises q) before after → LooksUpTo (2 * max x.height y.height * min (length (differ A B)) (most_changes + 1)) before after
root_looks {m} {x} {y} {p} {q} {A} {B} {before} {after} pairs empty w looks =
    let found = found_of (length (differ_from 0 (4 ^ p.top) A B)) pairs in
    let top = w.top in
    let also = w.also in
    let level : p.top ≡ q.top = omega (arith, top, also) in
    let all = ap length (parts_differ w.old w.new level) in
    let same : found ≡ min (length (differ A B)) (most_changes + 1) = omega (arith, all, empty) in
    let whole = ap (λ n. 2 * max x.height y.height * n) same in (
      looks.more,
      elim (cases_eq found 0) [
        | inl none ↦
            let few = looks.equal none in
            let nothing = no_raises w (found_nothing w.old w.new level pairs (omega (arith, empty)) none) in
            omega (arith, few, nothing)
        | inr some ↦ elim (cases_eq (max x.height y.height) 0) [
          | inl low ↦
              let none = ap length (differ_same 0 (4 ^ p.top) A B (both_empty w low)) in
              absurd (some (omega (arith, none)))
          | inr high ↦
              let few = looks.each (omega (arith, some)) in
              let here : p.top ≡ max x.height y.height = omega (arith, top, high) in
              let tall = ap (λ h. 2 * h * found) here in
              omega (arith, few, tall, whole)
        ]
      ],
    )

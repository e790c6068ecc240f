-- The differences of two arrays, as those of one range of offsets.
use Rattle.std.proofs.Common.{◌≡◌, ℕ, zero, suc, ◌+◌, ◌^◌, ◌<◌, ◌≤◌, Bool, true, false, List, [], ◌∷◌, length, refl, sym, ◌∙◌, ap, subst, inl, inr, arith}
use Rattle.std.proofs.lemmas.Bool.{cases_eq, cases_lt, false_from_ne_true}
use Rattle.hic_word.specs.Lists.{In}
use Rattle.hic_word.specs.Values.{Array, IsArray, IsBelow, at}
use Rattle.hic_word.specs.Same.{same_value}
use Rattle.hic_word.specs.Differences.{Ascend, changes_at, differ, skip_if}
use Rattle.hic_word.proofs.callers.Forms.{differences_are_exact, at_high, value_refl, value_true}
use Rattle.hic_word.specs.declared.Word.{Word}
use Rattle.hic_word.specs.InMemory.{ChangesFor}
use Rattle.hic_word.specs.Stands.{Lookup}
use Rattle.seg_canon.specs.declared.parts.Part.{Part}
use Rattle.seg_canon.specs.Parts.{PartFor}
use Rattle.seg_read.proofs.Entering.{part_top}
use Rattle.seg_changes.specs.Differing.{Adds, differ_from, raised_at}
use Rattle.seg_changes.proofs.Adding.{adds_all, adds_length}
use Rattle.seg_changes.proofs.Ranges.{raised_length}

-- ---- ascending lists with the same members

ascend_low : (b i : ℕ) (xs : List ℕ) → Ascend b xs → In i xs → b ≤ i
ascend_low b i [] a h = absurd h
ascend_low b i (x ∷ xs) a (inl e) = let low = a.0 in omega (arith, low, e)
ascend_low b i (x ∷ xs) a (inr h) = let low = a.0 in let rest = ascend_low (suc x) i xs a.1 h in omega (arith, low, rest)

-- a member past the first is one of the rest
later : (i y : ℕ) (ys : List ℕ) → y < i → In i (y ∷ ys) → In i ys
later i y ys less (inl e) = absurd (omega (arith, less, e))
later i y ys less (inr h) = h

first_low : (c x y : ℕ) (ys : List ℕ) → Ascend c (y ∷ ys) → In x (y ∷ ys) → y ≤ x
first_low c x y ys a (inl e) = omega (arith, e)
first_low c x y ys a (inr h) = let rest = ascend_low (suc y) x ys a.1 h in omega (arith, rest)

same_members : (b c : ℕ) (xs ys : List ℕ) → Ascend b xs → Ascend c ys → ((i : ℕ) → In i xs → In i ys) → ((i : ℕ) → In i ys → In i xs) → xs ≡ ys
same_members b c [] [] a d to from = refl
same_members b c [] (y ∷ ys) a d to from = absurd (from y (inl refl))
same_members b c (x ∷ xs) [] a d to from = absurd (to x (inl refl))
same_members b c (x ∷ xs) (y ∷ ys) a d to from =
    let low = first_low c x y ys d (to x (inl refl)) in
    let high = first_low b y x xs a (from y (inl refl)) in
    let here : x ≡ y = omega (arith, low, high) in
    let rest = same_members (suc x) (suc y) xs ys a.1 d.1
    (λ i h. later i y ys (let past = ascend_low (suc x) i xs a.1 h in omega (arith, here, past)) (to i (inr h)))
    (λ i h. later i x xs (let past = ascend_low (suc y) i ys d.1 h in omega (arith, here, past)) (from i (inr h))) in
    λ t. here t ∷ rest t

-- ---- the differences of a range

ascend-weaken : (b c : ℕ) (os : List ℕ) → b ≤ c → Ascend c os → Ascend b os
ascend-weaken b c [] low a = tt
ascend-weaken b c (o ∷ os) low a = let from = a.0 in (omega (arith, low, from), a.1)

range_ascends : (i n : ℕ) (A B : Array) → Ascend i (differ_from i n A B)
range_ascends i zero A B = tt
range_ascends i (suc n) A B = go (same_value (at A i) (at B i)) (range_ascends (i + 1) n A B)
  where
    go : (t : Bool) → Ascend (i + 1) (differ_from (i + 1) n A B) → Ascend i (skip_if t i (differ_from (i + 1) n A B))
    go true a = ascend-weaken i (i + 1) (differ_from (i + 1) n A B) (omega arith) a
    go false a = (omega arith, ascend-weaken (suc i) (i + 1) (differ_from (i + 1) n A B) (omega arith) a)

range_sound : (i n j : ℕ) (A B : Array) → In j (differ_from i n A B) → same_value (at A j) (at B j) ≡ false
range_sound i zero j A B h = absurd h
range_sound i (suc n) j A B h = go (same_value (at A i) (at B i)) refl h (range_sound (i + 1) n j A B)
  where
    go : (t : Bool) → same_value (at A i) (at B i) ≡ t → In j (skip_if t i (differ_from (i + 1) n A B)) → (In j (differ_from (i + 1) n A B) → same_value (at A j) (at B j) ≡ false) → same_value (at A j) (at B j) ≡ false
    go true s h again = again h
    go false s (inl e) again = subst (λ k. same_value (at A k) (at B k) ≡ false) e s
    go false s (inr h) again = again h

range_whole : (i n j : ℕ) (A B : Array) → i ≤ j → j < i + n → same_value (at A j) (at B j) ≡ false → In j (differ_from i n A B)
range_whole i zero j A B from less s = absurd (omega (arith, from, less))
range_whole i (suc n) j A B from less s = go (same_value (at A i) (at B i)) refl (λ other. range_whole (i + 1) n j A B (omega (arith, from, other)) (omega (arith, less)) s)
  where
    go : (t : Bool) → same_value (at A i) (at B i) ≡ t → ((i ≡ j → ⊥) → In j (differ_from (i + 1) n A B)) → In j (skip_if t i (differ_from (i + 1) n A B))
    go true e again = again (λ here. let d : same_value (at A i) (at B i) ≡ false = subst (λ k. same_value (at A k) (at B k) ≡ false) (sym here) s in cc)
    go false e again = elim (cases_eq i j) [
      | inl here ↦ inl here
      | inr other ↦ inr (again other)
    ]

other_value : (A B : Array) (i : ℕ) → (at A i ≡ at B i → ⊥) → same_value (at A i) (at B i) ≡ false
other_value A B i n = false_from_ne_true (same_value (at A i) (at B i)) (λ t. n (value_true (at A i) (at B i) t))

not_same : (A B : Array) (i : ℕ) → same_value (at A i) (at B i) ≡ false → at A i ≡ at B i → ⊥
not_same A B i s e = let t : same_value (at A i) (at B i) ≡ true = subst (λ v. same_value (at A i) v ≡ true) e (value_refl (at A i)) in cc

-- the offsets of a part that covers both arrays have all their differences
pub all_differ : (n : ℕ) (A B : Array) → IsArray A → IsArray B → IsBelow n A → IsBelow n B → differ_from 0 n A B ≡ differ A B
all_differ n A B a b low also =
    let d = differences_are_exact A B a b in
    same_members 0 0 (differ_from 0 n A B) (differ A B) (range_ascends 0 n A B) d.ascend
    (λ i h. (d.exact i).1 (not_same A B i (range_sound 0 n i A B h)))
    (λ i h. let other = (d.exact i).0 h in elim (cases_lt i n) [
      | inl less ↦ range_whole 0 n i A B (omega arith) (omega (arith, less)) (other_value A B i other)
      | inr past ↦ absurd (other (at_high n i A low past ∙ sym (at_high n i B also past)))
    ])

-- equal arrays differ nowhere
pub differ_nothing : (A B : Array) → IsArray A → IsArray B → A ≡ B → differ A B ≡ []
differ_nothing A B a b e = go (differ A B) (λ i. ((differences_are_exact A B a b).exact i).0)
  where
    go : (os : List ℕ) → ((i : ℕ) → In i os → at A i ≡ at B i → ⊥) → os ≡ []
    go [] other = refl
    go (o ∷ os) other = absurd (other o (inl refl) (ap (λ (C : Array). at C o) e))

-- two arrays as parts of one height
pub parts_differ : {m : Lookup} {p q : Part} {A B : Array} → PartFor 4 m p A → PartFor 4 m q B → p.top ≡ q.top → differ_from 0 (4 ^ p.top) A B ≡ differ A B
parts_differ {m} {p} {q} {A} {B} f g e =
    all_differ (4 ^ p.top) A B f.is_part.valid g.is_part.valid (part_top f).below (subst (λ h. IsBelow (4 ^ h) B) (sym e) (part_top g).below)

-- raised by nothing
raised_none : (B : Array) (os : List ℕ) → raised_at 0 B os ≡ changes_at B os
raised_none B [] = refl
raised_none B (o ∷ os) = let same : 0 + o ≡ o = omega arith in λ t. (same t, at B o) ∷ raised_none B os t

pub whole_changes : {m : Lookup} (B : Array) {old new : List (ℕ × Word)} {os ds : List ℕ} → old ≡ [] → os ≡ ds → Adds m old new (raised_at 0 B os) → ChangesFor 4 m new (changes_at B ds)
whole_changes {m} B {old} {new} {os} {ds} none same a =
    subst (ChangesFor 4 m new) (raised_none B os ∙ ap (changes_at B) same) (adds_all (subst (λ xs. Adds m xs new (raised_at 0 B os)) none a))

pub whole_length : {m : Lookup} (B : Array) {old new : List (ℕ × Word)} {os ds : List ℕ} → old ≡ [] → os ≡ ds → Adds m old new (raised_at 0 B os) → length new ≡ length ds
whole_length {m} B {old} {new} {os} {ds} none same a =
    let all = adds_length a in
    let start = ap length none in
    let as_many = raised_length 0 B os in
    let each = ap length same in
    omega (arith, all, start, as_many, each)

-- no pair for equal arrays
pub no_changes : (m : Lookup) (A B : Array) (new : List (ℕ × Word)) → new ≡ [] → differ A B ≡ [] → ChangesFor 4 m new (changes_at B (differ A B))
no_changes m A B new empty none = subst (λ cs. ChangesFor 4 m cs (changes_at B (differ A B))) (sym empty) (subst (λ os. ChangesFor 4 m [] (changes_at B os)) (sym none) tt)

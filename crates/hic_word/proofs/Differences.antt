-- Where two arrays differ.
use Rattle.std.proofs.Common.{◌≡◌, ℕ, suc, ◌^◌, ◌<◌, ◌≤◌, Bool, true, false, cond, eqb, ltb, List, [], ◌∷◌, refl, sym, ◌∙◌, ap, subst, inl, inr, ◌⊎◌, arith}
use Rattle.std.proofs.lemmas.Bool.{cases_eq, cases_order, lt-ltb, le-ltb, eq-eqb, ne_eqb, eqb-true, cases_Bool, false_from_ne_true}
use Rattle.hic_word.specs.Lists.{In}
use Rattle.hic_word.specs.Values.{Array, IsBelow, Number, Value, at}
use Rattle.hic_word.specs.Same.{same_value}
use Rattle.hic_word.specs.Changes.{AreChanges, value_after, with}
use Rattle.hic_word.specs.Differences.{Ascend, differ, differ_at, insert, offsets, placed_at, skip_if, changes_at}
use Rattle.hic_word.specs.ChangeLaws.{DifferencesAreExact}
use Rattle.hic_word.proofs.Changes.{changes_are_made, same_array}
use Rattle.hic_word.proofs.Extensional.{at_rest}
use Rattle.hic_word.specs.Values.{HasValues}
use Rattle.hic_word.proofs.Fits.{sorted_array, value_at, values_of_array}
use Rattle.hic_word.proofs.Same.{value_refl, value_true}

insert_new : (x : ℕ) (ys : List ℕ) → In x (insert x ys)
insert_new x [] = inl refl
insert_new x (y ∷ ys) = go (ltb x y) (eqb x y) refl (insert_new x ys)
  where
    go : (s t : Bool) → eqb x y ≡ t → In x (insert x ys) → In x (placed_at s t x y ys (insert x ys))
    go true t e h = inl refl
    go false true e h = inl (sym (eqb-true x y e))
    go false false e h = inr h

insert_old : (i x : ℕ) (ys : List ℕ) → In i ys → In i (insert x ys)
insert_old i x [] h = absurd h
insert_old i x (y ∷ ys) h = go (ltb x y) (eqb x y) h (insert_old i x ys)
  where
    go : (s t : Bool) → In i (y ∷ ys) → (In i ys → In i (insert x ys)) → In i (placed_at s t x y ys (insert x ys))
    go true t h again = inr h
    go false true h again = h
    go false false (inl e) again = inl e
    go false false (inr k) again = inr (again k)

Ascend-insert : (b x : ℕ) (ys : List ℕ) → b ≤ x → Ascend b ys → Ascend b (insert x ys)
Ascend-insert b x [] low h = (low, tt)
Ascend-insert b x (y ∷ ys) low h = elim (cases_order x y) [
  | inl e ↦
      subst (λ t. Ascend b (placed_at t (eqb x y) x y ys (insert x ys))) (sym (le-ltb x y (omega arith)))
      (subst (λ t. Ascend b (placed_at false t x y ys (insert x ys))) (sym (eq-eqb x y e)) h)
  | inr (inl less) ↦ subst (λ t. Ascend b (placed_at t (eqb x y) x y ys (insert x ys))) (sym (lt-ltb x y less)) (low, (less, h.1))
  | inr (inr more) ↦
      subst (λ t. Ascend b (placed_at t (eqb x y) x y ys (insert x ys))) (sym (le-ltb x y (omega arith)))
      (subst (λ t. Ascend b (placed_at false t x y ys (insert x ys))) (sym (ne_eqb x y (λ e. omega arith))) (h.0, Ascend-insert (suc y) x ys more h.1))
]

-- each offset is below n
abbrev pub AreLow : ℕ → List ℕ → Type 0
AreLow n [] = Unit {0}
AreLow n (o ∷ os) = (o < n) × AreLow n os

AreLow-insert : (n x : ℕ) (ys : List ℕ) → x < n → AreLow n ys → AreLow n (insert x ys)
AreLow-insert n x [] low h = (low, tt)
AreLow-insert n x (y ∷ ys) low h = go (ltb x y) (eqb x y) (AreLow-insert n x ys low h.1)
  where
    go : (s t : Bool) → AreLow n (insert x ys) → AreLow n (placed_at s t x y ys (insert x ys))
    go true t rest = (low, h)
    go false true rest = h
    go false false rest = (h.0, rest)

Ascend-offsets : (A : Array) (os : List ℕ) → Ascend 0 os → Ascend 0 (offsets A os)
Ascend-offsets [] os h = h
Ascend-offsets (p ∷ A) os h = Ascend-insert 0 p.0 (offsets A os) (omega arith) (Ascend-offsets A os h)

AreLow-offsets : (n : ℕ) (A : Array) (os : List ℕ) → IsBelow n A → AreLow n os → AreLow n (offsets A os)
AreLow-offsets n [] os a h = h
AreLow-offsets n (p ∷ A) os a h = AreLow-insert n p.0 (offsets A os) a.0 (AreLow-offsets n A os a.1 h)

offsets_old : (i : ℕ) (A : Array) (os : List ℕ) → In i os → In i (offsets A os)
offsets_old i [] os h = h
offsets_old i (p ∷ A) os h = insert_old i p.0 (offsets A os) (offsets_old i A os h)

-- an offset is there, or the array has 0 at it
offset_or : (i : ℕ) (A : Array) (os : List ℕ) → In i (offsets A os) ⊎ (at A i ≡ Number 0)
offset_or i [] os = inr refl
offset_or i (p ∷ A) os = elim (cases_eq p.0 i) [
  | inl e ↦ inl (subst (λ j. In j (insert p.0 (offsets A os))) e (insert_new p.0 (offsets A os)))
  | inr n ↦ elim (offset_or i A os) [
    | inl h ↦ inl (insert_old i p.0 (offsets A os) h)
    | inr z ↦ inr (at_rest p A i n ∙ z)
  ]
]

Ascend-weaken : (b c : ℕ) (os : List ℕ) → b ≤ c → Ascend c os → Ascend b os
Ascend-weaken b c [] low h = tt
Ascend-weaken b c (o ∷ os) low h = (omega arith, h.1)

Ascend-differ : (A B : Array) (b : ℕ) (os : List ℕ) → Ascend b os → Ascend b (differ_at A B os)
Ascend-differ A B b [] h = tt
Ascend-differ A B b (o ∷ os) h = go (same_value (at A o) (at B o)) (Ascend-differ A B (suc o) os h.1)
  where
    go : (t : Bool) → Ascend (suc o) (differ_at A B os) → Ascend b (skip_if t o (differ_at A B os))
    go true rest = Ascend-weaken b (suc o) (differ_at A B os) (omega arith) rest
    go false rest = (h.0, rest)

AreLow-differ : (A B : Array) (n : ℕ) (os : List ℕ) → AreLow n os → AreLow n (differ_at A B os)
AreLow-differ A B n [] h = tt
AreLow-differ A B n (o ∷ os) h = go (same_value (at A o) (at B o)) (AreLow-differ A B n os h.1)
  where
    go : (t : Bool) → AreLow n (differ_at A B os) → AreLow n (skip_if t o (differ_at A B os))
    go true rest = rest
    go false rest = (h.0, rest)

-- what is kept differs, and what differs is kept
differ_sound : (A B : Array) (i : ℕ) (os : List ℕ) → In i (differ_at A B os) → same_value (at A i) (at B i) ≡ false
differ_sound A B i [] h = absurd h
differ_sound A B i (o ∷ os) h = go (same_value (at A o) (at B o)) refl h (differ_sound A B i os)
  where
    go : (t : Bool) → same_value (at A o) (at B o) ≡ t → In i (skip_if t o (differ_at A B os)) → (In i (differ_at A B os) → same_value (at A i) (at B i) ≡ false)
        → same_value (at A i) (at B i) ≡ false
    go true e h again = again h
    go false e (inl s) again = subst (λ j. same_value (at A j) (at B j) ≡ false) s e
    go false e (inr h) again = again h

differ_whole : (A B : Array) (i : ℕ) (os : List ℕ) → same_value (at A i) (at B i) ≡ false → In i os → In i (differ_at A B os)
differ_whole A B i [] d h = absurd h
differ_whole A B i (o ∷ os) d h = go (same_value (at A o) (at B o)) refl h (differ_whole A B i os d)
  where
    go : (t : Bool) → same_value (at A o) (at B o) ≡ t → In i (o ∷ os) → (In i os → In i (differ_at A B os)) → In i (skip_if t o (differ_at A B os))
    go true e (inl s) again = let f : same_value (at A o) (at B o) ≡ false = subst (λ j. same_value (at A j) (at B j) ≡ false) (sym s) d in cc
    go true e (inr h) again = again h
    go false e (inl s) again = inl s
    go false e (inr h) again = inr (again h)

exact_from : (A B : Array) (i : ℕ) → In i (differ A B) → at A i ≡ at B i → ⊥
exact_from A B i h e =
    let d : same_value (at A i) (at B i) ≡ false = differ_sound A B i (offsets A (offsets B [])) h in
    let s : same_value (at A i) (at B i) ≡ true = subst (λ v. same_value (at A i) v ≡ true) e (value_refl (at A i)) in
    cc

exact_to : (A B : Array) (i : ℕ) → (at A i ≡ at B i → ⊥) → In i (differ A B)
exact_to A B i n =
    let d : same_value (at A i) (at B i) ≡ false = false_from_ne_true (same_value (at A i) (at B i)) (λ t. n (value_true (at A i) (at B i) t)) in
    elim (offset_or i A (offsets B [])) [
      | inl h ↦ differ_whole A B i (offsets A (offsets B [])) d h
      | inr z ↦ elim (offset_or i B []) [
        | inl h ↦ differ_whole A B i (offsets A (offsets B [])) d (offsets_old i A (offsets B []) h)
        | inr y ↦ absurd (n (z ∙ sym y))
      ]
    ]

-- what the values at offsets tell
told_or : (B : Array) (os : List ℕ) (i : ℕ) (v : Value) → (value_after (changes_at B os) i v ≡ at B i) ⊎ ((value_after (changes_at B os) i v ≡ v) × (In i os → ⊥))
told_or B [] i v = inr (refl, λ h. h)
told_or B (o ∷ os) i v = elim (cases_eq o i) [
  | inl e ↦ inl (ap (λ t. cond t (at B o) (value_after (changes_at B os) i v)) (eq-eqb o i e) ∙ ap (at B) e)
  | inr n ↦
      let skip = ap (λ t. cond t (at B o) (value_after (changes_at B os) i v)) (ne_eqb o i n) in
      elim (told_or B os i v) [
        | inl h ↦ inl (skip ∙ h)
        | inr h ↦ inr (skip ∙ h.0, λ k. elim k [ inl e ↦ n e | inr l ↦ h.1 l ])
      ]
]

AreChanges-told_by : (B : Array) (b : ℕ) (os : List ℕ) → HasValues B → Ascend b os → AreLow (2 ^ 32) os → AreChanges b (changes_at B os)
AreChanges-told_by B b [] v a l = tt
AreChanges-told_by B b (o ∷ os) v a l = (a.0, l.0, value_at B o v, AreChanges-told_by B (suc o) os v a.1 l.1)

pub differences_are_exact : DifferencesAreExact
differences_are_exact A B a b =
    let ascend : Ascend 0 (differ A B) = Ascend-differ A B 0 _ (Ascend-offsets A _ (Ascend-offsets B [] tt)) in
    let low : AreLow (2 ^ 32) (differ A B) = AreLow-differ A B (2 ^ 32) _ (AreLow-offsets (2 ^ 32) A _ (sorted_array A a).below (AreLow-offsets (2 ^ 32) B [] (sorted_array B b).below tt)) in
    let valid : AreChanges 0 (changes_at B (differ A B)) = AreChanges-told_by B 0 (differ A B) (values_of_array B b) ascend low in
    let (is_array, has) = changes_are_made A (changes_at B (differ A B)) a valid in
    record {
      ascend = ascend;
      exact = λ i. (exact_from A B i, exact_to A B i);
      valid = valid;
      makes = same_array (with A (changes_at B (differ A B))) B is_array b (λ i. has i ∙ elim (told_or B (differ A B) i (at A i)) [
        | inl e ↦ e
        | inr h ↦ h.0 ∙ elim (cases_Bool (same_value (at A i) (at B i))) [
          | inl t ↦ value_true (at A i) (at B i) t
          | inr f ↦ absurd (h.1 (exact_to A B i (λ e. let s : same_value (at A i) (at B i) ≡ true = subst (λ v. same_value (at A i) v ≡ true) e (value_refl (at A i)) in cc)))
        ]
      ]);
    }

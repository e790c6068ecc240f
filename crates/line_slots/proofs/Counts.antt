-- Counting entries.
use Rattle.std.proofs.Common.{◌≡◌, ℕ, ◌+◌, ◌≤◌, Bool, true, false, cond, List, [], ◌∷◌, ◌++◌, refl, sym, ap, ◌∙◌, subst, arith, inl, inr, ◌&&◌}
use Rattle.std.specs.Prelude.{count_by, ◌==◌}
use Rattle.std.proofs.lemmas.Bool.{and_parts, eq-eqb, eqb-true, cases_Bool, cases_lt}
use Rattle.std.proofs.lemmas.List.Sums.{sum_by-append, sum_by-cons}
use Rattle.hic_word.specs.Lists.{In}
use Rattle.line_slots.specs.declared.entry.Entry.{Entry}
use Rattle.line_slots.specs.ChainLists.{uses, without_slot, HasSlot, SameEntries}

abbrev pub one : Bool → ℕ
one t = cond {A = ℕ} t 1 0

pub count-cons : {X : Type 0} (test : X → Bool) (x : X) (xs : List X) → count_by test (x ∷ xs) ≡ one (test x) + count_by test xs
count-cons test x xs = sum_by-cons (λ y. cond {A = ℕ} (test y) 1 0) x xs

pub count-append : {X : Type 0} (test : X → Bool) (xs ys : List X) → count_by test (xs ++ ys) ≡ count_by test xs + count_by test ys
count-append test xs ys = sum_by-append (λ y. cond {A = ℕ} (test y) 1 0) xs ys

pub one-true : (t : Bool) → t ≡ true → one t ≡ 1
one-true true e = refl
one-true false e = cc

pub one-false : (t : Bool) → t ≡ false → one t ≡ 0
one-false true e = cc
one-false false e = refl

-- a member that passes is counted, and what is counted is a member
pub In-count : {X : Type 0} (test : X → Bool) (x : X) (xs : List X) → In x xs → test x ≡ true → 1 ≤ count_by test xs
In-count test x [] i e = absurd i
In-count test x (y ∷ ys) (inl s) e = let a = count-cons test y ys in let b = one-true (test y) (ap test s ∙ e) in omega (arith, a, b)
In-count test x (y ∷ ys) (inr i) e = let a = count-cons test y ys in let b = In-count test x ys i e in omega (arith, a, b)

pub count-In : {X : Type 0} (test : X → Bool) (xs : List X) → 1 ≤ count_by test xs → (x : X) × In x xs × (test x ≡ true)
count-In test [] h = absurd (omega arith)
count-In test (y ∷ ys) h = elim (cases_Bool (test y)) [
  | inl e ↦ (y, inl refl, e)
  | inr e ↦
      let a = count-cons test y ys in
      let b = one-false (test y) e in
      let (x, i, f) = count-In test ys (omega (arith, a, b, h)) in
      (x, inr i, f)
]

pub none-count : {X : Type 0} (test : X → Bool) (xs : List X) → ((x : X) → In x xs → test x ≡ true → ⊥) → count_by test xs ≡ 0
none-count test xs none = elim (cases_lt 0 (count_by test xs)) [
  | inl h ↦ absurd (let (x, i, t) = count-In test xs h in none x i t)
  | inr h ↦ omega arith
]

-- an entry that is tested to be another
abbrev is_entry : Entry → Entry → Bool
is_entry wanted e = (e.key == wanted.key) && (e.slot == wanted.slot)

tested_entry : (wanted e : Entry) → is_entry wanted e ≡ true → e ≡ wanted
tested_entry wanted e h =
    let (s, k) = and_parts (e.key == wanted.key) (e.slot == wanted.slot) h in
    let a = eqb-true e.key wanted.key s in
    let b = eqb-true e.slot wanted.slot k in
    λ i. record { slot = b i; key = a i }

entry_tested : (e : Entry) → is_entry e e ≡ true
entry_tested e = ap (λ t. t && (e.slot == e.slot)) (eq-eqb e.key e.key refl) ∙ eq-eqb e.slot e.slot refl

-- members of one list are members of the other
pub same_in : (xs ys : List Entry) → SameEntries xs ys → (e : Entry) → In e xs → In e ys
same_in xs ys same e i =
    let (x, j, h) = count-In (is_entry e) ys (subst (λ n. 1 ≤ n) (same (is_entry e)) (In-count (is_entry e) e xs i (entry_tested e))) in
    subst (λ z. In z ys) (tested_entry e x h) j

pub same_back : (xs ys : List Entry) → SameEntries xs ys → SameEntries ys xs
same_back xs ys same test = sym (same test)

-- entries with a slot
pub slot_used : (slot : ℕ) (xs : List Entry) → HasSlot slot xs → 1 ≤ uses slot xs
slot_used slot [] h = absurd h
slot_used slot (x ∷ xs) (inl e) = let a = count-cons (λ (y : Entry). y.slot == slot) x xs in let b = one-true (x.slot == slot) (eq-eqb x.slot slot e) in omega (arith, a, b)
slot_used slot (x ∷ xs) (inr h) = let a = count-cons (λ (y : Entry). y.slot == slot) x xs in let b = slot_used slot xs h in omega (arith, a, b)

pub in_slot : (e : Entry) (xs : List Entry) → In e xs → HasSlot e.slot xs
in_slot e [] i = absurd i
in_slot e (x ∷ xs) (inl s) = inl (ap (λ (y : Entry). y.slot) s)
in_slot e (x ∷ xs) (inr i) = inr (in_slot e xs i)

pub slot_in : (slot : ℕ) (xs : List Entry) → HasSlot slot xs → (e : Entry) × In e xs × (e.slot ≡ slot)
slot_in slot [] h = absurd h
slot_in slot (x ∷ xs) (inl e) = (x, inl refl, e)
slot_in slot (x ∷ xs) (inr h) = let (e, i, s) = slot_in slot xs h in (e, inr i, s)

-- an entry taken out by its slot, which no other has
pub without-same : (e : Entry) (xs : List Entry) → In e xs → uses e.slot xs ≤ 1 → SameEntries xs (e ∷ without_slot e.slot xs)
without-same e [] i h test = absurd i
without-same e (x ∷ xs) i h test = elim (cases_Bool (x.slot == e.slot)) [
  | inl t ↦
      let rest : without_slot e.slot (x ∷ xs) ≡ xs = ap (λ b. cond b xs (x ∷ without_slot e.slot xs)) t in
      ap (λ y. count_by test (y ∷ xs)) (first i t) ∙ sym (ap (λ ys. count_by test (e ∷ ys)) rest)
  | inr t ↦
      let rest : without_slot e.slot (x ∷ xs) ≡ x ∷ without_slot e.slot xs = ap (λ b. cond b xs (x ∷ without_slot e.slot xs)) t in
      let a = count-cons test x xs in
      let b = without-same e xs (later i t) (fewer) test in
      let c = count-cons test e (without_slot e.slot xs) in
      let d = count-cons test e (x ∷ without_slot e.slot xs) in
      let f = count-cons test x (without_slot e.slot xs) in
      let g = ap (λ ys. count_by test (e ∷ ys)) rest in
      omega (arith, a, b, c, d, f, g)
]
  where
    first : In e (x ∷ xs) → (x.slot == e.slot) ≡ true → x ≡ e
    first (inl s) t = s
    first (inr j) t = absurd (let a = count-cons (λ (y : Entry). y.slot == e.slot) x xs in let b = one-true (x.slot == e.slot) t in let c = slot_used e.slot xs (in_slot e xs j) in omega (arith, a, b, c, h))

    later : In e (x ∷ xs) → (x.slot == e.slot) ≡ false → In e xs
    later (inl s) t = absurd (let a = eq-eqb x.slot e.slot (ap (λ (y : Entry). y.slot) s) in let b : true ≡ false = sym a ∙ t in cc)
    later (inr j) t = j

    fewer : uses e.slot xs ≤ 1
    fewer = let a = count-cons (λ (y : Entry). y.slot == e.slot) x xs in omega (arith, a, h)

-- no entries
pub no_entry : (xs : List Entry) → count_by (λ (e : Entry). true) xs ≡ 0 → xs ≡ []
no_entry [] e = refl
no_entry (x ∷ xs) e = absurd (omega (arith, e, count-cons (λ (y : Entry). true) x xs))

-- Reading lists: after a write, and in what is appended.
use Rattle.std.proofs.Common.{◌≡◌, ℕ, zero, suc, ◌+◌, ◌<◌, ◌≤◌, List, [], ◌∷◌, ◌++◌, length, set, Option, Some, refl, sym, ap, arith, inl, inr}
use Rattle.std.proofs.lemmas.Bool.{cases_eq}
use Rattle.std.specs.Prelude.{slice_get}
use Rattle.std.specs.List.{range_with_len}
use Rattle.hic_word.specs.Lists.{In}

pub get_set_other : {X : Type 0} (xs : List X) (k j : ℕ) (v : X) → (j ≡ k → ⊥) → slice_get (set xs k v) j ≡ slice_get xs j
get_set_other [] k j v n = refl
get_set_other (x ∷ xs) zero zero v n = absurd (n refl)
get_set_other (x ∷ xs) zero (suc j) v n = refl
get_set_other (x ∷ xs) (suc k) zero v n = refl
get_set_other (x ∷ xs) (suc k) (suc j) v n = get_set_other xs k j v (λ e. n (ap suc e))

pub get_set_same : {X : Type 0} (xs : List X) (k : ℕ) (v : X) → k < length xs → slice_get (set xs k v) k ≡ Some v
get_set_same [] k v h = absurd (omega arith)
get_set_same (x ∷ xs) zero v h = refl
get_set_same (x ∷ xs) (suc k) v h = get_set_same xs k v (omega arith)

some_same : {X : Type 0} (x y : X) → ◌≡◌ {A = Option X} (Some x) (Some y) → x ≡ y
some_same x y e = cc

-- a write of what is there
pub set_there : {X : Type 0} (xs : List X) (k : ℕ) (v : X) → slice_get xs k ≡ Some v → set xs k v ≡ xs
set_there [] k v h = refl
set_there (x ∷ xs) zero v h = ap (λ y. y ∷ xs) (some_same v x (sym h))
set_there (x ∷ xs) (suc k) v h = ap (λ ys. x ∷ ys) (set_there xs k v h)

pub get_append : {X : Type 0} (xs ys : List X) (k : ℕ) → k < length xs → slice_get (xs ++ ys) k ≡ slice_get xs k
get_append [] ys k h = absurd (omega arith)
get_append (x ∷ xs) ys zero h = refl
get_append (x ∷ xs) ys (suc k) h = get_append xs ys k (omega arith)

pub In-append_left : {X : Type 0} (x : X) (xs ys : List X) → In x xs → In x (xs ++ ys)
In-append_left x [] ys i = absurd i
In-append_left x (z ∷ xs) ys (inl e) = inl e
In-append_left x (z ∷ xs) ys (inr i) = inr (In-append_left x xs ys i)

pub In-append_right : {X : Type 0} (x : X) (xs ys : List X) → In x ys → In x (xs ++ ys)
In-append_right x [] ys i = i
In-append_right x (z ∷ xs) ys i = inr (In-append_right x xs ys i)

pub In-range : (k a n : ℕ) → a ≤ k → k < a + n → In k (range_with_len a n)
In-range k a zero low high = absurd (omega arith)
In-range k a (suc n) low high = elim (cases_eq a k) [ inl e ↦ inl e | inr d ↦ inr (In-range k (a + 1) n (omega arith) (omega arith)) ]

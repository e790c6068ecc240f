-- The entries of all chains, after a write to one of them, and by the chain that they are in.
use Rattle.std.proofs.Common.{◌≡◌, ℕ, suc, zero, ◌+◌, ◌<◌, ◌≤◌, Bool, List, [], ◌∷◌, ◌++◌, length, set, refl, arith, inl, inr, ◌⊎◌}
use Rattle.std.specs.Prelude.{count_by, flat_map, slice_get, unwrap_or}
use Rattle.hic_word.specs.Lists.{In}
use Rattle.line_slots.specs.declared.entry.Entry.{Entry}
use Rattle.line_slots.proofs.ListReads.{In-append_left, In-append_right}
use Rattle.line_slots.proofs.Counts.{count-append}

-- the entries of all these chains, and of that with a number
abbrev pub together : List (List Entry) → List Entry
together cs = flat_map (λ (chain : List Entry). chain) cs

abbrev pub one_of : List (List Entry) → ℕ → List Entry
one_of cs b = unwrap_or (slice_get cs b) []

pub count-replaced : (test : Entry → Bool) (cs : List (List Entry)) (b : ℕ) (xs : List Entry) → b < length cs → count_by test (together (set cs b xs)) + count_by test (one_of cs b) ≡ count_by test (together cs) + count_by test xs
count-replaced test [] b xs low = absurd (omega arith)
count-replaced test (c ∷ cs) zero xs low = omega (arith, count-append test xs (together cs), count-append test c (together cs))
count-replaced test (c ∷ cs) (suc b) xs low =
    let a = count-replaced test cs b xs (omega arith) in
    omega (arith, a, count-append test c (together (set cs b xs)), count-append test c (together cs))

pub count-one_of : (test : Entry → Bool) (cs : List (List Entry)) (b : ℕ) → count_by test (one_of cs b) ≤ count_by test (together cs)
count-one_of test [] b = omega arith
count-one_of test (c ∷ cs) zero = omega (arith, count-append test c (together cs))
count-one_of test (c ∷ cs) (suc b) = omega (arith, count-one_of test cs b, count-append test c (together cs))

none_together : (test : Entry → Bool) (cs : List (List Entry)) → ((b : ℕ) → count_by test (one_of cs b) ≡ 0) → count_by test (together cs) ≡ 0
none_together test [] none = refl
none_together test (c ∷ cs) none = omega (arith, none zero, none_together test cs (λ b. none (suc b)), count-append test c (together cs))

-- all that pass a test are in one chain
pub count-alone : (test : Entry → Bool) (cs : List (List Entry)) (n : ℕ) → ((b : ℕ) → (b ≡ n → ⊥) → count_by test (one_of cs b) ≡ 0) → count_by test (one_of cs n) ≡ count_by test (together cs)
count-alone test [] n none = refl
count-alone test (c ∷ cs) zero none = omega (arith, none_together test cs (λ b. none (suc b) (λ e. omega (arith, e))), count-append test c (together cs))
count-alone test (c ∷ cs) (suc n) none = omega (arith, none zero (λ e. omega (arith, e)), count-alone test cs n (λ b d. none (suc b) (λ e. d (omega (arith, e)))), count-append test c (together cs))

-- an entry is in some chain
pub in_together : (e : Entry) (cs : List (List Entry)) (b : ℕ) → In e (one_of cs b) → In e (together cs)
in_together e [] b i = absurd i
in_together e (c ∷ cs) zero i = In-append_left e c (together cs) i
in_together e (c ∷ cs) (suc b) i = In-append_right e c (together cs) (in_together e cs b i)

pub in_one_of : (e : Entry) (cs : List (List Entry)) → In e (together cs) → (b : ℕ) × In e (one_of cs b)
in_one_of e [] i = absurd i
in_one_of e (c ∷ cs) i = elim (either c i) [
  | inl j ↦ (zero, j)
  | inr j ↦ let (b, k) = in_one_of e cs j in (suc b, k)
]
  where
    either : (xs : List Entry) → In e (xs ++ together cs) → In e xs ⊎ In e (together cs)
    either [] j = inr j
    either (x ∷ xs) (inl s) = inl (inl s)
    either (x ∷ xs) (inr j) = elim (either xs j) [ inl k ↦ inl (inr k) | inr k ↦ inr k ]

pub number_low : (e : Entry) (cs : List (List Entry)) (b : ℕ) → In e (one_of cs b) → b < length cs
number_low e [] b i = absurd i
number_low e (c ∷ cs) zero i = omega arith
number_low e (c ∷ cs) (suc b) i = omega (arith, number_low e cs b i)

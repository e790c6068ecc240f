-- The offsets of a range at which two arrays differ: ranges put together, and moved.
use Rattle.std.proofs.Common.{◌≡◌, ℕ, zero, suc, ◌+◌, ◌<◌, ◌≤◌, Bool, true, false, List, [], ◌∷◌, ◌++◌, length, refl, ◌∙◌, ap, subst, inl, inr, arith}
use Rattle.std.specs.List.{range_with_len}
use Rattle.std.proofs.lemmas.Bool.{cases_eq}
use Rattle.std.proofs.lemmas.List.{length-map, map-append}
use Rattle.hic_word.specs.Values.{Array, at}
use Rattle.hic_word.specs.Same.{same_value}
use Rattle.hic_word.specs.Differences.{differ_at, skip_if}
use Rattle.hic_word.proofs.callers.Forms.{value_refl, value_true}
use Rattle.seg_changes.specs.Differing.{differ_from, raised_at}

range-append : (a m n : ℕ) → range_with_len a (m + n) ≡ range_with_len a m ++ range_with_len (a + m) n
range-append a zero n =
    let none : zero + n ≡ n = omega arith in
    let here : a ≡ a + zero = omega arith in
    ap (range_with_len a) none ∙ ap (λ b. range_with_len b n) here
range-append a (suc m) n =
    let more : suc m + n ≡ suc (m + n) = omega arith in
    let next : a + 1 + m ≡ a + suc m = omega arith in
    ap (range_with_len a) more ∙ ap (λ xs. a ∷ xs) (range-append (a + 1) m n ∙ ap (λ b. range_with_len (a + 1) m ++ range_with_len b n) next)

skip-append : (t : Bool) (o : ℕ) (xs ys : List ℕ) → skip_if t o (xs ++ ys) ≡ skip_if t o xs ++ ys
skip-append true o xs ys = refl
skip-append false o xs ys = refl

differ_at-append : (A B : Array) (xs ys : List ℕ) → differ_at A B (xs ++ ys) ≡ differ_at A B xs ++ differ_at A B ys
differ_at-append A B [] ys = refl
differ_at-append A B (x ∷ xs) ys =
    let t = same_value (at A x) (at B x) in
    ap (skip_if t x) (differ_at-append A B xs ys) ∙ skip-append t x (differ_at A B xs) (differ_at A B ys)

-- a range in two pieces
pub differ-append : (i m n : ℕ) (A B : Array) → differ_from i (m + n) A B ≡ differ_from i m A B ++ differ_from (i + m) n A B
differ-append i m n A B = ap (differ_at A B) (range-append i m n) ∙ differ_at-append A B (range_with_len i m) (range_with_len (i + m) n)

pub raised-append : (b : ℕ) (B : Array) (xs ys : List ℕ) → raised_at b B (xs ++ ys) ≡ raised_at b B xs ++ raised_at b B ys
raised-append b B xs ys = map-append (λ o. (b + o, at B o)) xs ys

-- a range in arrays that have the values of others from c on
pub raised_moved : (b c i n : ℕ) (A B C D : Array) → ((j : ℕ) → j < i + n → at C j ≡ at A (c + j)) → ((j : ℕ) → j < i + n → at D j ≡ at B (c + j))
    → raised_at (b + c) D (differ_from i n C D) ≡ raised_at b B (differ_from (c + i) n A B)
raised_moved b c i zero A B C D first second = refl
raised_moved b c i (suc n) A B C D first second =
    let low : i < i + suc n = omega arith in
    let test : same_value (at C i) (at D i) ≡ same_value (at A (c + i)) (at B (c + i)) = λ t. same_value (first i low t) (second i low t) in
    let place : b + c + i ≡ b + (c + i) = omega arith in
    let next : c + (i + 1) ≡ c + i + 1 = omega arith in
    let rest = raised_moved b c (i + 1) n A B C D (λ j l. first j (omega (arith, l))) (λ j l. second j (omega (arith, l))) in
    ap (λ t. raised_at (b + c) D (skip_if t i (differ_from (i + 1) n C D))) test
    ∙ go (same_value (at A (c + i)) (at B (c + i))) place (second i low) (rest ∙ ap (λ k. raised_at b B (differ_from k n A B)) next)
  where
    go : (t : Bool) → b + c + i ≡ b + (c + i) → at D i ≡ at B (c + i) → raised_at (b + c) D (differ_from (i + 1) n C D) ≡ raised_at b B (differ_from (c + i + 1) n A B)
        → raised_at (b + c) D (skip_if t i (differ_from (i + 1) n C D)) ≡ raised_at b B (skip_if t (c + i) (differ_from (c + i + 1) n A B))
    go true place value rest = rest
    go false place value rest = λ t. (place t, value t) ∷ rest t

pub raised_length : (b : ℕ) (B : Array) (os : List ℕ) → length (raised_at b B os) ≡ length os
raised_length b B os = length-map os (λ o. (b + o, at B o))

-- an array differs nowhere from itself
pub differ_same : (i n : ℕ) (A B : Array) → A ≡ B → differ_from i n A B ≡ []
differ_same i zero A B e = refl
differ_same i (suc n) A B e =
    let same : same_value (at A i) (at B i) ≡ true = subst (λ (C : Array). same_value (at A i) (at C i) ≡ true) e (value_refl (at A i)) in
    ap (λ t. skip_if t i (differ_from (i + 1) n A B)) same ∙ differ_same (i + 1) n A B e

-- where nothing differs the values are the same
pub differ_nowhere : (i n : ℕ) (A B : Array) → differ_from i n A B ≡ [] → (j : ℕ) → i ≤ j → j < i + n → at A j ≡ at B j
differ_nowhere i zero A B e j from less = absurd (omega arith)
differ_nowhere i (suc n) A B e j from less = go (same_value (at A i) (at B i)) refl e (λ none past. differ_nowhere (i + 1) n A B none j (omega (arith, from, past)) (omega (arith, less)))
  where
    go : (t : Bool) → same_value (at A i) (at B i) ≡ t → skip_if t i (differ_from (i + 1) n A B) ≡ [] → (differ_from (i + 1) n A B ≡ [] → (i ≡ j → ⊥) → at A j ≡ at B j) → at A j ≡ at B j
    go false s none later = cc
    go true s none later = elim (cases_eq i j) [
      | inl here ↦ subst (λ k. at A k ≡ at B k) here (value_true (at A i) (at B i) s)
      | inr past ↦ later none past
    ]

-- A count that is not 0 has a name.
use Rattle.std.proofs.Common.{◌≡◌, ℕ, zero, suc, ◌+◌, ◌≤◌, ◌⊎◌, Bool, true, false, cond, List, [], ◌∷◌, ◌++◌, Option, Some, None, refl, ◌∙◌, ap, inl, inr, arith}
use Rattle.std.specs.Prelude.{count_by, ◌==◌, option_to_list}
use Rattle.std.proofs.lemmas.Bool.{cases_eq, ne_eqb}
use Rattle.std.proofs.lemmas.List.Sums.{sum_by-cons, sum_by-append}
use Rattle.hic_word.specs.declared.Word.{Word}
use Rattle.hic_word.specs.Lists.{In}
use Rattle.hic_word.specs.Names.{Names, named_id, names_in}
use Rattle.hic_word.specs.Memory.{names_of}

-- a sum that is not 0 has a part that is not
pub some_or : (a b : ℕ) → 1 ≤ a + b → (1 ≤ a) ⊎ (1 ≤ b)
some_or zero b h = inr (omega arith)
some_or (suc a) b h = inl (omega arith)

-- from a count to a name
one_if_false : (t : Bool) → t ≡ false → ◌≡◌ {A = ℕ} (cond t 1 0) 0
one_if_false true e = cc
one_if_false false e = refl

pub counted_name : (j : ℕ) (xs : List Word) → 1 ≤ count_by (λ x. x == j) (names_in xs) → Names j xs
counted_name j [] h = absurd (omega arith)
counted_name j (x ∷ xs) h = go (named_id x) refl h (counted_name j xs)
  where
    go : (o : Option ℕ) → named_id x ≡ o → 1 ≤ count_by (λ x. x == j) (option_to_list o ++ names_in xs) → (1 ≤ count_by (λ x. x == j) (names_in xs) → Names j xs) → Names j (x ∷ xs)
    go None e h again = inr (again h)
    go (Some i) e h again = elim (cases_eq i j) [
      | inl s ↦ inl (e ∙ ap (λ (n : ℕ). Some n) s)
      | inr n ↦ inr (again (
          let miss : (i == j) ≡ false = ne_eqb i j n in
          let a = sum_by-cons (λ x. cond (x == j) 1 0) i (names_in xs) in
          let b = one_if_false (i == j) miss in
          omega (arith, a, b, h)))
    ]

pub counted_entry : (j : ℕ) (es : List (ℕ × List Word)) → 1 ≤ count_by (λ x. x == j) (names_of es) → (e : ℕ × List Word) × In e es × Names j e.1
counted_entry j [] h = absurd (omega arith)
counted_entry j (e ∷ es) h =
    let a = sum_by-append (λ x. cond (x == j) 1 0) (names_in e.1) (names_of es) in
    elim (cases_eq (count_by (λ x. x == j) (names_in e.1)) 0) [
      | inl z ↦ let (d, there, n) = counted_entry j es (omega (arith, a, h, z)) in (d, inr there, n)
      | inr p ↦ (e, inl refl, counted_name j e.1 (omega arith))
    ]

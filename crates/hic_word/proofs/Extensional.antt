-- Arrays with the same word at each offset are equal.
use Rattle.std.proofs.Common.{◌≡◌, ℕ, suc, ◌<◌, true, false, cond, [], ◌∷◌, refl, sym, ◌∙◌, ap, inl, inr, arith}
use Rattle.std.proofs.lemmas.Bool.{cases_eq, cases_order, eq-eqb, ne_eqb}
use Rattle.hic_word.specs.Values.{Array, HasNoZero, Number, RisesFrom, Value, at, is_zero}
use Rattle.hic_word.proofs.Decode.{at_past}

pub at_first : (p : ℕ × Value) (A : Array) → at (p ∷ A) p.0 ≡ p.1
at_first p A = ap (λ b. cond b p.1 (at A p.0)) (eq-eqb p.0 p.0 refl)

pub at_rest : (p : ℕ × Value) (A : Array) (i : ℕ) → (p.0 ≡ i → ⊥) → at (p ∷ A) i ≡ at A i
at_rest p A i n = ap (λ b. cond b p.1 (at A i)) (ne_eqb p.0 i n)

pub not_zero : (v : Value) → is_zero v ≡ false → v ≡ Number 0 → ⊥
not_zero v h e = let a : is_zero v ≡ true = ap is_zero e in cc

-- below its first offset an array has 0
pub at_low : (p : ℕ × Value) (A : Array) (b i : ℕ) → i < p.0 → RisesFrom b (p ∷ A) → at (p ∷ A) i ≡ Number 0
at_low p A b i h r = at_rest p A i (λ e. omega arith) ∙ at_past i (suc p.0) A (omega arith) r.1

pub at-ext : (b c : ℕ) (A B : Array) → RisesFrom b A → RisesFrom c B → HasNoZero A → HasNoZero B → ((i : ℕ) → at A i ≡ at B i) → A ≡ B
at-ext b c [] [] r s y z h = refl
at-ext b c [] (q ∷ B) r s y z h = absurd (not_zero q.1 z.0 (sym (at_first q B) ∙ sym (h q.0)))
at-ext b c (p ∷ A) [] r s y z h = absurd (not_zero p.1 y.0 (sym (at_first p A) ∙ h p.0))
at-ext b c (p ∷ A) (q ∷ B) r s y z h = elim (cases_order p.0 q.0) [
  | inl e ↦
      let word : p.1 ≡ q.1 = sym (at_first p A) ∙ h p.0 ∙ ap (at (q ∷ B)) e ∙ at_first q B in
      let rest : A ≡ B = at-ext (suc p.0) (suc q.0) A B r.1 s.1 y.1 z.1 (same_rest e) in
      λ t. (e t, word t) ∷ rest t
  | inr (inl lt) ↦ absurd (not_zero p.1 y.0 (sym (at_first p A) ∙ h p.0 ∙ at_low q B c p.0 lt s))
  | inr (inr gt) ↦ absurd (not_zero q.1 z.0 (sym (at_first q B) ∙ sym (h q.0) ∙ at_low p A b q.0 gt r))
]
  where
    same_rest : p.0 ≡ q.0 → (i : ℕ) → at A i ≡ at B i
    same_rest e i = elim (cases_eq p.0 i) [
      | inl k ↦ at_past i (suc p.0) A (omega arith) r.1 ∙ sym (at_past i (suc q.0) B (omega arith) s.1)
      | inr n ↦ sym (at_rest p A i n) ∙ h i ∙ at_rest q B i (λ k. n (e ∙ k))
    ]

-- Changed arrays.
use Rattle.std.proofs.Common.{◌≡◌, ℕ, suc, ◌^◌, ◌<◌, ◌≤◌, Bool, true, false, cond, eqb, List, [], ◌∷◌, refl, sym, ◌∙◌, ap, subst, inl, inr, arith}
use Rattle.std.proofs.lemmas.Bool.{cases_eq, cases_order, lt-ltb, le-ltb, eq-eqb, ne_eqb, eqb-true, cases_Bool}
use Rattle.hic_word.specs.Values.{ArePairs, Array, IsArray, IsValue, Number, Ref, RisesFrom, Value, at, is_zero, pairs}
use Rattle.hic_word.specs.Changes.{AreChanges, ChangeNothing, with_change, placed, put, put_if, value_after, with}
use Rattle.hic_word.specs.ChangeLaws.{ChangesAreMade, NothingIsChanged}
use Rattle.hic_word.proofs.Decode.{at_past}
use Rattle.hic_word.proofs.Extensional.{at-ext, at_low}
use Rattle.hic_word.proofs.Fits.{sorted_array}

pub zero_is : (v : Value) → is_zero v ≡ true → v ≡ Number 0
zero_is (Number n) e = ap Number (eqb-true n 0 e)
zero_is (Ref H) e = cc

at-put : (c : ℕ × Value) (A : Array) (i : ℕ) → at A c.0 ≡ Number 0 → at (put c A) i ≡ cond (eqb c.0 i) c.1 (at A i)
at-put c A i gone = elim (cases_Bool (is_zero c.1)) [
  | inl z ↦ ap (λ t. at (put_if t c A) i) z ∙ elim (cases_eq c.0 i) [
    | inl e ↦ ap (at A) (sym e) ∙ gone ∙ sym (zero_is c.1 z) ∙ ap (λ t. cond t c.1 (at A i)) (sym (eq-eqb c.0 i e))
    | inr n ↦ ap (λ t. cond t c.1 (at A i)) (sym (ne_eqb c.0 i n))
  ]
  | inr f ↦ ap (λ t. at (put_if t c A) i) f
]

pub at-with_change : (b : ℕ) (c : ℕ × Value) (A : Array) (i : ℕ) → RisesFrom b A → at (with_change c A) i ≡ cond (eqb c.0 i) c.1 (at A i)
at-with_change b c [] i r = at-put c [] i refl
at-with_change b c (p ∷ A) i r = elim (cases_order p.0 c.0) [
  | inl e ↦
      let gone : at A c.0 ≡ Number 0 = at_past c.0 (suc p.0) A (omega arith) r.1 in
      ap (λ t. at (placed t (eqb p.0 c.0) c p A (with_change c A)) i) (le-ltb p.0 c.0 (omega arith)) ∙ ap (λ t. at (placed false t c p A (with_change c A)) i) (eq-eqb p.0 c.0 e)
      ∙ at-put c A i gone ∙ over e
  | inr (inl less) ↦
      ap (λ t. at (placed t (eqb p.0 c.0) c p A (with_change c A)) i) (lt-ltb p.0 c.0 less) ∙ ap (cond (eqb p.0 i) p.1) (at-with_change (suc p.0) c A i r.1) ∙ swap less
  | inr (inr more) ↦
      ap (λ t. at (placed t (eqb p.0 c.0) c p A (with_change c A)) i) (le-ltb p.0 c.0 (omega arith)) ∙ ap (λ t. at (placed false t c p A (with_change c A)) i) (ne_eqb p.0 c.0 (λ e. omega arith))
      ∙ at-put c (p ∷ A) i (at_low p A b c.0 more r)
]
  where
    over : p.0 ≡ c.0 → cond (eqb c.0 i) c.1 (at A i) ≡ cond (eqb c.0 i) c.1 (cond (eqb p.0 i) p.1 (at A i))
    over e = elim (cases_eq c.0 i) [
      | inl same ↦ ap (λ t. cond t c.1 (at A i)) (eq-eqb c.0 i same) ∙ ap (λ t. cond t c.1 (cond (eqb p.0 i) p.1 (at A i))) (sym (eq-eqb c.0 i same))
      | inr other ↦ ap (λ t. cond (eqb c.0 i) c.1 (cond t p.1 (at A i))) (sym (ne_eqb p.0 i (λ s. other (sym e ∙ s))))
    ]

    swap : p.0 < c.0 → cond (eqb p.0 i) p.1 (cond (eqb c.0 i) c.1 (at A i)) ≡ cond (eqb c.0 i) c.1 (cond (eqb p.0 i) p.1 (at A i))
    swap less = elim (cases_eq p.0 i) [
      | inl same ↦
          let other : eqb c.0 i ≡ false = ne_eqb c.0 i (λ s. omega arith) in
          ap (λ t. cond (eqb p.0 i) p.1 (cond t c.1 (at A i))) other ∙ ap (λ t. cond t c.1 (cond (eqb p.0 i) p.1 (at A i))) (sym other)
      | inr n ↦
          let other : eqb p.0 i ≡ false = ne_eqb p.0 i n in
          ap (λ t. cond t p.1 (cond (eqb c.0 i) c.1 (at A i))) other ∙ ap (λ t. cond (eqb c.0 i) c.1 (cond t p.1 (at A i))) (sym other)
    ]

ArePairs-weaken : (b c : ℕ) (A : Array) → b ≤ c → ArePairs c (pairs A) → ArePairs b (pairs A)
unfolding ArePairs
ArePairs-weaken b c [] less h = tt
ArePairs-weaken b c (p ∷ A) less h = (omega arith, h.1, h.2, h.3, h.4)

ArePairs-put : (b : ℕ) (c : ℕ × Value) (A : Array) → b ≤ c.0 → c.0 < 2 ^ 32 → IsValue c.1 → ArePairs (suc c.0) (pairs A) → ArePairs b (pairs (put c A))
unfolding ArePairs
ArePairs-put b c A low high valid h = go (is_zero c.1) refl
  where
    go : (t : Bool) → is_zero c.1 ≡ t → ArePairs b (pairs (put_if t c A))
    go true z = ArePairs-weaken b (suc c.0) A (omega arith) h
    go false z = (low, high, z, valid, h)

ArePairs-with_change : (b : ℕ) (c : ℕ × Value) (A : Array) → b ≤ c.0 → c.0 < 2 ^ 32 → IsValue c.1 → ArePairs b (pairs A) → ArePairs b (pairs (with_change c A))
unfolding ArePairs
ArePairs-with_change b c [] low high valid h = ArePairs-put b c [] low high valid tt
ArePairs-with_change b c (p ∷ A) low high valid h = elim (cases_order p.0 c.0) [
  | inl e ↦
      subst (λ t. ArePairs b (pairs (placed t (eqb p.0 c.0) c p A (with_change c A)))) (sym (le-ltb p.0 c.0 (omega arith)))
      (subst (λ t. ArePairs b (pairs (placed false t c p A (with_change c A)))) (sym (eq-eqb p.0 c.0 e))
      (ArePairs-put b c A low high valid (subst (λ o. ArePairs (suc o) (pairs A)) e h.4)))
  | inr (inl less) ↦
      subst (λ t. ArePairs b (pairs (placed t (eqb p.0 c.0) c p A (with_change c A)))) (sym (lt-ltb p.0 c.0 less))
      (h.0, h.1, h.2, h.3, ArePairs-with_change (suc p.0) c A less high valid h.4)
  | inr (inr more) ↦
      subst (λ t. ArePairs b (pairs (placed t (eqb p.0 c.0) c p A (with_change c A)))) (sym (le-ltb p.0 c.0 (omega arith)))
      (subst (λ t. ArePairs b (pairs (placed false t c p A (with_change c A)))) (sym (ne_eqb p.0 c.0 (λ e. omega arith)))
      (ArePairs-put b c (p ∷ A) low high valid (more, h.1, h.2, h.3, h.4)))
]

IsArray-with : (b : ℕ) (A : Array) (cs : List (ℕ × Value)) → IsArray A → AreChanges b cs → IsArray (with A cs)
IsArray-with b A [] a h = a
IsArray-with b A (c ∷ cs) a h = ArePairs-with_change 0 c (with A cs) (omega arith) h.1 h.2 (IsArray-with (suc c.0) A cs a h.3)

at-with : (b : ℕ) (A : Array) (cs : List (ℕ × Value)) (i : ℕ) → IsArray A → AreChanges b cs → at (with A cs) i ≡ value_after cs i (at A i)
at-with b A [] i a h = refl
at-with b A (c ∷ cs) i a h =
    at-with_change 0 c (with A cs) i (sorted_array (with A cs) (IsArray-with (suc c.0) A cs a h.3)).rises ∙ ap (cond (eqb c.0 i) c.1) (at-with (suc c.0) A cs i a h.3)

pub changes_are_made : ChangesAreMade
changes_are_made A cs a h = (IsArray-with 0 A cs a h, λ i. at-with 0 A cs i a h)

-- valid arrays with the same value at each offset are equal
pub same_array : (A B : Array) → IsArray A → IsArray B → ((i : ℕ) → at A i ≡ at B i) → A ≡ B
same_array A B a b h = let s = sorted_array A a in let t = sorted_array B b in at-ext 0 0 A B s.rises t.rises s.no_zero t.no_zero h

value_after-nothing : (A : Array) (cs : List (ℕ × Value)) (i : ℕ) → ChangeNothing A cs → value_after cs i (at A i) ≡ at A i
value_after-nothing A [] i h = refl
value_after-nothing A (c ∷ cs) i h = elim (cases_eq c.0 i) [
  | inl e ↦ ap (λ t. cond t c.1 (value_after cs i (at A i))) (eq-eqb c.0 i e) ∙ h.0 ∙ ap (at A) e
  | inr n ↦ ap (λ t. cond t c.1 (value_after cs i (at A i))) (ne_eqb c.0 i n) ∙ value_after-nothing A cs i h.1
]

pub nothing_is_changed : NothingIsChanged
nothing_is_changed A cs a h same = let (valid, has) = changes_are_made A cs a h in same_array (with A cs) A valid a (λ i. has i ∙ value_after-nothing A cs i same)

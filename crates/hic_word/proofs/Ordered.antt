-- Valid arrays: what they are, told by their values, and the next value in them.
use Rattle.std.proofs.Common.{◌≡◌, ℕ, suc, ◌^◌, ◌<◌, ◌≤◌, Bool, true, false, leb, [], ◌∷◌, Some, None, refl, sym, ◌∙◌, ap, subst, inl, inr, arith}
use Rattle.std.proofs.lemmas.Bool.{cases_lt, leb-true, leb-false}
use Rattle.hic_word.specs.Values.{ArePairs, Array, HasNoZero, HasValues, IsArray, IsBelow, Number, RisesFrom, at, pairs}
use Rattle.hic_word.specs.View.{next_of, this_or}
use Rattle.hic_word.specs.ArrayLaws.{ArraysAreOrdered, IsNext, IsOrdered, NextIs, NextIsLeast, ValuesTellArrays}
use Rattle.hic_word.proofs.Changes.{same_array}
use Rattle.hic_word.proofs.Extensional.{at_first, at_low, at_rest, not_zero}
use Rattle.hic_word.proofs.Fits.{sorted_array, values_of_array}

pub ArePairs-ordered : (b : ℕ) (A : Array) → RisesFrom b A → IsBelow (2 ^ 32) A → HasNoZero A → HasValues A → ArePairs b (pairs A)
unfolding ArePairs
ArePairs-ordered b [] rises below some valid = tt
ArePairs-ordered b (p ∷ A) rises below some valid = (rises.0, below.0, some.0, valid.0, ArePairs-ordered (suc p.0) A rises.1 below.1 some.1 valid.1)

pub ordered : (A : Array) → IsArray A → IsOrdered A
ordered A a = let s = sorted_array A a in record { rises = s.rises; below = s.below; no_zero = s.no_zero; values = values_of_array A a }

pub arrays_are_ordered : ArraysAreOrdered
arrays_are_ordered A = (ordered A, λ o. ArePairs-ordered 0 A o.rises o.below o.no_zero o.values)

-- past the greatest offset an array has 0
pub at_high : (n i : ℕ) (A : Array) → IsBelow n A → n ≤ i → at A i ≡ Number 0
at_high n i [] below high = refl
at_high n i (p ∷ A) below high = at_rest p A i (λ e. omega (arith, e, below.0, high)) ∙ at_high n i A below.1 high

pub values_tell_arrays : ValuesTellArrays
values_tell_arrays A B a b same = same_array A B a b (λ i. elim (cases_lt i (2 ^ 32)) [
  | inl low ↦ same i low
  | inr high ↦ at_high (2 ^ 32) i A (ordered A a).below high ∙ sym (at_high (2 ^ 32) i B (ordered B b).below high)
])

next_is : (c i : ℕ) (A : Array) → RisesFrom c A → HasNoZero A → NextIs A i
next_is c i [] rises some = record {
  found = λ o e. cc;
  none = λ e j high. refl;
}
next_is c i (p ∷ A) rises some = go (leb i p.0) refl (next_is (suc p.0) i A rises.1 some.1)
  where
    -- what comes later, seen from the whole array
    later : (o : ℕ) → p.0 < i → IsNext A i o → IsNext (p ∷ A) i o
    later o low n = record {
      from = n.from;
      some = λ e. n.some (let from = n.from in sym (at_rest p A o (λ s. omega (arith, s, low, from))) ∙ e);
      least = λ j high before. at_rest p A j (λ s. omega (arith, s, low, high)) ∙ n.least j high before;
    }

    go : (t : Bool) → leb i p.0 ≡ t → NextIs A i → NextIs (p ∷ A) i
    go true e rest =
        let high : i ≤ p.0 = leb-true i p.0 e in
        record {
          found = λ o f.
              let here : p.0 ≡ o = (let g : this_or true p.0 (next_of A i) ≡ Some o = sym (ap (λ t. this_or t p.0 (next_of A i)) e) ∙ f in cc) in
              subst (IsNext (p ∷ A) i) here (record {
                from = high;
                some = λ z. not_zero p.1 some.0 (sym (at_first p A) ∙ z);
                least = λ j from before. at_low p A c j before rises;
              });
          none = λ f. let g : this_or true p.0 (next_of A i) ≡ None = sym (ap (λ t. this_or t p.0 (next_of A i)) e) ∙ f in cc;
        }
    go false e rest =
        let low : p.0 < i = leb-false i p.0 e in
        record {
          found = λ o f. later o low (rest.found o (sym (ap (λ t. this_or t p.0 (next_of A i)) e) ∙ f));
          none = λ f j high. at_rest p A j (λ s. omega (arith, s, low, high)) ∙ rest.none (sym (ap (λ t. this_or t p.0 (next_of A i)) e) ∙ f) j high;
        }

pub next_is_least : NextIsLeast
next_is_least A i a = let o = ordered A a in next_is 0 i A o.rises o.no_zero

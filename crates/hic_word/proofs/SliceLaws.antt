-- Slices of arrays, of slices and of changed arrays.
use Rattle.std.proofs.Common.{◌≡◌, ℕ, suc, ◌+◌, ◌-◌, ◌^◌, ◌<◌, ◌≤◌, Bool, true, false, cond, ◌&&◌, eqb, ltb, leb, List, [], ◌∷◌, refl, sym, ◌∙◌, ap, subst, inl, inr, arith}
use Rattle.std.proofs.lemmas.Bool.{cases_lt}
use Rattle.std.proofs.lemmas.Bool.Decides.{nat_tests}
use Rattle.hic_word.specs.Values.{Array, IsArray, IsBelow, Number, Value, at}
use Rattle.hic_word.specs.Changes.{AreChanges, value_after, with}
use Rattle.hic_word.specs.Parts.{keep, slice}
use Rattle.hic_word.specs.ArrayLaws.{SlicesAreArrays, SlicesAreChanged, SlicesNest}
use Rattle.hic_word.proofs.Changes.{changes_are_made, same_array}
use Rattle.hic_word.proofs.Fits.{HasValues-slice}
use Rattle.hic_word.proofs.Ordered.{arrays_are_ordered, ordered}
use Rattle.hic_word.proofs.Slices.{HasNoZero-slice, IsBelow-slice, RisesFrom-slice, RisesFrom-weaken, kept}

-- what a slice of changes tells
pub value_after-slice : (b s : ℕ) (L : List (ℕ × Value)) (i : ℕ) (v : Value) → i < s → value_after (slice b s L) i v ≡ value_after L (b + i) v
value_after-slice b s [] i v h = refl
value_after-slice b s (c ∷ L) i v h = go (leb b c.0 && ltb c.0 (b + s)) refl (value_after-slice b s L i v h)
  where
    go : (t : Bool) → (leb b c.0 && ltb c.0 (b + s)) ≡ t → value_after (slice b s L) i v ≡ value_after L (b + i) v → value_after (keep t (c.0 - b, c.1) (slice b s L)) i v ≡ cond (eqb c.0 (b + i)) c.1 (value_after L (b + i) v)
    go true e again = let same : eqb (c.0 - b) i ≡ eqb c.0 (b + i) = grind (arith, nat_tests) in rw (same, again) refl
    go false e again = let other : eqb c.0 (b + i) ≡ false = grind (arith, nat_tests) in rw (other) again

value_after-slice_past : (b s : ℕ) (L : List (ℕ × Value)) (i : ℕ) (v : Value) → s ≤ i → value_after (slice b s L) i v ≡ v
value_after-slice_past b s [] i v h = refl
value_after-slice_past b s (c ∷ L) i v h = go (leb b c.0 && ltb c.0 (b + s)) refl (value_after-slice_past b s L i v h)
  where
    go : (t : Bool) → (leb b c.0 && ltb c.0 (b + s)) ≡ t → value_after (slice b s L) i v ≡ v → value_after (keep t (c.0 - b, c.1) (slice b s L)) i v ≡ v
    go true e again = let other : eqb (c.0 - b) i ≡ false = grind (arith, nat_tests) in rw (other) again
    go false e again = again

-- a value is told as by changes
value_after-at : (A : Array) (i : ℕ) → value_after A i (Number 0) ≡ at A i
value_after-at [] i = refl
value_after-at (p ∷ A) i = ap (cond (eqb p.0 i) p.1) (value_after-at A i)

at-slice : (b s : ℕ) (A : Array) (i : ℕ) → i < s → at (slice b s A) i ≡ at A (b + i)
at-slice b s A i h = sym (value_after-at (slice b s A) i) ∙ value_after-slice b s A i (Number 0) h ∙ value_after-at A (b + i)

at-slice_past : (b s : ℕ) (A : Array) (i : ℕ) → s ≤ i → at (slice b s A) i ≡ Number 0
at-slice_past b s A i h = sym (value_after-at (slice b s A) i) ∙ value_after-slice_past b s A i (Number 0) h

IsBelow-slice_all : (n b s : ℕ) (A : Array) → IsBelow n A → IsBelow n (slice b s A)
IsBelow-slice_all n b s [] h = tt
IsBelow-slice_all n b s (p ∷ A) h = elim (leb b p.0 && ltb p.0 (b + s)) as (λ t. IsBelow n (keep t (p.0 - b, p.1) (slice b s A))) [
  | true ↦ (let low = h.0 in omega (arith, low), IsBelow-slice_all n b s A h.1)
  | false ↦ IsBelow-slice_all n b s A h.1
]

IsArray-slice : (b s : ℕ) (A : Array) → IsArray A → IsArray (slice b s A)
IsArray-slice b s A a =
    let o = ordered A a in
    (arrays_are_ordered (slice b s A)).1 (record {
      rises = RisesFrom-weaken (0 - b) 0 (slice b s A) (omega arith) (RisesFrom-slice b s 0 A o.rises);
      below = IsBelow-slice_all (2 ^ 32) b s A o.below;
      no_zero = HasNoZero-slice b s A o.no_zero;
      values = HasValues-slice b s A o.values;
    })

pub slices_are_arrays : SlicesAreArrays
slices_are_arrays b s A a = record {
  valid = IsArray-slice b s A a;
  below = IsBelow-slice b s A;
  values = λ i h. at-slice b s A i h;
}

pub slices_nest : SlicesNest
slices_nest b s c t [] h = refl
slices_nest b s c t (p ∷ A) h = go (leb b p.0 && ltb p.0 (b + s)) refl (slices_nest b s c t A h)
  where
    go : (u : Bool) → (leb b p.0 && ltb p.0 (b + s)) ≡ u → slice c t (slice b s A) ≡ slice (b + c) t A → slice c t (keep u (p.0 - b, p.1) (slice b s A)) ≡ keep (leb (b + c) p.0 && ltb p.0 (b + c + t)) (p.0 - (b + c), p.1) (slice (b + c) t A)
    go true e again =
        let same : (leb c (p.0 - b) && ltb (p.0 - b) (c + t)) ≡ (leb (b + c) p.0 && ltb p.0 (b + c + t)) = grind (arith, nat_tests) in
        let low : p.0 - b - c ≡ p.0 - (b + c) = omega arith in
        rw (same, low, again) refl
    go false e again =
        let other : (leb (b + c) p.0 && ltb p.0 (b + c + t)) ≡ false = grind (arith, nat_tests) in
        rw (other) again

AreChanges-weaken : (b c : ℕ) (L : List (ℕ × Value)) → b ≤ c → AreChanges c L → AreChanges b L
AreChanges-weaken b c [] less h = tt
AreChanges-weaken b c (d ∷ L) less h = let low = h.0 in (omega (arith, low, less), h.1, h.2, h.3)

-- changes from c on, cut and lowered by b
AreChanges-slice : (b s c : ℕ) (L : List (ℕ × Value)) → AreChanges c L → AreChanges (c - b) (slice b s L)
AreChanges-slice b s c [] h = tt
AreChanges-slice b s c (d ∷ L) h = go (leb b d.0 && ltb d.0 (b + s)) refl (AreChanges-slice b s (suc d.0) L h.3)
  where
    go : (t : Bool) → (leb b d.0 && ltb d.0 (b + s)) ≡ t → AreChanges (suc d.0 - b) (slice b s L) → AreChanges (c - b) (keep t (d.0 - b, d.1) (slice b s L))
    go true e rest =
        let (le, lt) = kept b s d.0 e in
        let low = h.0 in
        let high = h.1 in
        let next : suc d.0 - b ≡ suc (d.0 - b) = omega (arith, le) in
        (omega (arith, low, le), omega (arith, high), h.2, subst (λ m. AreChanges m (slice b s L)) next rest)
    go false e rest = let low = h.0 in AreChanges-weaken (c - b) (suc d.0 - b) (slice b s L) (omega (arith, low)) rest

-- a slice of changes is changes
pub slice_changes : (b s c : ℕ) (L : List (ℕ × Value)) → AreChanges c L → AreChanges 0 (slice b s L)
slice_changes b s c L h = AreChanges-weaken 0 (c - b) (slice b s L) (omega arith) (AreChanges-slice b s c L h)

pub slices_are_changed : SlicesAreChanged
slices_are_changed b s c A L a h =
    let all = AreChanges-weaken 0 c L (omega arith) h in
    let some = slice_changes b s c L h in
    let (valid, has) = changes_are_made A L a all in
    let (valid_slice, has_slice) = changes_are_made (slice b s A) (slice b s L) (IsArray-slice b s A a) some in
    same_array _ _ (IsArray-slice b s (with A L) valid) valid_slice (λ i. elim (cases_lt i s) [
      | inl low ↦ at-slice b s (with A L) i low ∙ has (b + i) ∙ ap (value_after L (b + i)) (sym (at-slice b s A i low)) ∙ sym (value_after-slice b s L i (at (slice b s A) i) low) ∙ sym (has_slice i)
      | inr high ↦ at-slice_past b s (with A L) i high ∙ sym (at-slice_past b s A i high) ∙ sym (value_after-slice_past b s L i (at (slice b s A) i) high) ∙ sym (has_slice i)
    ])

-- Changes cut in two at an offset: those below it and those from it on, and what both put into arrays beside one another.
use Rattle.std.proofs.Common.{◌≡◌, ℕ, zero, suc, ◌+◌, ◌-◌, ◌*◌, ◌^◌, ◌<◌, ◌≤◌, false, ◌&&◌, leb, ltb, List, [], ◌∷◌, length, take, drop, get_or, Some, refl, sym, ◌∙◌, ap, subst, arith}
use Rattle.std.proofs.lemmas.Bool.{lt-leb}
use Rattle.std.proofs.lemmas.Option.{slice_get-get_or}
use Rattle.std.specs.List.{slice_get}
use Rattle.std.specs.List.Sorted.{IsNonDecreasingBy}
use Rattle.hic_word.specs.declared.Word.{Word}
use Rattle.hic_word.specs.Values.{Array, IsBelow, RisesFrom}
use Rattle.hic_word.specs.Changes.{AreChanges, with}
use Rattle.hic_word.specs.Parts.{keep, slice}
use Rattle.hic_word.specs.Stands.{Lookup}
use Rattle.hic_word.proofs.callers.Slices.{IsBelow-more, slice_past}
use Rattle.hic_word.specs.InMemory.{ChangesFor}
use Rattle.seg_write.specs.Puts.{FallInto, put_at, put_each}

-- the offsets of changes ascend, from the first on
pub offset_from : (m : Lookup) (cs : List (ℕ × Word)) (L : Array) (b i : ℕ) (change : ℕ × Word) → ChangesFor 4 m cs L → AreChanges b L → slice_get cs i ≡ Some change → b ≤ change.0
offset_from m [] L b i change h a is = cc
offset_from m (c ∷ cs) [] b i change h a is = absurd h
offset_from m (c ∷ cs) (p ∷ L) b zero change h a is =
    let same : c ≡ change = cc in
    subst (λ o. b ≤ o) (sym h.0 ∙ ap (λ (d : ℕ × Word). d.0) same) a.0
offset_from m (c ∷ cs) (p ∷ L) b (suc i) change h a is =
    let low = a.0 in
    let rest = offset_from m cs L (suc p.0) i change h.2 a.3 is in
    omega (arith, low, rest)

pub offsets_rise : (m : Lookup) (cs : List (ℕ × Word)) (L : Array) (b : ℕ) → ChangesFor 4 m cs L → AreChanges b L → IsNonDecreasingBy (λ c. c.0) cs
offsets_rise m [] L b h a i j d le lt = absurd (omega (arith, lt))
offsets_rise m (c ∷ cs) [] b h a i j d le lt = absurd h
offsets_rise m (c ∷ cs) (p ∷ L) b h a zero zero d le lt = omega arith
offsets_rise m (c ∷ cs) (p ∷ L) b h a zero (suc j) d le lt =
    let same = h.0 in
    let rest = offset_from m cs L (suc p.0) j (get_or cs j d) h.2 a.3 (slice_get-get_or cs j d (omega (arith, lt))) in
    omega (arith, same, rest)
offsets_rise m (c ∷ cs) (p ∷ L) b h a (suc i) zero d le lt = absurd (omega (arith, le))
offsets_rise m (c ∷ cs) (p ∷ L) b h a (suc i) (suc j) d le lt = offsets_rise m cs L (suc p.0) h.2 a.3 i j d (omega (arith, le)) (omega (arith, lt))

-- where the first i changes lie below an offset, and the others do not
pub below_end : (m : Lookup) (cs : List (ℕ × Word)) (L : Array) (i n : ℕ) → ChangesFor 4 m cs L → ((k : ℕ) (d : ℕ × Word) → k < i → k < length cs → (get_or cs k d).0 < n) → IsBelow n (take i L)
below_end m cs L zero n h low = tt
below_end m [] [] (suc i) n h low = tt
below_end m [] (p ∷ L) (suc i) n h low = absurd h
below_end m (c ∷ cs) [] (suc i) n h low = absurd h
below_end m (c ∷ cs) (p ∷ L) (suc i) n h low = (subst (λ o. o < n) h.0 (low 0 c (omega arith) (omega arith)), below_end m cs L i n h.2 (λ k d lt len. low (suc k) d (omega (arith, lt)) (omega (arith, len))))

pub from_end : (m : Lookup) (cs : List (ℕ × Word)) (L : Array) (b i n : ℕ) → ChangesFor 4 m cs L → AreChanges b L → ((k : ℕ) (d : ℕ × Word) → i ≤ k → k < length cs → n ≤ (get_or cs k d).0) → AreChanges n (drop i L)
from_end m [] [] b zero n h a high = tt
from_end m [] (p ∷ L) b zero n h a high = absurd h
from_end m (c ∷ cs) [] b zero n h a high = absurd h
from_end m (c ∷ cs) (p ∷ L) b zero n h a high = (subst (λ o. n ≤ o) h.0 (high 0 c (omega arith) (omega arith)), a.1, a.2, a.3)
from_end m [] [] b (suc i) n h a high = tt
from_end m [] (p ∷ L) b (suc i) n h a high = absurd h
from_end m (c ∷ cs) [] b (suc i) n h a high = absurd h
from_end m (c ∷ cs) (p ∷ L) b (suc i) n h a high = from_end m cs L (suc p.0) i n h.2 a.3 (λ k d le len. high (suc k) d (omega (arith, le)) (omega (arith, len)))

-- changes cut at a place: the words and their values, the order and the bound
pub take_changes : (m : Lookup) (cs : List (ℕ × Word)) (L : Array) (i : ℕ) → ChangesFor 4 m cs L → ChangesFor 4 m (take i cs) (take i L)
take_changes m cs L zero h = tt
take_changes m [] [] (suc i) h = tt
take_changes m [] (p ∷ L) (suc i) h = absurd h
take_changes m (c ∷ cs) [] (suc i) h = absurd h
take_changes m (c ∷ cs) (p ∷ L) (suc i) h = (h.0, h.1, take_changes m cs L i h.2)

drop_changes : (m : Lookup) (cs : List (ℕ × Word)) (L : Array) (i : ℕ) → ChangesFor 4 m cs L → ChangesFor 4 m (drop i cs) (drop i L)
drop_changes m cs L zero h = h
drop_changes m [] [] (suc i) h = tt
drop_changes m [] (p ∷ L) (suc i) h = absurd h
drop_changes m (c ∷ cs) [] (suc i) h = absurd h
drop_changes m (c ∷ cs) (p ∷ L) (suc i) h = drop_changes m cs L i h.2

pub take_ascends : (b i : ℕ) (L : Array) → AreChanges b L → AreChanges b (take i L)
take_ascends b zero L h = tt
take_ascends b (suc i) [] h = tt
take_ascends b (suc i) (p ∷ L) h = (h.0, h.1, h.2, take_ascends (suc p.0) i L h.3)

drop_below : (n i : ℕ) (L : Array) → IsBelow n L → IsBelow n (drop i L)
drop_below n zero L h = h
drop_below n (suc i) [] h = tt
drop_below n (suc i) (p ∷ L) h = drop_below n i L h.1

-- of changes that fall into several arrays, those below the second array fall into the first, and the others into the others
pub fall_here : (m : Lookup) (k b n i : ℕ) (cs : List (ℕ × Word)) (L : Array) → FallInto m k b (suc n) cs L → IsBelow (b + 4 ^ k) (take i L) → FallInto m k b 1 (take i cs) (take i L)
fall_here m k b n i cs L f low = record {
  changes = take_changes m cs L i f.changes;
  ascend = take_ascends b i L f.ascend;
  below = subst (λ e. IsBelow e (take i L)) (omega arith) low;
}

pub fall_later : (m : Lookup) (k b n i : ℕ) (cs : List (ℕ × Word)) (L : Array) → FallInto m k b (suc n) cs L → AreChanges (b + 4 ^ k) (drop i L) → FallInto m k (b + 4 ^ k) n (drop i cs) (drop i L)
fall_later m k b n i cs L f high = record {
  changes = drop_changes m cs L i f.changes;
  ascend = high;
  below = subst (λ e. IsBelow e (drop i L)) (omega arith) (drop_below (b + suc n * 4 ^ k) i L f.below);
}

-- a slice has nothing of changes past it or before it
pub rises_from : (b : ℕ) (L : Array) → AreChanges b L → RisesFrom b L
rises_from b [] h = tt
rises_from b (p ∷ L) h = (h.0, rises_from (suc p.0) L h.3)

slice-take : (b s i : ℕ) (L : Array) → AreChanges (b + s) (drop i L) → slice b s (take i L) ≡ slice b s L
slice-take b s zero L h = sym (slice_past b s (b + s) L (omega arith) (rises_from (b + s) L h))
slice-take b s (suc i) [] h = refl
slice-take b s (suc i) (p ∷ L) h = ap (keep (leb b p.0 && ltb p.0 (b + s)) (p.0 - b, p.1)) (slice-take b s i L h)

slice-drop : (b s i : ℕ) (L : Array) → IsBelow b (take i L) → slice b s (drop i L) ≡ slice b s L
slice-drop b s zero L h = refl
slice-drop b s (suc i) [] h = refl
slice-drop b s (suc i) (p ∷ L) h =
    let out : leb b p.0 ≡ false = lt-leb b p.0 h.0 in
    rw out (slice-drop b s i L h.1)

-- an array takes nothing of changes past it
pub put_here : (k b i : ℕ) (A L : Array) → AreChanges (b + 4 ^ k) (drop i L) → put_at k b A (take i L) ≡ put_at k b A L
put_here k b i A L high = ap (with A) (slice-take b (4 ^ k) i L high)

-- arrays beside one another take nothing of changes before them
pub put_later : (k b i : ℕ) (As : List Array) (L : Array) → IsBelow b (take i L) → put_each k b As (drop i L) ≡ put_each k b As L
put_later k b i [] L low = refl
put_later k b i (A ∷ As) L low =
    let first : put_at k b A (drop i L) ≡ put_at k b A L = ap (with A) (slice-drop b (4 ^ k) i L low) in
    rw (first, put_later k (b + 4 ^ k) i As L (IsBelow-more b (b + 4 ^ k) (take i L) (omega arith) low)) refl

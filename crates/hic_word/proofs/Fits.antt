-- What entries of valid arrays are made of: paths, packed numbers and values are in their ranges, and lines are needed.
use Rattle.std.proofs.Common.{◌≡◌, ℕ, zero, suc, ◌+◌, ◌-◌, ◌^◌, ◌<◌, ◌≤◌, Bool, true, false, cond, ◌&&◌, ltb, leb, eqb, List, [], ◌∷◌, map, length, Option, Some, None, refl, sym, ◌∙◌, ap, subst, arith}
use Rattle.std.proofs.lemmas.Bool.{ltb-true}
use Rattle.hic_word.specs.Width.{IsWidth, greatest, longest, pack_limit}
use Rattle.hic_word.specs.Values.{ArePairs, AreValues, Array, HasNoZero, HasValues, IsArray, IsBelow, IsValue, NoPair, Number, Pair, Pairs, Ref, RisesFrom, Value, array, array-pairs, at, pairs}
use Rattle.hic_word.specs.Entries.{Entries, Entry, Inner, Leaf, LineValue, More, Named, NoEntry, Pack, Zero, entries, entries-inner, inner}
use Rattle.hic_word.specs.Parts.{keep, slice, slices, values}
use Rattle.hic_word.specs.Heights.{height}
use Rattle.hic_word.specs.Canon.{AllZero, Alone, IsMade, IsPart, Several, Sole, above, all_zero, enc, joined, lowest, small, small_more, sole, root_entry}
use Rattle.hic_word.specs.Needed.{IsBranch}
use Rattle.hic_word.proofs.Decode.{IsPlain, IsPlain-slice, length-map, length-slices, small-numbers, some_entry}
use Rattle.hic_word.specs.Lists.{AllBelow}
use Rattle.hic_word.proofs.Heights.{IsSorted, height_at_most, plain}
use Rattle.hic_word.proofs.LineHeights.{TellsHeight, TellsHeight-above, path_short}
use Rattle.hic_word.proofs.Soles.{Each, Each-slices, Each-sole, sole-none, sole-zero}
use Rattle.hic_word.proofs.Widths.{greatest_longest, two_words}

unfoldable mutual
  pub EntryFits : ℕ → Entry → Type 0
  EntryFits w Zero = Unit {0}
  EntryFits w (Pack ns) = AllBelow (pack_limit w) ns × (length ns ≡ w)
  EntryFits w (Named L p) = AllBelow w p × (length p ≤ longest w) × LineFits w L

  pub LineFits : ℕ → LineValue → Type 0
  LineFits w (Leaf vs) = (length vs ≡ w) × (small (pack_limit w) vs ≡ None) × AreValues vs
  LineFits w (Inner es) = (length (entries es) ≡ w) × IsBranch (sole (entries es)) × EntriesFit w es

  pub EntriesFit : ℕ → Entries → Type 0
  EntriesFit w NoEntry = Unit {0}
  EntriesFit w (More e es) = EntryFits w e × EntriesFit w es

pub sorted_pairs : (b : ℕ) (H : Pairs) → ArePairs b H → RisesFrom b (array H) × HasNoZero (array H) × IsBelow (2 ^ 32) (array H) × HasValues (array H)
unfolding ArePairs
sorted_pairs b NoPair h = (tt, tt, tt, tt)
sorted_pairs b (Pair o v H) h = let r = sorted_pairs (suc o) H h.4 in ((h.0, r.0), (h.2, r.1), (h.1, r.2), (h.3, r.3))

AllBelow-more : (l n : ℕ) (t : Bool) (o : Option (List ℕ)) (ns : List ℕ) → ltb n l ≡ t → ((ms : List ℕ) → o ≡ Some ms → AllBelow l ms) → small_more t n o ≡ Some ns → AllBelow l ns
AllBelow-more l n true (Some ms) ns t f e = let same : n ∷ ms ≡ ns = cc in subst (AllBelow l) same (ltb-true n l t, f ms refl)
AllBelow-more l n true None ns t f e = cc
AllBelow-more l n false o ns t f e = cc

AllBelow-small : (l : ℕ) (vs : List Value) (ns : List ℕ) → small l vs ≡ Some ns → AllBelow l ns
AllBelow-small l [] [] e = tt
AllBelow-small l [] (n ∷ ns) e = cc
AllBelow-small l (Ref H ∷ vs) ns e = cc
AllBelow-small l (Number n ∷ vs) ns e = AllBelow-more l n (ltb n l) (small l vs) ns refl (λ ms. AllBelow-small l vs ms) e

pub value_at : (A : Array) (i : ℕ) → HasValues A → IsValue (at A i)
unfolding IsValue
value_at [] i h = omega arith
value_at (p ∷ A) i h = elim (eqb p.0 i) as (λ t. IsValue (cond t p.1 (at A i))) [ true ↦ h.0 | false ↦ value_at A i h.1 ]

AreValues-values : (n i : ℕ) (A : Array) → HasValues A → AreValues (values n i A)
AreValues-values zero i A h = tt
AreValues-values (suc n) i A h = (value_at A i h, AreValues-values n (suc i) A h)

length-values : (n i : ℕ) (A : Array) → length (values n i A) ≡ n
length-values zero i A = refl
length-values (suc n) i A = ap suc (length-values n (suc i) A)

pub HasValues-slice : (b s : ℕ) (A : Array) → HasValues A → HasValues (slice b s A)
HasValues-slice b s [] z = tt
HasValues-slice b s (p ∷ A) z =
    elim (leb b p.0 && ltb p.0 (b + s)) as (λ t. HasValues (keep t (p.0 - b, p.1) (slice b s A))) [
      | true ↦ (z.0, HasValues-slice b s A z.1)
      | false ↦ HasValues-slice b s A z.1
    ]

EntryFits-lowest : (w : ℕ) (o : Option (List ℕ)) (vs : List Value) → small (pack_limit w) vs ≡ o → AreValues vs → length vs ≡ w → EntryFits w (lowest o vs)
unfolding EntryFits
EntryFits-lowest w None vs h valid long = (tt, omega arith, (long, h, valid))
EntryFits-lowest w (Some ns) vs h valid long = (AllBelow-small (pack_limit w) vs ns h, sym (length-map Number ns) ∙ ap length (small-numbers (pack_limit w) vs ns h) ∙ long)

EntriesFit-inner : (w : ℕ) (es : List Entry) → Each (EntryFits w) es → EntriesFit w (inner es)
unfolding EntriesFit
EntriesFit-inner w [] f = tt
EntriesFit-inner w (e ∷ es) f = (f.0, EntriesFit-inner w es f.1)

fits_inner : (w : ℕ) (es : List Entry) → length es ≡ w → IsBranch (sole es) → Each (EntryFits w) es → EntryFits w (Named (Inner (inner es)) [])
unfolding EntryFits
fits_inner w es long branch f = (tt, omega arith, (rw (entries-inner es) long, rw (entries-inner es) branch, EntriesFit-inner w es f))

EntryFits-joined : (w : ℕ) (s : Sole) (es : List Entry) → length es ≡ w → sole es ≡ s → all_zero es ≡ false → ((L : LineValue) (p : List ℕ) → joined s es ≡ Named L p → length p ≤ longest w)
    → Each (EntryFits w) es → EntryFits w (joined s es)
unfolding EntryFits
EntryFits-joined w AllZero es long h some short f = absurd (let none = sole-none es h in cc)
EntryFits-joined w (Alone q (Named L p)) es long h some short f =
    let (fits, place) = Each-sole (EntryFits w) es q (Named L p) f h in
    ((subst (λ n. q < n) long place, fits.0), short L (q ∷ p) refl, fits.2)
EntryFits-joined w (Alone q Zero) es long h some short f = absurd (sole-zero es q h)
EntryFits-joined w (Alone q (Pack ns)) es long h some short f = fits_inner w es long (subst IsBranch (sym h) tt) f
EntryFits-joined w Several es long h some short f = fits_inner w es long (subst IsBranch (sym h) tt) f

pub EntryFits-above : (w k : ℕ) (A : Array) → k ≤ longest w → IsPlain w (suc k) A → HasValues A → EntryFits w (above w k A)
unfolding EntryFits
EntryFits-above w zero [] low a valid = tt
EntryFits-above w zero (p ∷ A) low a valid = EntryFits-lowest w _ (values w 0 (p ∷ A)) refl (AreValues-values w 0 (p ∷ A) valid) (length-values w 0 (p ∷ A))
EntryFits-above w (suc k) [] low a valid = tt
EntryFits-above w (suc k) (p ∷ A) low a valid =
    let Xs = slices w 0 (w ^ suc k) (p ∷ A) in
    let es = map (above w k) Xs in
    let down : k ≤ longest w = omega arith in
    EntryFits-joined w (sole es) es (length-map (above w k) Xs ∙ length-slices w 0 (w ^ suc k) (p ∷ A)) refl (some_entry w k p A a)
    (λ L path e. let short = path_short (suc k) L path (subst (TellsHeight (suc k)) e (TellsHeight-above w (suc k) (p ∷ A) a)) in omega (arith, short, low))
    (Each-slices (EntryFits w) (above w k) (w ^ suc k) (p ∷ A) (λ b. EntryFits-above w k _ down (IsPlain-slice w (suc k) b (p ∷ A) a.rises a.no_zero) (HasValues-slice b (w ^ suc k) (p ∷ A) valid)) w 0)

pub sorted_of : (H : Pairs) → ArePairs 0 H → IsSorted (array H)
sorted_of H h = let r = sorted_pairs 0 H h in record { rises = r.0; no_zero = r.1; below = r.2 }

pub sorted_array : (A : Array) → IsArray A → IsSorted A
sorted_array A h = subst IsSorted (array-pairs A) (sorted_of (pairs A) h)

pub values_of_array : (A : Array) → IsArray A → HasValues A
values_of_array A h = subst HasValues (array-pairs A) (sorted_pairs 0 (pairs A) h).3

EntryFits-enc : {w : ℕ} → IsWidth w → (h : ℕ) (A : Array) → h ≤ greatest w → IsPlain w h A → HasValues A → EntryFits w (enc w h A)
unfolding EntryFits
EntryFits-enc width zero A low a valid = tt
EntryFits-enc {w} width (suc k) A low a valid = let most = greatest_longest width in EntryFits-above w k A (omega (arith, most, low)) a valid

-- the entry of a valid array
pub EntryFits-root_entry : {w : ℕ} → IsWidth w → (H : Pairs) → ArePairs 0 H → EntryFits w (root_entry w (array H))
EntryFits-root_entry {w} width H h =
    let r = sorted_pairs 0 H h in
    EntryFits-enc width (height w (array H)) (array H) (height_at_most width (array H) r.2) (plain w (array H) (two_words width) (sorted_of H h)) r.3

pub part_plain : {w h : ℕ} {A : Array} → IsPart w h A → IsPlain w h A
part_plain {w} {h} {A} a = let sorted = sorted_array A a.valid in record { rises = sorted.rises; no_zero = sorted.no_zero; below = a.below }

-- the entry of a part
pub EntryFits-part : {w h : ℕ} {A : Array} → IsWidth w → IsPart w h A → EntryFits w (enc w h A)
EntryFits-part {w} {h} {A} width a = EntryFits-enc width h A a.low (part_plain a) (values_of_array A a.valid)

pub made_fits : {w : ℕ} {L : LineValue} → IsWidth w → IsMade w L → LineFits w L
unfolding EntryFits
made_fits {w} {L} width m = let fits : EntryFits w (Named L m.path) = subst (EntryFits w) m.made (EntryFits-part width m.is_part) in fits.2

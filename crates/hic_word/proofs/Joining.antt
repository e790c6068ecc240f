-- Arrays put together to one, whose parts they are.
use Rattle.std.proofs.Common.{◌≡◌, ℕ, zero, suc, ◌+◌, ◌-◌, ◌*◌, ◌^◌, ◌≤◌, true, false, ◌&&◌, ltb, leb, List, [], ◌∷◌, ◌++◌, length, refl, sym, ◌∙◌, ap, subst, arith}
use Rattle.std.proofs.Math.Nat.{pow-succ'}
use Rattle.std.proofs.lemmas.Bool.Decides.{nat_tests}
use Rattle.hic_word.specs.Values.{Array, HasNoZero, HasValues, IsBelow, RisesFrom}
use Rattle.hic_word.specs.Parts.{keep, slice, slices}
use Rattle.hic_word.specs.JoinLaws.{AreBelow, ArraysAreParts, FitTogether, LowArraysFit}
use Rattle.hic_word.proofs.HighParts.{IsBelow-more}
use Rattle.hic_word.proofs.Ordered.{arrays_are_ordered, ordered}
use Rattle.hic_word.proofs.Slices.{RisesFrom-weaken, glue, raise, slice_past, slices_are_parts}

-- ---- a raised array

RisesFrom-raise : (b c : ℕ) (A : Array) → RisesFrom c A → RisesFrom (b + c) (raise b A)
RisesFrom-raise b c [] r = tt
RisesFrom-raise b c (p ∷ A) r = let low = r.0 in (omega (arith, low), subst (λ m. RisesFrom m (raise b A)) (omega arith) (RisesFrom-raise b (suc p.0) A r.1))

IsBelow-raise : (b s n : ℕ) (A : Array) → b + s ≤ n → IsBelow s A → IsBelow n (raise b A)
IsBelow-raise b s n [] more below = tt
IsBelow-raise b s n (p ∷ A) more below = let low = below.0 in (omega (arith, low, more), IsBelow-raise b s n A more below.1)

HasNoZero-raise : (b : ℕ) (A : Array) → HasNoZero A → HasNoZero (raise b A)
HasNoZero-raise b [] some = tt
HasNoZero-raise b (p ∷ A) some = (some.0, HasNoZero-raise b A some.1)

HasValues-raise : (b : ℕ) (A : Array) → HasValues A → HasValues (raise b A)
HasValues-raise b [] valid = tt
HasValues-raise b (p ∷ A) valid = (valid.0, HasValues-raise b A valid.1)

slice-raise : (b s : ℕ) (A : Array) → IsBelow s A → slice b s (raise b A) ≡ A
slice-raise b s [] below = refl
slice-raise b s (p ∷ A) below =
    let low = below.0 in
    let tested : (leb b (b + p.0) && ltb (b + p.0) (b + s)) ≡ true = grind (arith, nat_tests) in
    let back : b + p.0 - b ≡ p.0 = omega arith in
    rw (tested, back, slice-raise b s A below.1) refl

-- ---- one array after another

RisesFrom-append : (b c : ℕ) (A B : Array) → b ≤ c → RisesFrom b A → IsBelow c A → RisesFrom c B → RisesFrom b (A ++ B)
RisesFrom-append b c [] B less r below rest = RisesFrom-weaken c b B less rest
RisesFrom-append b c (p ∷ A) B less r below rest = (r.0, RisesFrom-append (suc p.0) c A B (let low = below.0 in omega (arith, low)) r.1 below.1 rest)

IsBelow-append : (n : ℕ) (A B : Array) → IsBelow n A → IsBelow n B → IsBelow n (A ++ B)
IsBelow-append n [] B a b = b
IsBelow-append n (p ∷ A) B a b = (a.0, IsBelow-append n A B a.1 b)

HasNoZero-append : (A B : Array) → HasNoZero A → HasNoZero B → HasNoZero (A ++ B)
HasNoZero-append [] B a b = b
HasNoZero-append (p ∷ A) B a b = (a.0, HasNoZero-append A B a.1 b)

HasValues-append : (A B : Array) → HasValues A → HasValues B → HasValues (A ++ B)
HasValues-append [] B a b = b
HasValues-append (p ∷ A) B a b = (a.0, HasValues-append A B a.1 b)

-- a slice past the first array is a slice of the other, and one before the other is a slice of the first
slice-later : (b s : ℕ) (A B : Array) → IsBelow b A → slice b s (A ++ B) ≡ slice b s B
slice-later b s [] B below = refl
slice-later b s (p ∷ A) B below =
    let low = below.0 in
    let out : (leb b p.0 && ltb p.0 (b + s)) ≡ false = grind (arith, nat_tests) in
    rw out (slice-later b s A B below.1)

slices-later : (n b s : ℕ) (A B : Array) → IsBelow b A → slices n b s (A ++ B) ≡ slices n b s B
slices-later zero b s A B below = refl
slices-later (suc n) b s A B below = λ i. slice-later b s A B below i ∷ slices-later n (b + s) s A B (IsBelow-more b (b + s) A (omega arith) below) i

slice-first : (b s : ℕ) (A B : Array) → RisesFrom (b + s) B → slice b s (A ++ B) ≡ slice b s A
slice-first b s [] B rest = slice_past b s (b + s) B (omega arith) rest
slice-first b s (p ∷ A) B rest = ap (keep (leb b p.0 && ltb p.0 (b + s)) (p.0 - b, p.1)) (slice-first b s A B rest)

-- ---- arrays that fit together

RisesFrom-glue : (b s : ℕ) (As : List Array) → FitTogether b s As → RisesFrom b (glue b s As)
RisesFrom-glue b s [] c = tt
RisesFrom-glue b s (A ∷ As) c =
    let plain : b + 0 ≡ b = omega arith in
    RisesFrom-append b (b + s) (raise b A) (glue (b + s) s As) (omega arith) (subst (λ m. RisesFrom m (raise b A)) plain (RisesFrom-raise b 0 A (ordered A c.0.0).rises))
    (IsBelow-raise b s (b + s) A (omega arith) c.0.1) (RisesFrom-glue (b + s) s As c.1)

-- they end where the last ends, and before 2^32
IsBelow-glue : (b s n : ℕ) (As : List Array) → b + length As * s ≤ n → FitTogether b s As → IsBelow n (glue b s As)
IsBelow-glue b s n [] less c = tt
IsBelow-glue b s n (A ∷ As) less c = IsBelow-append n (raise b A) (glue (b + s) s As) (IsBelow-raise b s n A (omega (arith, less)) c.0.1) (IsBelow-glue (b + s) s n As (omega (arith, less)) c.1)

raised_low : (b n : ℕ) (A : Array) → IsBelow (n - b) A → IsBelow n (raise b A)
raised_low b n [] below = tt
raised_low b n (p ∷ A) below = let low = below.0 in (omega (arith, low), raised_low b n A below.1)

offsets_low : (b s : ℕ) (As : List Array) → FitTogether b s As → IsBelow (2 ^ 32) (glue b s As)
offsets_low b s [] c = tt
offsets_low b s (A ∷ As) c = IsBelow-append (2 ^ 32) (raise b A) (glue (b + s) s As) (raised_low b (2 ^ 32) A c.0.2) (offsets_low (b + s) s As c.1)

HasNoZero-glue : (b s : ℕ) (As : List Array) → FitTogether b s As → HasNoZero (glue b s As)
HasNoZero-glue b s [] c = tt
HasNoZero-glue b s (A ∷ As) c = HasNoZero-append (raise b A) (glue (b + s) s As) (HasNoZero-raise b A (ordered A c.0.0).no_zero) (HasNoZero-glue (b + s) s As c.1)

HasValues-glue : (b s : ℕ) (As : List Array) → FitTogether b s As → HasValues (glue b s As)
HasValues-glue b s [] c = tt
HasValues-glue b s (A ∷ As) c = HasValues-append (raise b A) (glue (b + s) s As) (HasValues-raise b A (ordered A c.0.0).values) (HasValues-glue (b + s) s As c.1)

-- the slices of what is put together are the arrays
slices-glue : (b s : ℕ) (As : List Array) → FitTogether b s As → slices (length As) b s (glue b s As) ≡ As
slices-glue b s [] c = refl
slices-glue b s (A ∷ As) c =
    let rest = glue (b + s) s As in
    let first : slice b s (raise b A ++ rest) ≡ A = slice-first b s (raise b A) rest (RisesFrom-glue (b + s) s As c.1) ∙ slice-raise b s A c.0.1 in
    let others : slices (length As) (b + s) s (raise b A ++ rest) ≡ As = slices-later (length As) (b + s) s (raise b A) rest (IsBelow-raise b s (b + s) A (omega arith) c.0.1) ∙ slices-glue (b + s) s As c.1 in
    λ i. first i ∷ others i

next_power : (w h : ℕ) → 1 ≤ h → w * w ^ (h - 1) ≡ w ^ h
next_power w zero some = absurd (omega arith)
next_power w (suc k) some = let down : suc k - 1 ≡ k = omega arith in ap (λ n. w * w ^ n) down ∙ sym (pow-succ' w k)

pub arrays_are_parts : ArraysAreParts
arrays_are_parts w h As positive low many can =
    let s = w ^ (h - 1) in
    let whole = glue 0 s As in
    record {
      whole = whole;
      is_part = record {
        positive = positive;
        low = low;
        valid = (arrays_are_ordered whole).1 (record { rises = RisesFrom-glue 0 s As can; below = offsets_low 0 s As can; no_zero = HasNoZero-glue 0 s As can; values = HasValues-glue 0 s As can });
        below = IsBelow-glue 0 s (w ^ h) As (let one : w * s ≡ w ^ h = next_power w h positive in let count : length As * s ≡ w * s = ap (λ n. n * s) many in omega (arith, one, count)) can;
      };
      parts = sym (slices_are_parts w h whole) ∙ ap (λ n. slices n 0 s whole) (sym many) ∙ slices-glue 0 s As can;
    }

-- arrays that end by 2^32 fit together
fit_from : (b s : ℕ) (As : List Array) → b + length As * s ≤ 2 ^ 32 → AreBelow s As → FitTogether b s As
fit_from b s [] room all = tt
fit_from b s (A ∷ As) room all = ((all.0.0, all.0.1, IsBelow-more s (2 ^ 32 - b) A (omega (arith, room)) all.0.1), fit_from (b + s) s As (omega (arith, room)) all.1)

pub low_arrays_fit : LowArraysFit
low_arrays_fit w h As positive room many all =
    let s = w ^ (h - 1) in
    let one : w * s ≡ w ^ h = next_power w h positive in
    let count : length As * s ≡ w * s = ap (λ n. n * s) many in
    fit_from 0 s As (omega (arith, one, count, room)) all

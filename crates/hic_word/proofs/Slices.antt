-- An array is its slices, put together again; its slices are its parts.
use Rattle.std.proofs.Common.{◌≡◌, ℕ, zero, suc, ◌+◌, ◌-◌, ◌*◌, ◌^◌, ◌<◌, ◌≤◌, Bool, true, false, ◌&&◌, ltb, leb, List, [], ◌∷◌, ◌++◌, map, refl, sym, ◌∙◌, ap, subst, inl, inr, arith}
use Rattle.std.specs.List.{range_with_len}
use Rattle.std.proofs.lemmas.Bool.{cases_lt, le-leb, lt-leb, le-ltb, and_parts, leb-true, ltb-true}
use Rattle.std.proofs.lemmas.Bool.Decides.{nat_tests}
use Rattle.hic_word.specs.Values.{Array, HasNoZero, IsBelow, RisesFrom}
use Rattle.hic_word.specs.Entries.{Entry}
use Rattle.hic_word.specs.Parts.{keep, slice, slices}
use Rattle.hic_word.specs.Canon.{above, enc, joined, sole}
use Rattle.hic_word.specs.FormLaws.{PartsAreJoined, SlicesAreParts}

-- each offset raised by b
abbrev pub raise : ℕ → Array → Array
raise b [] = []
raise b (p ∷ A) = (b + p.0, p.1) ∷ raise b A

-- slices of s offsets each put together, the first from b on
abbrev pub glue : ℕ → ℕ → List Array → Array
glue b s [] = []
glue b s (X ∷ Xs) = raise b X ++ glue (b + s) s Xs

-- the array from c on
abbrev pub after : ℕ → Array → Array
after c [] = []
after c (p ∷ A) = keep (leb c p.0) p (after c A)

pub slice_past : (b s c : ℕ) (A : Array) → b + s ≤ c → RisesFrom c A → slice b s A ≡ []
slice_past b s c [] h r = refl
slice_past b s c (p ∷ A) h r =
    let past : ltb p.0 (b + s) ≡ false = le-ltb p.0 (b + s) (omega arith) in
    let in_range : (leb b p.0 && ltb p.0 (b + s)) ≡ false = grind (arith, nat_tests) in
    rw in_range (slice_past b s (suc p.0) A (omega arith) r.1)

pub after_all : (c d : ℕ) (A : Array) → c ≤ d → RisesFrom d A → after c A ≡ A
after_all c d [] h r = refl
after_all c d (p ∷ A) h r =
    let here : leb c p.0 ≡ true = le-leb c p.0 (omega arith) in
    rw (here, after_all c (suc p.0) A (omega arith) r.1) refl

pub cut : (b s c : ℕ) (A : Array) → b ≤ c → RisesFrom c A → raise b (slice b s A) ++ after (b + s) A ≡ A
cut b s c [] h r = refl
cut b s c (p ∷ A) h r =
    elim (cases_lt p.0 (b + s)) [
      | inl lt ↦
          let tested : (leb b p.0 && ltb p.0 (b + s)) ≡ true = grind (arith, nat_tests) in
          let out : leb (b + s) p.0 ≡ false = lt-leb (b + s) p.0 lt in
          let same : b + (p.0 - b) ≡ p.0 = omega arith in
          rw (tested, out, same, cut b s (suc p.0) A (omega arith) r.1) refl
      | inr ge ↦
          let none : slice b s (p ∷ A) ≡ [] = slice_past b s p.0 (p ∷ A) ge (omega arith, r.1) in
          rw none (after_all (b + s) p.0 (p ∷ A) ge (omega arith, r.1))
    ]

pub slice_after : (b s d : ℕ) (A : Array) → d ≤ b → slice b s (after d A) ≡ slice b s A
slice_after b s d [] h = refl
slice_after b s d (p ∷ A) h =
    elim (cases_lt p.0 d) [
      | inl lt ↦
          let out : leb d p.0 ≡ false = lt-leb d p.0 lt in
          let tested : (leb b p.0 && ltb p.0 (b + s)) ≡ false = grind (arith, nat_tests) in
          rw (out, tested) (slice_after b s d A h)
      | inr ge ↦
          let here : leb d p.0 ≡ true = le-leb d p.0 ge in
          rw (here, slice_after b s d A h) refl
    ]

pub slices_after : (n b s d : ℕ) (A : Array) → d ≤ b → slices n b s (after d A) ≡ slices n b s A
slices_after zero b s d A h = refl
slices_after (suc n) b s d A h = rw (slice_after b s d A h, slices_after n (b + s) s d A (omega arith)) refl

pub RisesFrom-after : (c d : ℕ) (A : Array) → RisesFrom c A → RisesFrom d (after d A)
RisesFrom-after c d [] r = tt
RisesFrom-after c d (p ∷ A) r =
    elim (cases_lt p.0 d) [
      | inl lt ↦
          let out : leb d p.0 ≡ false = lt-leb d p.0 lt in
          rw out (RisesFrom-after (suc p.0) d A r.1)
      | inr ge ↦
          let here : leb d p.0 ≡ true = le-leb d p.0 ge in
          let rest : after d A ≡ A = after_all d (suc p.0) A (omega arith) r.1 in
          rw (here, rest) (ge, r.1)
    ]

pub IsBelow-after : (n d : ℕ) (A : Array) → IsBelow n A → IsBelow n (after d A)
IsBelow-after n d [] h = tt
IsBelow-after n d (p ∷ A) h =
    elim (leb d p.0) as (λ t. IsBelow n (keep t p (after d A))) [
      | true ↦ (h.0, IsBelow-after n d A h.1)
      | false ↦ IsBelow-after n d A h.1
    ]

pub none_left : (b : ℕ) (A : Array) → RisesFrom b A → IsBelow b A → A ≡ []
none_left b [] r h = refl
none_left b (p ∷ A) r h = absurd (omega arith)

pub glue-slices : (n b s : ℕ) (A : Array) → RisesFrom b A → IsBelow (b + n * s) A → glue b s (slices n b s A) ≡ A
glue-slices zero b s A r h = sym (none_left b A r (subst (λ m. IsBelow m A) (omega arith) h))
glue-slices (suc n) b s A r h =
    let rest = after (b + s) A in
    let below : IsBelow ((b + s) + n * s) rest = IsBelow-after _ (b + s) A (subst (λ m. IsBelow m A) (omega arith) h) in
    let again : glue (b + s) s (slices n (b + s) s rest) ≡ rest = glue-slices n (b + s) s rest (RisesFrom-after b (b + s) A r) below in
    let shown : glue (b + s) s (slices n (b + s) s A) ≡ rest = ap (glue (b + s) s) (sym (slices_after n (b + s) s (b + s) A (omega arith))) ∙ again in
    rw shown (cut b s b A (omega arith) r)

pub RisesFrom-weaken : (c d : ℕ) (A : Array) → d ≤ c → RisesFrom c A → RisesFrom d A
RisesFrom-weaken c d [] h r = tt
RisesFrom-weaken c d (p ∷ A) h r = (omega arith, r.1)

-- what a kept pair's offset meets
pub kept : (b s o : ℕ) → (leb b o && ltb o (b + s)) ≡ true → (b ≤ o) × (o < b + s)
kept b s o h = let (x, y) = and_parts (leb b o) (ltb o (b + s)) h in (leb-true b o x, ltb-true o (b + s) y)

pub RisesFrom-slice : (b s c : ℕ) (A : Array) → RisesFrom c A → RisesFrom (c - b) (slice b s A)
RisesFrom-slice b s c [] r = tt
RisesFrom-slice b s c (p ∷ A) r = go (leb b p.0 && ltb p.0 (b + s)) refl (RisesFrom-slice b s (suc p.0) A r.1)
  where
    go : (t : Bool) → (leb b p.0 && ltb p.0 (b + s)) ≡ t → RisesFrom (suc p.0 - b) (slice b s A) → RisesFrom (c - b) (keep t (p.0 - b, p.1) (slice b s A))
    go true e rest = let (le, lt) = kept b s p.0 e in (omega arith, subst (λ m. RisesFrom m (slice b s A)) (omega arith) rest)
    go false e rest = RisesFrom-weaken (suc p.0 - b) (c - b) (slice b s A) (omega arith) rest

pub IsBelow-slice : (b s : ℕ) (A : Array) → IsBelow s (slice b s A)
IsBelow-slice b s [] = tt
IsBelow-slice b s (p ∷ A) = go (leb b p.0 && ltb p.0 (b + s)) refl (IsBelow-slice b s A)
  where
    go : (t : Bool) → (leb b p.0 && ltb p.0 (b + s)) ≡ t → IsBelow s (slice b s A) → IsBelow s (keep t (p.0 - b, p.1) (slice b s A))
    go true e rest = let (le, lt) = kept b s p.0 e in (omega arith, rest)
    go false e rest = rest

pub HasNoZero-slice : (b s : ℕ) (A : Array) → HasNoZero A → HasNoZero (slice b s A)
HasNoZero-slice b s [] z = tt
HasNoZero-slice b s (p ∷ A) z =
    elim (leb b p.0 && ltb p.0 (b + s)) as (λ t. HasNoZero (keep t (p.0 - b, p.1) (slice b s A))) [
      | true ↦ (z.0, HasNoZero-slice b s A z.1)
      | false ↦ HasNoZero-slice b s A z.1
    ]

slices_are : (n q s : ℕ) (A : Array) → slices n (q * s) s A ≡ map (λ q. slice (q * s) s A) (range_with_len q n)
slices_are zero q s A = refl
slices_are (suc n) q s A =
    let next : q * s + s ≡ (q + 1) * s = omega arith in
    ap (λ Xs. slice (q * s) s A ∷ Xs) (ap (λ b. slices n b s A) next ∙ slices_are n (q + 1) s A)

-- the slices of an array of height h are its parts
pub slices_are_parts : SlicesAreParts
slices_are_parts w h A = let first : 0 ≡ 0 * w ^ (h - 1) = omega arith in ap (λ b. slices w b (w ^ (h - 1)) A) first ∙ slices_are w 0 (w ^ (h - 1)) A

map-map : (f : ℕ → Array) (g : Array → Entry) (qs : List ℕ) → map g (map f qs) ≡ map (λ q. g (f q)) qs
map-map f g [] = refl
map-map f g (q ∷ qs) = ap (λ es. g (f q) ∷ es) (map-map f g qs)

-- the entries of the slices of w ^ h offsets each
entries_at : ℕ → ℕ → Array → List Entry
entries_at w h A = map (λ q. enc w h (slice (q * w ^ h) (w ^ h) A)) (range_with_len 0 w)

pub parts_are_joined : PartsAreJoined
unfolding entries_at
parts_are_joined w zero A high some = absurd (omega arith)
parts_are_joined w (suc zero) A high some = absurd (omega arith)
parts_are_joined w (suc (suc k)) [] high some = absurd (some refl)
parts_are_joined w (suc (suc k)) (p ∷ A) high some =
    let s = w ^ suc k in
    let first : 0 ≡ 0 * s = omega arith in
    let parts : slices w 0 s (p ∷ A) ≡ map (λ q. slice (q * s) s (p ∷ A)) (range_with_len 0 w) = ap (λ b. slices w b s (p ∷ A)) first ∙ slices_are w 0 s (p ∷ A) in
    let same : map (above w k) (slices w 0 s (p ∷ A)) ≡ entries_at w (suc k) (p ∷ A) = ap (map (above w k)) parts ∙ map-map (λ q. slice (q * s) s (p ∷ A)) (above w k) (range_with_len 0 w) in
    let down : suc k ≡ suc (suc k) - 1 = omega arith in
    ap (λ es. joined (sole es) es) (same ∙ ap (λ h. entries_at w h (p ∷ A)) down)

pub slice_high : (b s : ℕ) (A : Array) → IsBelow b A → slice b s A ≡ []
slice_high b s [] h = refl
slice_high b s (p ∷ A) h = let out : leb b p.0 ≡ false = lt-leb b p.0 h.0 in rw out (slice_high b s A h.1)

-- an array below s is its own first slice
pub slice_whole : (s : ℕ) (A : Array) → IsBelow s A → slice 0 s A ≡ A
slice_whole s [] h = refl
slice_whole s (p ∷ A) h =
    let tested : (leb 0 p.0 && ltb p.0 (0 + s)) ≡ true = grind (arith, nat_tests) in
    let low : p.0 - 0 ≡ p.0 = omega arith in
    rw (tested, low, slice_whole s A h.1) refl

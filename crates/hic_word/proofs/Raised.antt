-- A part as the first part of a higher one, and the parts of a part.
use Rattle.std.proofs.Common.{◌≡◌, ℕ, zero, suc, ◌+◌, ◌-◌, ◌*◌, ◌^◌, ◌≤◌, true, [], ◌∷◌, map, replicate, refl, sym, ◌∙◌, ap, subst, arith}
use Rattle.hic_word.specs.Values.{Array, IsBelow}
use Rattle.hic_word.specs.Entries.{Entry, Inner, Named, Pack, Zero, inner}
use Rattle.hic_word.specs.Parts.{slice, slices}
use Rattle.hic_word.specs.Canon.{above, all_zero, alone, enc, joined, sole}
use Rattle.hic_word.specs.FormLaws.{EntriesAreRaised, PacksAreSmall, PartsAreParts, PathsArePlaces, raised}
use Rattle.hic_word.proofs.Decode.{IsPlain, decode, decode-above}
use Rattle.hic_word.proofs.Fits.{EntryFits, EntryFits-part, part_plain}
use Rattle.hic_word.proofs.HighParts.{IsBelow-more}
use Rattle.hic_word.proofs.SliceLaws.{slices_are_arrays}
use Rattle.hic_word.proofs.Slices.{slice_high, slice_whole}
use Rattle.hic_word.proofs.Widths.{two_words}

-- slices past an array are empty
slices-past : (n b s : ℕ) (A : Array) → IsBelow b A → slices n b s A ≡ replicate n []
slices-past zero b s A h = refl
slices-past (suc n) b s A h = rw (slice_high b s A h, slices-past n (b + s) s A (IsBelow-more b (b + s) A (omega arith) h)) refl

above-empty : (w k : ℕ) → above w k [] ≡ Zero
above-empty w zero = refl
above-empty w (suc k) = refl

map-replicate : (w k n : ℕ) → map (above w k) (replicate n []) ≡ replicate n Zero
map-replicate w k zero = refl
map-replicate w k (suc n) = rw (above-empty w k, map-replicate w k n) refl

all_zero-replicate : (n : ℕ) → all_zero (replicate n Zero) ≡ true
all_zero-replicate zero = refl
all_zero-replicate (suc n) = all_zero-replicate n

joined_first : (n : ℕ) (e : Entry) → (e ≡ Zero → ⊥) → joined (sole (e ∷ replicate n Zero)) (e ∷ replicate n Zero) ≡ raised (suc n) e
joined_first n Zero some = absurd (some refl)
joined_first n (Pack ns) some = ap (λ t. joined (alone t (Pack ns)) (Pack ns ∷ replicate n Zero)) (all_zero-replicate n) ∙ ap (λ k. Named (Inner (inner (Pack ns ∷ replicate k Zero))) []) (let less : n ≡ suc n - 1 = omega arith in less)
joined_first n (Named L p) some = ap (λ t. joined (alone t (Named L p)) (Named L p ∷ replicate n Zero)) (all_zero-replicate n)

-- a part whose entry is `Zero` is empty
zero_empty : (w k : ℕ) (A : Array) → IsPlain w (suc k) A → above w k A ≡ Zero → A ≡ []
zero_empty w k A a e = sym (decode-above w k A a.rises a.no_zero a.below) ∙ ap (decode w k) e ∙ go k
  where
    go : (j : ℕ) → decode w j Zero ≡ []
    go zero = refl
    go (suc j) = refl

above-raised : (n k : ℕ) (A : Array) → IsPlain (suc n) (suc k) A → above (suc n) (suc k) A ≡ raised (suc n) (above (suc n) k A)
above-raised n k [] a = sym (ap (raised (suc n)) (above-empty (suc n) k))
above-raised n k (p ∷ A) a =
    let w = suc n in
    let s = w ^ suc k in
    let first : slice 0 s (p ∷ A) ≡ p ∷ A = slice_whole s (p ∷ A) a.below in
    let rest : slices n (0 + s) s (p ∷ A) ≡ replicate n [] = slices-past n (0 + s) s (p ∷ A) (IsBelow-more s (0 + s) (p ∷ A) (omega arith) a.below) in
    let es : map (above w k) (slices w 0 s (p ∷ A)) ≡ above w k (p ∷ A) ∷ replicate n Zero =
    ap (λ X. above w k X ∷ map (above w k) (slices n (0 + s) s (p ∷ A))) first
    ∙ ap (λ Xs. above w k (p ∷ A) ∷ map (above w k) Xs) rest
    ∙ ap (λ ds. above w k (p ∷ A) ∷ ds) (map-replicate w k n) in
    ap (λ ds. joined (sole ds) ds) es ∙ joined_first n (above w k (p ∷ A)) (λ z. let e = zero_empty w k (p ∷ A) a z in cc)

enc-raised : (w h : ℕ) (A : Array) → 1 ≤ w → 1 ≤ h → IsPlain w h A → enc w (suc h) A ≡ raised w (enc w h A)
enc-raised zero h A some high a = absurd (omega (arith, some))
enc-raised (suc n) zero A some high a = absurd (omega (arith, high))
enc-raised (suc n) (suc k) A some high a = above-raised n k A a

pub entries_are_raised : EntriesAreRaised
entries_are_raised w h A width a = let two = two_words width in enc-raised w h A (omega (arith, two)) a.positive (part_plain a)

pub paths_are_places : PathsArePlaces
unfolding EntryFits
paths_are_places w h A L p width a e = let fits : EntryFits w (Named L p) = subst (EntryFits w) e (EntryFits-part width a) in fits.0

pub packs_are_small : PacksAreSmall
unfolding EntryFits
packs_are_small w h A ns width a e = let fits : EntryFits w (Pack ns) = subst (EntryFits w) e (EntryFits-part width a) in (fits.1, fits.0)

pub parts_are_parts : PartsAreParts
parts_are_parts w h q A high a =
    let s = slices_are_arrays (q * w ^ (h - 1)) (w ^ (h - 1)) A a.valid in
    record {
      is_part = record {
        positive = omega (arith, high);
        low = let low = a.low in omega (arith, low);
        valid = s.valid;
        below = s.below;
      };
      values = s.values;
    }

-- No part has more levels of lines than its height, and a quarter of a part with a line of its own has fewer than the part.
use Rattle.std.proofs.Common.{◌≡◌, ℕ, zero, suc, ◌+◌, ◌-◌, ◌^◌, ◌<◌, ◌≤◌, List, [], ◌∷◌, map, get_or, Option, Some, None, refl, sym, ◌∙◌, ap, arith}
use Rattle.hic_word.specs.Values.{Array, Value}
use Rattle.hic_word.specs.Entries.{Entry, Inner, Leaf, LineValue, Named, Pack, Zero, inner}
use Rattle.hic_word.specs.Parts.{part, slice, slices, values}
use Rattle.hic_word.specs.Canon.{AllZero, Alone, Several, Sole, above, enc, joined, lowest, sole}
use Rattle.hic_word.specs.FormLaws.{part_entries}
use Rattle.hic_word.proofs.callers.Forms.{Each, Each-slices, Each-sole}
use Rattle.seg_canon.proofs.Opening.{some_entry}
use Rattle.seg_canon.proofs.Pieces.{enc-empty, enc_joined, entry_at}
use Rattle.seg_read.specs.Levels.{levels, levels_in, levels_of}

pub levels-empty : (h : ℕ) → levels (enc 4 h []) ≡ 0
levels-empty h = ap levels (enc-empty 4 h)

-- a line value has a level
pub levels_some : (L : LineValue) → 1 ≤ levels_of L
levels_some (Leaf vs) = omega arith
levels_some (Inner es) = omega arith

-- no entry of a line has more levels than all of them
levels_each : (n : ℕ) (es : List Entry) → Each (λ e. levels e ≤ n) es → levels_in (inner es) ≤ n
levels_each n [] f = omega arith
levels_each n (e ∷ es) f = let first = f.0 in let rest = levels_each n es f.1 in omega (arith, first, rest)

entry_levels : (es : List Entry) (q : ℕ) → levels (get_or es q Zero) ≤ levels_in (inner es)
entry_levels [] q = omega arith
entry_levels (e ∷ es) zero = omega arith
entry_levels (e ∷ es) (suc q) = let rest = entry_levels es q in omega (arith, rest)

-- a part has no more levels than its height
inner_low : (n : ℕ) (es : List Entry) → Each (λ e. levels e ≤ n) es → levels (Named (Inner (inner es)) []) ≤ suc n
inner_low n es f = let low = levels_each n es f in omega (arith, low)

joined_low : (n : ℕ) (s : Sole) (es : List Entry) → Each (λ e. levels e ≤ n) es → sole es ≡ s → levels (joined s es) ≤ suc n
joined_low n AllZero es f h = inner_low n es f
joined_low n (Alone q (Named L p)) es f h = let low = (Each-sole (λ e. levels e ≤ n) es q (Named L p) f h).0 in omega (arith, low)
joined_low n (Alone q Zero) es f h = inner_low n es f
joined_low n (Alone q (Pack ns)) es f h = inner_low n es f
joined_low n Several es f h = inner_low n es f

lowest_low : (o : Option (List ℕ)) (vs : List Value) → levels (lowest o vs) ≤ 1
lowest_low None vs = omega arith
lowest_low (Some ns) vs = omega arith

above_low : (w k : ℕ) (A : Array) → levels (above w k A) ≤ suc k
above_low w zero [] = omega arith
above_low w zero (p ∷ A) = lowest_low _ (values w 0 (p ∷ A))
above_low w (suc k) [] = omega arith
above_low w (suc k) (p ∷ A) =
    let s = w ^ suc k in
    joined_low (suc k) _ (map (above w k) (slices w 0 s (p ∷ A))) (Each-slices (λ e. levels e ≤ suc k) (above w k) s (p ∷ A) (λ b. above_low w k (slice b s (p ∷ A))) w 0) refl

pub levels_low : (h : ℕ) (A : Array) → levels (enc 4 h A) ≤ h
levels_low zero A = omega arith
levels_low (suc k) A = above_low 4 k A

-- the levels of a part's own line
joined_levels : (s : Sole) (es : List Entry) (L : LineValue) → joined s es ≡ Named L [] → levels_of L ≡ 1 + levels_in (inner es)
joined_levels AllZero es L e = let same : L ≡ Inner (inner es) = cc in ap levels_of same
joined_levels (Alone q (Named K p)) es L e = cc
joined_levels (Alone q Zero) es L e = let same : L ≡ Inner (inner es) = cc in ap levels_of same
joined_levels (Alone q (Pack ns)) es L e = let same : L ≡ Inner (inner es) = cc in ap levels_of same
joined_levels Several es L e = let same : L ≡ Inner (inner es) = cc in ap levels_of same

-- each quarter of a part with a line of its own has fewer levels than the line
pub quarter_low : (h : ℕ) (A : Array) (L : LineValue) (q : ℕ) → 2 ≤ h → enc 4 h A ≡ Named L [] → q < 4 → levels (enc 4 (h - 1) (part 4 A h q)) + 1 ≤ levels_of L
quarter_low h A L q high made low =
    let es = part_entries 4 h A in
    let all = joined_levels (sole es) es L (sym (enc_joined 4 h A high (some_entry 4 h A (Named L []) made (λ z. cc))) ∙ made) in
    let this = entry_levels es q in
    let same = ap levels (entry_at h A q low) in
    omega (arith, all, this, same)

-- The least height of a part that changes fall into.
use Rattle.std.proofs.Common.{◌≡◌, ℕ, zero, suc, ◌+◌, ◌*◌, ◌-◌, ◌/◌, ◌^◌, ◌<◌, ◌≤◌, List, [], ◌∷◌, length, max, Some, sym, ◌∙◌, ap, subst, inl, inr, arith}
use Rattle.std.proofs.Math.Pow.{pow_mono}
use Rattle.std.proofs.lemmas.Bool.{cases_lt}
use Rattle.std.proofs.Math.Nat.{div-eq_of_lt, mod-lt}
use Rattle.std.proofs.lemmas.Nat.{div_below, leading_length, mul-pow, pow-add, pow_pos, shr_split, xor_shr}
use Rattle.std.specs.List.{slice_get}
use Rattle.std.specs.Int.Count.{count_leading_zeros}
use lib.Bits.{bit_xor, xor_assoc, xor_self, xor_zero_r}
use Rattle.hic_word.specs.declared.Word.{Word}
use Rattle.hic_word.specs.Values.{Array, IsBelow}
use Rattle.hic_word.specs.Changes.{AreChanges}
use Rattle.hic_word.specs.Stands.{Lookup}
use Rattle.hic_word.specs.InMemory.{ChangesFor}
use Rattle.seg_write.specs.Puts.{IsLast}

-- a power of 4 is an even power of 2
four_power : (h : ℕ) → 4 ^ h ≡ 2 ^ (h + h)
four_power h = mul-pow 2 2 h ∙ sym (pow-add 2 h h)

pub shift_power : (h : ℕ) → 4 ^ h ≡ 2 ^ (2 * h)
shift_power h = four_power h ∙ ap (λ n. 2 ^ n) (let twice : h + h ≡ 2 * h = omega arith in twice)

-- the height that the leading zeros of an offset tell
abbrev Told : ℕ → ℕ → Type 0
Told n r = r ≡ max (16 - count_leading_zeros 32 n / 2) 1

pub told_within : (n r : ℕ) → n < 2 ^ 32 → Told n r → n < 4 ^ r
told_within n r low is =
    let (m, sum, below, least) = leading_length 32 n low in
    let more : 2 ^ m ≤ 2 ^ (r + r) = pow_mono (omega (arith, sum, is)) in
    subst (λ k. n < k) (sym (four_power r)) (omega (arith, below, more))

-- an offset of m bits lies in no part that covers fewer
few_bits : (n m k : ℕ) → 2 ^ m ≤ 2 * n + 1 → n < 2 ^ k → m ≤ k
few_bits n m k least below = elim (cases_lt k m) [
  | inl more ↦
      let high : 2 ^ suc k ≤ 2 ^ m = pow_mono (omega (arith, more)) in
      let twice : 2 ^ suc k ≡ 2 * 2 ^ k = omega arith in
      absurd (omega (arith, least, below, high, twice))
  | inr few ↦ few
]

pub told_least : (n r h : ℕ) → n < 2 ^ 32 → Told n r → 1 ≤ h → n < 4 ^ h → r ≤ h
told_least n r h low is some within =
    let (m, sum, below, least) = leading_length 32 n low in
    let few : m ≤ h + h = few_bits n m (h + h) least (subst (λ k. n < k) (four_power h) within) in
    omega (arith, sum, is, few, some)

-- two offsets that differ only in bits below a part's height lie in one part of it
same_bits : (a b : ℕ) → bit_xor a b ≡ 0 → a ≡ b
same_bits a b none = sym (xor_zero_r a) ∙ ap (bit_xor a) (sym none) ∙ sym (xor_assoc a a b) ∙ ap (λ n. bit_xor n b) (xor_self a)

pub one_part : (a b h : ℕ) → bit_xor a b < 4 ^ h → a / 4 ^ h ≡ b / 4 ^ h
one_part a b h low =
    let above : bit_xor a b / 4 ^ h ≡ bit_xor (a / 4 ^ h) (b / 4 ^ h) = subst (λ s. bit_xor a b / s ≡ bit_xor (a / s) (b / s)) (sym (shift_power h)) (xor_shr a b (2 * h)) in
    same_bits (a / 4 ^ h) (b / 4 ^ h) (sym above ∙ div-eq_of_lt low)

-- changes whose last offset lies below an end all lie there
pub last_below : (m : Lookup) (cs : List (ℕ × Word)) (L : Array) (b n i : ℕ) (last : ℕ × Word) → ChangesFor 4 m cs L → AreChanges b L → length cs ≤ suc i → slice_get cs i ≡ Some last → last.0 < n → IsBelow n L
last_below m [] [] b n i last h a end is low = tt
last_below m [] (p ∷ L) b n i last h a end is low = absurd h
last_below m (c ∷ cs) [] b n i last h a end is low = absurd h
last_below m (c ∷ []) (p ∷ []) b n zero last h a end is low =
    let same : c ≡ last = cc in
    (subst (λ o. o < n) (sym (ap (λ (d : ℕ × Word). d.0) same) ∙ h.0) low, tt)
last_below m (c ∷ []) (p ∷ []) b n (suc i) last h a end is low = cc
last_below m (c ∷ []) (p ∷ q ∷ L) b n i last h a end is low = absurd h.2
last_below m (c ∷ e ∷ cs) (p ∷ []) b n i last h a end is low = absurd h.2
last_below m (c ∷ e ∷ cs) (p ∷ q ∷ L) b n zero last h a end is low = absurd (omega (arith, end))
last_below m (c ∷ e ∷ cs) (p ∷ q ∷ L) b n (suc i) last h a end is low =
    let rest = last_below m (e ∷ cs) (q ∷ L) (suc p.0) n i last h.2 a.3 (omega (arith, end)) is low in
    let next = a.3.0 in
    let below = rest.0 in
    (omega (arith, next, below), rest)

-- changes whose first offset lies from a start on all lie there
pub first_from : (m : Lookup) (cs : List (ℕ × Word)) (L : Array) (b n : ℕ) (first : ℕ × Word) → ChangesFor 4 m cs L → AreChanges b L → slice_get cs 0 ≡ Some first → n ≤ first.0 → AreChanges n L
first_from m [] [] b n first h a is low = tt
first_from m [] (p ∷ L) b n first h a is low = absurd h
first_from m (c ∷ cs) [] b n first h a is low = absurd h
first_from m (c ∷ cs) (p ∷ L) b n first h a is low =
    let same : c ≡ first = cc in
    (subst (λ o. n ≤ o) (sym (ap (λ (d : ℕ × Word). d.0) same) ∙ h.0) low, a.1, a.2, a.3)

-- no change has an offset from the end on
pub offset_below : (m : Lookup) (cs : List (ℕ × Word)) (L : Array) (n i : ℕ) (change : ℕ × Word) → ChangesFor 4 m cs L → IsBelow n L → slice_get cs i ≡ Some change → change.0 < n
offset_below m [] L n i change h low is = cc
offset_below m (c ∷ cs) [] n i change h low is = absurd h
offset_below m (c ∷ cs) (p ∷ L) n zero change h low is =
    let same : c ≡ change = cc in
    subst (λ o. o < n) (sym h.0 ∙ ap (λ (d : ℕ × Word). d.0) same) low.0
offset_below m (c ∷ cs) (p ∷ L) n (suc i) change h low is = offset_below m cs L n i change h.2 low.1 is

-- the multiple of 4^h that a number reaches
pub reached : (x h : ℕ) → (x / 2 ^ (2 * h) * 4 ^ h ≤ x) × (x < x / 2 ^ (2 * h) * 4 ^ h + 4 ^ h)
reached x h =
    let split = shr_split x (2 * h) in
    let rest = mod-lt x (pow_pos (2 * h)) in
    subst (λ s. (x / 2 ^ (2 * h) * s ≤ x) × (x < x / 2 ^ (2 * h) * s + s)) (sym (shift_power h)) (omega (arith, split), omega (arith, split, rest))

-- of the parts of height k beside one another in one of height h, that of an offset
pub one_of_all : (x k h : ℕ) → k < h → x < 4 ^ h → x / 2 ^ (2 * k) < 4 ^ (h - k)
one_of_all x k h less low =
    let all : h - k + k ≡ h = omega (arith, less) in
    let power : 4 ^ (h - k) * 4 ^ k ≡ 4 ^ h = sym (pow-add 4 (h - k) k) ∙ ap (λ n. 4 ^ n) all in
    div_below x (2 ^ (2 * k)) (4 ^ (h - k)) (pow_pos (2 * k)) (subst (λ s. x < 4 ^ (h - k) * s) (shift_power k) (omega (arith, power, low)))

pub one_of_four : (x h : ℕ) → x < 4 * 4 ^ h → x / 2 ^ (2 * h) < 4
one_of_four x h low = div_below x (2 ^ (2 * h)) 4 (pow_pos (2 * h)) (subst (λ s. x < 4 * s) (shift_power h) low)

-- what is so of the change at the end is so of the last
pub last_is : (P : (ℕ × Word) → Type 0) (cs : List (ℕ × Word)) (i : ℕ) (last : ℕ × Word) → length cs ≤ suc i → slice_get cs i ≡ Some last → P last → IsLast cs P
last_is P [] i last end is p = cc
last_is P (c ∷ []) zero last end is p = subst P (let same : last ≡ c = cc in same) p
last_is P (c ∷ []) (suc i) last end is p = cc
last_is P (c ∷ d ∷ cs) zero last end is p = absurd (omega (arith, end))
last_is P (c ∷ d ∷ cs) (suc i) last end is p = last_is P (d ∷ cs) i last (omega (arith, end)) is p

-- a height below the least one does not reach the offset
pub past_least : (n h r : ℕ) → (n < 4 ^ h → r ≤ h) → h < r → 4 ^ h ≤ n
past_least n h r least less = elim (cases_lt n (4 ^ h)) [ inl within ↦ absurd (let low = least within in omega (arith, low, less)) | inr past ↦ past ]

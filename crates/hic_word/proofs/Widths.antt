-- What holds at each width.
use Rattle.std.proofs.Common.{◌≡◌, ℕ, suc, ◌^◌, ◌≤◌, true, ltb, refl, sym, subst, inl, inr, arith}
use Rattle.hic_word.specs.Width.{IsWidth, greatest, longest, pack_limit}

pub by_width : (P : ℕ → Type 0) → P 2 → P 4 → P 8 → {w : ℕ} → IsWidth w → P w
by_width P two four eight (inl e) = subst P (sym e) two
by_width P two four eight (inr (inl e)) = subst P (sym e) four
by_width P two four eight (inr (inr e)) = subst P (sym e) eight

pub two_words : {w : ℕ} → IsWidth w → 2 ≤ w
two_words = by_width (λ w. 2 ≤ w) (omega arith) (omega arith) (omega arith)

pub greatest_low : {w : ℕ} → IsWidth w → greatest w ≤ 32
greatest_low = by_width (λ w. greatest w ≤ 32) (omega arith) (omega arith) (omega arith)

pub greatest_positive : {w : ℕ} → IsWidth w → 1 ≤ greatest w
greatest_positive = by_width (λ w. 1 ≤ greatest w) (omega arith) (omega arith) (omega arith)

pub greatest_longest : {w : ℕ} → IsWidth w → greatest w ≡ suc (longest w)
greatest_longest = by_width (λ w. greatest w ≡ suc (longest w)) refl refl refl

-- the greatest height has room for each offset
pub greatest_room : {w : ℕ} → IsWidth w → 2 ^ 32 ≤ w ^ greatest w
greatest_room = by_width (λ w. 2 ^ 32 ≤ w ^ greatest w) (omega arith) (omega arith) (omega arith)

-- a longest path takes 35 bits at most
pub path_room : {w : ℕ} → IsWidth w → w ^ longest w ≤ 2 ^ 35
path_room = by_width (λ w. w ^ longest w ≤ 2 ^ 35) (omega arith) (omega arith) (omega arith)

-- 0 is small
pub zero_small : {w : ℕ} → IsWidth w → ltb 0 (pack_limit w) ≡ true
zero_small = by_width (λ w. ltb 0 (pack_limit w) ≡ true) refl refl refl

-- a path's length takes 5 bits at most
pub short_lengths : {w : ℕ} → IsWidth w → longest w ≤ 31
short_lengths = by_width (λ w. longest w ≤ 31) (omega arith) (omega arith) (omega arith)

-- packed numbers fill a word
pub pack_room : {w : ℕ} → IsWidth w → pack_limit w ^ w ≡ 2 ^ 64
pack_room = by_width (λ w. pack_limit w ^ w ≡ 2 ^ 64) refl refl refl

pub some_small : {w : ℕ} → IsWidth w → 1 ≤ pack_limit w
some_small = by_width (λ w. 1 ≤ pack_limit w) (omega arith) (omega arith) (omega arith)

-- The way down to the first word of a piece.
use Rattle.std.proofs.Common.{◌≡◌, ◌≢◌, ℕ, suc, ◌+◌, ◌-◌, ◌*◌, ◌/◌, ◌^◌, ◌<◌, ◌≤◌, Bool, true, false, List, [], ◌∷◌, length, set, Option, Some, None, IfNone, IsSome, refl, sym, ◌∙◌, ap, subst, inl, inr, arith}
use Rattle.std.proofs.Math.Nat.{mul-div_cancel, mul-le-mul}
use Rattle.std.proofs.lemmas.Bool.{cases_lt}
use Rattle.hic_word.specs.declared.Word.{Word}
use Rattle.hic_word.specs.Values.{Array, at}
use Rattle.hic_word.specs.Stands.{Lookup, WordFor}
use Rattle.hic_word.proofs.callers.Forms.{at_high}
use Rattle.seg_canon.specs.Parts.{PartFor, whole_part}
use Rattle.seg_canon.proofs.Filling.{zero_word}
use Rattle.seg_canon.proofs.Opening.{part_zero}
use Rattle.seg_read.specs.Founds.{AreZero, word_in}
use Rattle.seg_read.proofs.Entering.{part_top}
use Rattle.seg_read.proofs.Seeking.{blank_empty}
use Rattle.seg_cursor.specs.Pieces.{AreReached, ArePieces, IsBlank, IsJoined, OpensTo, PieceFor, piece}
use Rattle.seg_cursor.specs.Trails.{AreKept, FirstFor, OnWay}
use Rattle.seg_cursor.proofs.Cutting.{joined_from, no_word, number_up, piece_at, power_some, power_up, quarters_blank}
use Rattle.seg_cursor.proofs.Walking.{kept_more, kept_moved, word_reached}

-- the number of the piece that begins at an offset
pub number_at : (n h : ℕ) → n * 4 ^ h / 4 ^ h ≡ n
number_at n h = mul-div_cancel n (power_some h)

number_above : (n k p : ℕ) → p < 4 → (4 * n + p) * 4 ^ k / 4 ^ suc k ≡ n
number_above n k p low = number_up ((4 * n + p) * 4 ^ k) k ∙ ap (λ i. i / 4) (number_at (4 * n + p) k) ∙ (let down : (4 * n + p) / 4 ≡ n = omega (arith, low) in down)

joined_first : (n k p : ℕ) → p < 4 → IsJoined (suc k) (n * 4 ^ suc k) ((4 * n + p) * 4 ^ k)
joined_first n k p low = number_at n (suc k) ∙ sym (number_above n k p low)

-- a piece whose words are all 0 is empty
pub all_zero : {m : Lookup} {x : Word} (words : List Word) (A : Array) (k n : ℕ) → PartFor 4 m (whole_part (suc k) x) (piece (suc k) A n) → ArePieces m k words A n → AreZero words 0 4 → x ≡ no_word
all_zero {m} {x} words A k n f pieces zeros =
    let B = piece (suc k) A n in
    let a = part_top f in
    let up = power_up k in
    let from : (n * 4 + 0) * 4 ^ k ≡ n * 4 ^ suc k = (let all : (n * 4 + 0) * 4 ^ k ≡ n * (4 ^ k * 4) = grind arith in all) ∙ ap (λ s. n * s) (sym up) in
    let end : (n * 4 + 4) * 4 ^ k ≡ n * 4 ^ suc k + 4 ^ suc k = (let all : (n * 4 + 4) * 4 ^ k ≡ n * (4 ^ k * 4) + 4 ^ k * 4 = grind arith in all) ∙ ap (λ s. n * s + s) (sym up) in
    let blank = quarters_blank m words A k n 0 4 pieces zeros (omega arith) in
    part_zero f (blank_empty (suc k) B a (λ j positive. elim (cases_lt j (4 ^ suc k)) [
      | inl low ↦ piece_at (suc k) A n j low ∙ blank (n * 4 ^ suc k + j) (omega (arith, from)) (omega (arith, end, low))
      | inr high ↦ at_high (4 ^ suc k) j B a.below high
    ]))

pub is_open : (m : Lookup) (x : Word) (r : Bool) (words : List Word) (k : ℕ) (A : Array) (n : ℕ) → PartFor 4 m (whole_part (suc k) x) (piece (suc k) A n) → x ≢ no_word → OpensTo m r words k A n → r ≡ true
is_open m x true words k A n f some o = refl
is_open m x false words k A n f some o = absurd (some (part_zero f o))

pub place_there : (o : Option ℕ) (words : List Word) → IfNone o (AreZero words 0 4) → (AreZero words 0 4 → ⊥) → IsSome o
place_there (Some place) words none some = refl
place_there None words none some = absurd (some none)

module _ {m : Lookup} {root x : Word} {A : Array} {lines : List (List Word)} (n h : ℕ) (words : List Word)
    (w : OnWay m root A lines (n * 4 ^ h) h x) (more : 0 < h)
    (opens : (k : ℕ) (B : Array) (c : ℕ) → PieceFor m (suc k) x B c → OpensTo m true words k B c)
    (reaches : (top : Word) → AreReached m top (x ∷ []) → AreReached m top words) where
  up : h ≡ suc (h - 1)
  up = omega (arith, more)

  above : OnWay m root A lines (n * 4 ^ suc (h - 1)) (suc (h - 1)) x
  above = subst (λ j. OnWay m root A lines (n * 4 ^ j) j x) up w

  stands : PartFor 4 m (whole_part (suc (h - 1)) x) (piece (suc (h - 1)) A n)
  stands = subst (λ c. PartFor 4 m (whole_part (suc (h - 1)) x) (piece (suc (h - 1)) A c)) (number_at n (suc (h - 1))) above.stands

  pieces : ArePieces m (h - 1) words A n
  pieces = (opens (h - 1) A n stands).1

  pub first_way : (p : ℕ) → p < 4 → h - 1 < length lines → (y : Word) → y ≡ word_in words p → OnWay m root A (set lines (h - 1) words) ((4 * n + p) * 4 ^ (h - 1)) (h - 1) y
  first_way p low long y is =
      let i = (4 * n + p) * 4 ^ (h - 1) in
      let joined = joined_first n (h - 1) p low in
      let number : n * 4 + p ≡ i / 4 ^ (h - 1) = (let swap : n * 4 + p ≡ 4 * n + p = omega arith in swap) ∙ sym (number_at (4 * n + p) (h - 1)) in
      let reached = reaches root above.reached in
      subst (OnWay m root A (set lines (h - 1) words) i (h - 1)) (sym is) (record {
        stands = subst (PieceFor m (h - 1) (word_in words p) A) number (pieces p low);
        reached = word_reached m root words p reached;
        kept = kept_more m root A lines (h - 1) i words long (kept_moved m root A lines (n * 4 ^ suc (h - 1)) i (suc (h - 1)) (suc (h - 1)) above.kept (omega arith) (joined_from (n * 4 ^ suc (h - 1)) i (suc (h - 1)) (suc (suc (h - 1))) joined (omega arith)))
            (record { pieces = subst (ArePieces m (h - 1) words A) (sym (number_above n (h - 1) p low)) pieces; reached = reached });
      })

  pub first_blank : (p : ℕ) → p ≤ 4 → AreZero words 0 p → IsBlank A (n * 4 ^ h) ((4 * n + p) * 4 ^ (h - 1))
  first_blank p low zeros =
      let from : (n * 4 + 0) * 4 ^ (h - 1) ≡ n * 4 ^ h = (let all : (n * 4 + 0) * 4 ^ (h - 1) ≡ n * (4 ^ (h - 1) * 4) = grind arith in all) ∙ ap (λ s. n * s) (sym (power_up (h - 1)) ∙ ap (λ j. 4 ^ j) (sym up)) in
      let end : (n * 4 + p) * 4 ^ (h - 1) ≡ (4 * n + p) * 4 ^ (h - 1) = ap (λ s. s * 4 ^ (h - 1)) (let swap : n * 4 + p ≡ 4 * n + p = omega arith in swap) in
      subst (λ a. IsBlank A a ((4 * n + p) * 4 ^ (h - 1))) from (subst (IsBlank A ((n * 4 + 0) * 4 ^ (h - 1))) end (quarters_blank m words A (h - 1) n 0 p pieces zeros low))

-- numbers that fit
pub first_fits : (n h p : ℕ) → 0 < h → p < 4 → n * 4 ^ h + 4 ^ h ≤ 2 ^ 32 → (4 * n + p) * 4 ^ (h - 1) + 4 ^ (h - 1) ≤ 2 ^ 32
first_fits n h p more low fits =
    let up : h ≡ suc (h - 1) = omega (arith, more) in
    let s = 4 ^ (h - 1) in
    let size : 4 ^ h ≡ s * 4 = ap (λ j. 4 ^ j) up ∙ power_up (h - 1) in
    let most : (4 * n + p + 1) * s ≤ (4 * n + 4) * s = mul-le-mul (omega (arith, low)) (omega arith) in
    let left : (4 * n + p + 1) * s ≡ (4 * n + p) * s + s = grind arith in
    let right : (4 * n + 4) * s ≡ n * (s * 4) + s * 4 = grind arith in
    let all : n * 4 ^ h + 4 ^ h ≡ n * (s * 4) + s * 4 = ap (λ j. n * j + j) size in
    omega (arith, fits, most, left, right, all)

pub fits_number : (n h : ℕ) → n * 4 ^ h + 4 ^ h ≤ 2 ^ 32 → n < 2 ^ 32
fits_number n h fits =
    let some = power_some h in
    let most : n * 1 ≤ n * 4 ^ h = mul-le-mul (omega arith) some in
    omega (arith, fits, some, most)

pub first_within : (n h p H N : ℕ) → 0 < h → h ≤ H → p < 4 → n * 4 ^ h / 4 ^ H ≡ N → (4 * n + p) * 4 ^ (h - 1) / 4 ^ H ≡ N
first_within n h p H N more high low within =
    let up : h ≡ suc (h - 1) = omega (arith, more) in
    let joined = joined_first n (h - 1) p low in
    sym (joined_from (n * 4 ^ suc (h - 1)) ((4 * n + p) * 4 ^ (h - 1)) (suc (h - 1)) H joined (omega (arith, high, more))) ∙ ap (λ j. n * 4 ^ j / 4 ^ H) (sym up) ∙ within

-- at the word
pub first_found : {m : Lookup} {root x : Word} {A : Array} {lines : List (List Word)} (n h H N : ℕ) → OnWay m root A lines (n * 4 ^ h) h x → h ≡ 0 → x ≢ no_word → n * 4 ^ h / 4 ^ H ≡ N → IsBlank A (N * 4 ^ H) (n * 4 ^ h) → FirstFor m root A lines H N (n, x)
first_found {m} {root} {x} {A} {lines} n h H N w done some within blank =
    let same : n * 4 ^ h ≡ n = ap (λ j. n * 4 ^ j) done ∙ (let one : n * 1 ≡ n = omega arith in one) in
    let v = subst (λ j. OnWay m root A lines (n * 4 ^ j) j x) done w in
    let number : n * 4 ^ 0 / 4 ^ 0 ≡ n = number_at n 0 in
    let here : WordFor 4 m x (at A n) = subst (λ j. WordFor 4 m x (at A j)) number v.stands in (
      here,
      record { within = ap (λ i. i / 4 ^ H) (sym same) ∙ within; some = λ e. some (zero_word here e); blank = subst (IsBlank A (N * 4 ^ H)) same blank },
      subst (AreKept m root A lines 0) (let one : n * 4 ^ 0 ≡ n = omega arith in one) v.kept,
    )

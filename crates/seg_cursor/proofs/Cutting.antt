-- Pieces of arrays, by their numbers.
use Rattle.std.proofs.Common.{◌≡◌, ◌≢◌, ℕ, zero, suc, ◌+◌, ◌-◌, ◌*◌, ◌/◌, ◌%◌, ◌^◌, ◌<◌, ◌≤◌, false, ◌&&◌, leb, ltb, List, [], ◌∷◌, eqb, cond, refl, sym, ◌∙◌, ap, subst, inl, inr, arith}
use Rattle.std.proofs.Math.Nat.{div-div-eq-div-mul, div-eq_of_lt, div-mul-le_self, div-one, one-le-pow, pow-succ', mul-le-mul}
use Rattle.std.proofs.lemmas.Bool.{cases_lt}
use Rattle.std.proofs.lemmas.Bool.Decides.{nat_tests}
use Rattle.std.proofs.lemmas.Nat.{div-add-mod', div-mul-add, div_below, le-div, mod_below}
use Rattle.hic_word.specs.declared.Word.{Word}
use Rattle.hic_word.specs.declared.Kind.TheVariants.{Num}
use Rattle.hic_word.specs.Values.{Array, IsBelow, Number, at}
use Rattle.hic_word.specs.Changes.{value_after}
use Rattle.hic_word.specs.Canon.{IsPart}
use Rattle.hic_word.specs.Parts.{part, slice}
use Rattle.hic_word.specs.Stands.{Lookup, word_of}
use Rattle.hic_word.proofs.callers.Forms.{at_first, at_high, not_zero, part_plain}
use Rattle.hic_word.proofs.callers.Slices.{slice_whole, slices_nest, value_after-slice}
use Rattle.seg_canon.proofs.Filling.{zero_value}
use Rattle.seg_canon.proofs.Opening.{part_empty}
use Rattle.seg_read.specs.Founds.{AreZero, word_in}
use Rattle.seg_cursor.specs.Pieces.{ArePieces, HasValue, IsBlank, IsJoined, PieceFor, piece}
use Rattle.seg_cursor.specs.Trails.{IsEnded}

abbrev pub no_word : Word
no_word = word_of Num 0 0

-- ---- numbers of pieces

pub power_up : (h : ℕ) → 4 ^ suc h ≡ 4 ^ h * 4
power_up h = pow-succ' 4 h ∙ (let swap : 4 * 4 ^ h ≡ 4 ^ h * 4 = omega arith in swap)

pub power_some : (h : ℕ) → 1 ≤ 4 ^ h
power_some h = one-le-pow h 4 (omega arith)

-- the number of the piece above
pub number_up : (i h : ℕ) → i / 4 ^ suc h ≡ i / 4 ^ h / 4
number_up i h = ap (λ n. i / n) (power_up h) ∙ sym (div-div-eq-div-mul i (4 ^ h) 4)

-- a number by that above and the place in it
pub number_digit : (i h : ℕ) → i / 4 ^ suc h * 4 + i / 4 ^ h % 4 ≡ i / 4 ^ h
number_digit i h = let up = number_up i h in omega (arith, up)

pub joined_up : (a b h : ℕ) → IsJoined h a b → IsJoined (suc h) a b
joined_up a b h e = number_up a h ∙ ap (λ n. n / 4) e ∙ sym (number_up b h)

pub joined_above : (a b h d : ℕ) → IsJoined h a b → IsJoined (d + h) a b
joined_above a b h zero e = subst (λ n. IsJoined n a b) (let same : h ≡ 0 + h = omega arith in same) e
joined_above a b h (suc d) e = subst (λ n. IsJoined n a b) (let same : suc (d + h) ≡ suc d + h = omega arith in same) (joined_up a b (d + h) (joined_above a b h d e))

pub joined_from : (a b h k : ℕ) → IsJoined h a b → h ≤ k → IsJoined k a b
joined_from a b h k e less = subst (λ n. IsJoined n a b) (let same : k - h + h ≡ k = omega (arith, less) in same) (joined_above a b h (k - h) e)

-- ---- what pieces have

value_at_all : (A : Array) (i : ℕ) → value_after A i (Number 0) ≡ at A i
value_at_all [] i = refl
value_at_all (p ∷ A) i = ap (cond (eqb p.0 i) p.1) (value_at_all A i)

pub piece_at : (h : ℕ) (A : Array) (n o : ℕ) → o < 4 ^ h → at (piece h A n) o ≡ at A (n * 4 ^ h + o)
piece_at h A n o low = sym (value_at_all (piece h A n) o) ∙ value_after-slice (n * 4 ^ h) (4 ^ h) A o (Number 0) low ∙ value_at_all A (n * 4 ^ h + o)

-- quarter q of a piece
pub piece_in : (h : ℕ) (A : Array) (n q : ℕ) → q < 4 → part 4 (piece (suc h) A n) (suc h) q ≡ piece h A (n * 4 + q)
piece_in h A n q low =
    let down : suc h - 1 ≡ h = omega arith in
    let up = power_up h in
    let fits : q * 4 ^ h + 4 ^ h ≤ 4 ^ suc h = let most : suc q * 4 ^ h ≤ 4 * 4 ^ h = mul-le-mul low (omega arith) in let all : suc q * 4 ^ h ≡ q * 4 ^ h + 4 ^ h = grind arith in omega (arith, most, all, up) in
    let start : n * 4 ^ suc h + q * 4 ^ h ≡ (n * 4 + q) * 4 ^ h = ap (λ s. n * s + q * 4 ^ h) up ∙ grind arith in
    ap (λ k. slice (q * 4 ^ k) (4 ^ k) (piece (suc h) A n)) down ∙ slices_nest (n * 4 ^ suc h) (4 ^ suc h) (q * 4 ^ h) (4 ^ h) A fits ∙ ap (λ b. slice b (4 ^ h) A) start

-- the offset within its piece
pub offset_low : (i h : ℕ) → i % 4 ^ h < 4 ^ h
offset_low i h = mod_below i (4 ^ h) (power_some h)

pub value_in : (h i : ℕ) (A : Array) → at (piece h A (i / 4 ^ h)) (i % 4 ^ h) ≡ at A i
value_in h i A = piece_at h A (i / 4 ^ h) (i % 4 ^ h) (offset_low i h) ∙ ap (at A) (div-add-mod' i (4 ^ h))

-- an empty piece
pub empty_value : (h i n : ℕ) (A : Array) → piece h A n ≡ [] → i / 4 ^ h ≡ n → at A i ≡ Number 0
empty_value h i n A none e = sym (value_in h i A) ∙ ap (λ (B : Array). at B (i % 4 ^ h)) (ap (piece h A) e ∙ none)

-- an array as its first piece, and the pieces past it
pub piece_whole : (h i : ℕ) (A : Array) → IsBelow (4 ^ h) A → i < 4 ^ h → piece h A (i / 4 ^ h) ≡ A
piece_whole h i A below low =
    let first : i / 4 ^ h * 4 ^ h ≡ 0 = let none : i / 4 ^ h ≡ 0 = div-eq_of_lt low in ap (λ n. n * 4 ^ h) none ∙ (let nothing : 0 * 4 ^ h ≡ 0 = omega arith in nothing) in
    ap (λ b. slice b (4 ^ h) A) first ∙ slice_whole (4 ^ h) A below

slice_past_all : (n b s : ℕ) (A : Array) → IsBelow n A → n ≤ b → slice b s A ≡ []
slice_past_all n b s [] below past = refl
slice_past_all n b s (p ∷ A) below past =
    let low = below.0 in
    let out : (leb b p.0 && ltb p.0 (b + s)) ≡ false = grind (arith, nat_tests) in
    rw out (slice_past_all n b s A below.1 past)

pub piece_past : (h i : ℕ) (A : Array) → IsBelow (4 ^ h) A → 4 ^ h ≤ i → piece h A (i / 4 ^ h) ≡ []
piece_past h i A below past =
    let one : 1 ≤ i / 4 ^ h = le-div 1 i (4 ^ h) (power_some h) (let same : 1 * 4 ^ h ≡ 4 ^ h = omega arith in omega (arith, same, past)) in
    let most : 1 * 4 ^ h ≤ i / 4 ^ h * 4 ^ h = mul-le-mul one (omega arith) in
    slice_past_all (4 ^ h) (i / 4 ^ h * 4 ^ h) (4 ^ h) A below (omega (arith, most))

-- a piece that is not empty has a word
pub has_value : (h : ℕ) (A : Array) (n : ℕ) → IsPart 4 h (piece h A n) → piece h A n ≢ [] → HasValue A h n
has_value h A n a some = go (piece h A n) refl
  where
    go : (B : Array) → piece h A n ≡ B → HasValue A h n
    go [] e = absurd (some e)
    go (p ∷ B) e =
        let b = subst (IsPart 4 h) e a in
        let low : p.0 < 4 ^ h = b.below.0 in
        let here : at A (n * 4 ^ h + p.0) ≡ p.1 = sym (piece_at h A n p.0 low) ∙ ap (λ (C : Array). at C p.0) e ∙ at_first p B in
        (n * 4 ^ h + p.0, div-mul-add n (4 ^ h) p.0 low, λ z. not_zero p.1 ((part_plain b).no_zero.0) (sym here ∙ z))

-- ---- blanks

pub blank_joined : (A : Array) (a b c : ℕ) → IsBlank A a b → IsBlank A b c → IsBlank A a c
blank_joined A a b c low high j from less = elim (cases_lt j b) [
  | inl l ↦ low j from l
  | inr h ↦ high j h less
]

pub blank_to_all : (n a : ℕ) (A : Array) → IsBelow n A → (b : ℕ) → n ≤ b → IsBlank A a b → (j : ℕ) → a ≤ j → at A j ≡ Number 0
blank_to_all n a A below b most blank j from = elim (cases_lt j b) [
  | inl less ↦ blank j from less
  | inr high ↦ at_high n j A below (omega (arith, most, high))
]

-- a word 0 stands for no word
pub zero_piece : (m : Lookup) (x : Word) (A : Array) (h n j : ℕ) → PieceFor m h x A n → x ≡ no_word → j / 4 ^ h ≡ n → at A j ≡ Number 0
zero_piece m x A zero n j f is e = ap (at A) (sym (div-one j) ∙ e) ∙ zero_value f is
zero_piece m x A (suc k) n j f is e = empty_value (suc k) j n A (part_empty f is) e

-- quarters that are 0, from place a up to but not including b
pub quarters_blank : (m : Lookup) (words : List Word) (A : Array) (h n a b : ℕ) → ArePieces m h words A n → AreZero words a b → b ≤ 4 → IsBlank A ((n * 4 + a) * 4 ^ h) ((n * 4 + b) * 4 ^ h)
quarters_blank m words A h n a b f zeros most j from less =
    let r = j / 4 ^ h in
    let least : n * 4 + a ≤ r = le-div (n * 4 + a) j (4 ^ h) (power_some h) from in
    let below : r < n * 4 + b = div_below j (4 ^ h) (n * 4 + b) (power_some h) less in
    let q = r - n * 4 in
    let number : r ≡ n * 4 + q = omega (arith, least) in
    zero_piece m (word_in words q) A h (n * 4 + q) j (f q (omega (arith, below, most))) (zeros q (omega (arith, least)) (omega (arith, below, least))) number

-- the rest of a piece above the piece of offset i, up to a place in it
pub blank_on : (m : Lookup) (words : List Word) (A : Array) (h i b : ℕ) → ArePieces m h words A (i / 4 ^ suc h) → AreZero words (i / 4 ^ h % 4 + 1) b → b ≤ 4
    → IsBlank A i ((i / 4 ^ h + 1) * 4 ^ h) → IsBlank A i ((i / 4 ^ suc h * 4 + b) * 4 ^ h)
blank_on m words A h i b f zeros most before =
    let up = number_digit i h in
    let here : i / 4 ^ suc h * 4 + (i / 4 ^ h % 4 + 1) ≡ i / 4 ^ h + 1 = omega (arith, up) in
    blank_joined A i ((i / 4 ^ h + 1) * 4 ^ h) ((i / 4 ^ suc h * 4 + b) * 4 ^ h) before
    (subst (λ n. IsBlank A (n * 4 ^ h) ((i / 4 ^ suc h * 4 + b) * 4 ^ h)) here (quarters_blank m words A h (i / 4 ^ suc h) (i / 4 ^ h % 4 + 1) b f zeros most))

pub blank_up : (m : Lookup) (words : List Word) (A : Array) (h i : ℕ) → ArePieces m h words A (i / 4 ^ suc h) → AreZero words (i / 4 ^ h % 4 + 1) 4
    → IsBlank A i ((i / 4 ^ h + 1) * 4 ^ h) → IsBlank A i ((i / 4 ^ suc h + 1) * 4 ^ suc h)
blank_up m words A h i f zeros before =
    let end : (i / 4 ^ suc h * 4 + 4) * 4 ^ h ≡ (i / 4 ^ suc h + 1) * 4 ^ suc h = (let all : (i / 4 ^ suc h * 4 + 4) * 4 ^ h ≡ (i / 4 ^ suc h + 1) * (4 ^ h * 4) = grind arith in all) ∙ ap (λ s. (i / 4 ^ suc h + 1) * s) (sym (power_up h)) in
    subst (IsBlank A i) end (blank_on m words A h i 4 f zeros (omega arith) before)

-- the piece of offset i, from i on, where the way to i ends at its height
pub blank_ended : (A : Array) (end i : ℕ) → IsEnded A end i → at A i ≡ Number 0 → IsBlank A i ((i / 4 ^ end + 1) * 4 ^ end)
blank_ended A end i (inl lowest) none j from less = ap (at A) (let all : (i / 4 ^ end + 1) * 4 ^ end ≡ i + 1 = ap (λ h. (i / 4 ^ h + 1) * 4 ^ h) lowest ∙ (let one : (i / 1 + 1) * 1 ≡ i + 1 = let same = div-one i in omega (arith, same) in one) in omega (arith, from, less, all)) ∙ none
blank_ended A end i (inr empty) none j from less =
    let least : i / 4 ^ end * 4 ^ end ≤ i = div-mul-le_self i (4 ^ end) in
    let low : i / 4 ^ end ≤ j / 4 ^ end = le-div (i / 4 ^ end) j (4 ^ end) (power_some end) (omega (arith, least, from)) in
    let below : j / 4 ^ end < i / 4 ^ end + 1 = div_below j (4 ^ end) (i / 4 ^ end + 1) (power_some end) less in
    empty_value end j (i / 4 ^ end) A empty (omega (arith, low, below))

-- The lines on the way down from a piece to an offset.
use Rattle.std.proofs.Common.{◌≡◌, ℕ, zero, suc, ◌+◌, ◌-◌, ◌/◌, ◌%◌, ◌^◌, ◌<◌, ◌≤◌, List, refl, sym, ◌∙◌, ap, subst, inl, inr, arith}
use Rattle.std.proofs.Math.Nat.{mod-eq_of_lt}
use Rattle.std.proofs.lemmas.Bool.{cases_lt}
use Rattle.hic_word.specs.declared.Word.{Word}
use Rattle.hic_word.specs.Values.{Array, IsBelow}
use Rattle.hic_word.specs.Parts.{part}
use Rattle.hic_word.specs.Canon.{enc}
use Rattle.hic_word.specs.InMemory.{RootIn}
use Rattle.hic_word.specs.Memory.{Memory}
use Rattle.hic_word.specs.Stands.{Lookup}
use Rattle.seg_read.specs.Levels.{lines_on_way, lines_to, own_line}
use Rattle.seg_read.proofs.Descending.{digit_place, digit_rest}
use Rattle.seg_read.proofs.Ways.{lines_to-empty, lines_within}
use Rattle.seg_cursor.specs.Pieces.{PieceFor, piece}
use Rattle.seg_cursor.specs.Trails.{OnWay, lines_below}
use Rattle.seg_cursor.proofs.Cutting.{number_digit, piece_in, piece_past, piece_whole}
use Rattle.seg_cursor.proofs.Walking.{opened_stands, root_room}

-- a piece's own line, and those in the quarter of the offset
lines_turn : (i k : ℕ) (A : Array) → lines_below A i (suc k) ≡ own_line (enc 4 (suc k) (piece (suc k) A (i / 4 ^ suc k))) + lines_below A i k
lines_turn i k A =
    let B = piece (suc k) A (i / 4 ^ suc k) in
    let q = i / 4 ^ k % 4 in
    let quarter : part 4 B (suc k) (i % 4 ^ suc k / 4 ^ k) ≡ piece k A (i / 4 ^ k) = ap (part 4 B (suc k)) (digit_place i k) ∙ piece_in k A (i / 4 ^ suc k) q (omega arith) ∙ ap (piece k A) (number_digit i k) in
    ap (λ (C : Array). own_line (enc 4 (suc k) B) + lines_to 4 k C (i % 4 ^ suc k % 4 ^ k)) quarter ∙ ap (λ r. own_line (enc 4 (suc k) B) + lines_to 4 k (piece k A (i / 4 ^ k)) r) (digit_rest i k)

-- a piece that is opened takes its own line's look
pub opened_line : {m : Lookup} {root x : Word} {lines : List (List Word)} (i : ℕ) (A : Array) (h old new : ℕ) → 0 < h → OnWay m root A lines i h x
    → ((k : ℕ) (B : Array) (n : ℕ) → PieceFor m (suc k) x B n → new ≤ old + own_line (enc 4 (suc k) (piece (suc k) B n))) → new + lines_below A i (h - 1) ≤ old + lines_below A i h
opened_line i A h old new some w line =
    let up : suc (h - 1) ≡ h = omega (arith, some) in
    let own = line (h - 1) A (i / 4 ^ suc (h - 1)) (opened_stands h w some) in
    let turn = lines_turn i (h - 1) A in
    let same = ap (lines_below A i) up in
    omega (arith, own, turn, same)

-- no more than from a higher piece
lines_up : (i k d : ℕ) (A : Array) → lines_below A i k ≤ lines_below A i (d + k)
lines_up i k zero A = let same = ap (lines_below A i) (let e : k ≡ 0 + k = omega arith in e) in omega (arith, same)
lines_up i k (suc d) A =
    let same = ap (lines_below A i) (let e : suc (d + k) ≡ suc d + k = omega arith in e) in
    let turn = lines_turn i (d + k) A in
    let rest = lines_up i k d A in
    omega (arith, same, turn, rest)

lines_high : (i k h : ℕ) (A : Array) → k ≤ h → lines_below A i k ≤ lines_below A i h
lines_high i k h A low = subst (λ n. lines_below A i k ≤ lines_below A i n) (let e : h - k + k ≡ h = omega (arith, low) in e) (lines_up i k (h - k) A)

-- nor than from the root
lines_root : {m : Memory} {root : Word} {A : Array} (i h : ℕ) → RootIn m root A → root.height ≡ h → lines_below A i h ≤ lines_on_way 4 A i
lines_root i zero r e = omega arith
lines_root {root = root} {A = A} i (suc k) r e =
    let some : 1 ≤ root.height = omega (arith, e) in
    let room : IsBelow (4 ^ suc k) A = subst (λ h. IsBelow (4 ^ h) A) e (root_room r some) in
    elim (cases_lt i (4 ^ suc k)) [
      | inl low ↦
          let whole : lines_below A i (suc k) ≡ lines_to 4 (suc k) A i = ap (λ (B : Array). lines_to 4 (suc k) B (i % 4 ^ suc k)) (piece_whole (suc k) i A room low) ∙ ap (lines_to 4 (suc k) A) (mod-eq_of_lt low) in
          let all = lines_within i (suc k) r (omega arith) (sym e) low in
          omega (arith, whole, all)
      | inr past ↦
          let none : lines_below A i (suc k) ≡ 0 = ap (λ (B : Array). lines_to 4 (suc k) B (i % 4 ^ suc k)) (piece_past (suc k) i A room past) ∙ lines_to-empty (suc k) (i % 4 ^ suc k) in
          omega (arith, none)
    ]

pub lines_all : {m : Memory} {root : Word} {A : Array} (i h : ℕ) → RootIn m root A → h ≤ root.height → lines_below A i h ≤ lines_on_way 4 A i
lines_all {root = root} {A = A} i h r low =
    let up = lines_high i h root.height A low in
    let all = lines_root i root.height r refl in
    omega (arith, up, all)

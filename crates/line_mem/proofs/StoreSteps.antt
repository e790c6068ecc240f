-- What the calls of a plain memory keep.
use Rattle.std.proofs.Common.{◌≡◌, ℕ, suc, zero, ◌+◌, ◌-◌, ◌≤◌, Bool, true, false, cond, eqb, List, [], ◌∷◌, length, Option, Some, None, refl, sym, ◌∙◌, ap, subst, arith, unwrap_or, ◌++◌, take, reverse, drop}
use Rattle.std.specs.Ordering.{nat_cmp}
use Rattle.std.proofs.lemmas.Bool.{eqb-true}
use Rattle.std.specs.Prelude.{count_by, is_some, MatchOption, ◌==◌, if◌then◌else◌}
use Rattle.std.specs.FinMap as map
use Rattle.std.specs.FinMap.{FinMap}
use Rattle.line_mem.specs.declared.slots.Slot.{Slot}
use Rattle.line_mem.specs.Places.{lines_of, counts_of, is_dead, is_taken, count_of, dead_at, line_of, memory_of, plain_layout}
use Rattle.line_mem.specs.Sound.{one_if, one_if_dead}
use Rattle.line_mem.specs.PlacesSound.{keys-slots}
use Rattle.hic_word.specs.Lists.{times}
use Rattle.hic_word.specs.MemorySteps.{Interns, IsNew, with_hold, with_line, without_holds, without_line}
use Rattle.hic_word.specs.Names.{names_in}
use Rattle.hic_word.specs.declared.Word.{Word}
use Rattle.line_mem.proofs.DeadIds.{dead_after, dead_held, dead_popped, dead_sunk}
use Rattle.line_mem.proofs.SlotCounts.{last_counted, still_counted}

-- a slice that is written back whole
pub whole : {X : Type 0} (n : ℕ) (new old : List X) → n ≡ length old → length new ≡ length old → take n (new ++ drop (length new) old) ≡ new
whole n new old e f = go n new (e ∙ sym f)
  where
    go : (k : ℕ) (xs : List _) → k ≡ length xs → take k (xs ++ drop (length new) old) ≡ xs
    go zero [] h = refl
    go zero (x ∷ xs) h = absurd (omega arith)
    go (suc k) [] h = absurd (omega arith)
    go (suc k) (x ∷ xs) h = ap (λ ys. x ∷ ys) (go k xs (omega arith))

count_is : (m : FinMap nat_cmp ℕ) (k n : ℕ) → map.get m k ≡ Some n → 1 ≤ unwrap_or (map.get m k) 0 → 1 ≤ n
count_is m k n e h = subst (λ (o : Option ℕ). 1 ≤ unwrap_or o 0) e h

-- a hold more makes no line dead or live
pub hold_dead : {w : ℕ} (old a b new : List (Slot w)) (id at n : ℕ) → a ≡ old → b ≡ old → at ≡ id → map.get (counts_of a) at ≡ Some n → 1 ≤ unwrap_or (map.get (counts_of old) id) 0 → counts_of new ≡ map.insert (counts_of b) at (n + 1) → (q : ℕ) → dead_at new q ≡ dead_at old q
hold_dead old a b new id at n e f g h live c q =
    let there : map.get (counts_of old) id ≡ Some n = sym (ap (λ s. map.get (counts_of s) at) e ∙ ap (map.get (counts_of old)) g) ∙ h in
    let put : counts_of new ≡ map.insert (counts_of old) id (n + 1) = c ∙ ap (λ s. map.insert (counts_of s) at (n + 1)) f ∙ ap (λ k. map.insert (counts_of old) k (n + 1)) g in
    dead_held (counts_of old) (counts_of new) id n (n + 1) q put there (count_is (counts_of old) id n there live) (omega arith)

-- a hold less that leaves some
pub sink_same : {w : ℕ} (old a b new : List (Slot w)) (id at n : ℕ) → a ≡ old → b ≡ old → at ≡ id → map.get (counts_of a) at ≡ Some n → 1 ≤ unwrap_or (map.get (counts_of old) id) 0 → (n ≡ 1 → ⊥) → counts_of new ≡ map.insert (counts_of b) at (n - 1) → (q : ℕ) → dead_at new q ≡ dead_at old q
sink_same old a b new id at n e f g h live many c q =
    let there : map.get (counts_of old) id ≡ Some n = sym (ap (λ s. map.get (counts_of s) at) e ∙ ap (map.get (counts_of old)) g) ∙ h in
    let put : counts_of new ≡ map.insert (counts_of old) id (n - 1) = c ∙ ap (λ s. map.insert (counts_of s) at (n - 1)) f ∙ ap (λ k. map.insert (counts_of old) k (n - 1)) g in
    let pos = count_is (counts_of old) id n there live in
    dead_held (counts_of old) (counts_of new) id n (n - 1) q put there pos (omega arith)

-- a hold less that leaves none
pub sink_last : {w : ℕ} (old a b new : List (Slot w)) (id at n k : ℕ) (dead : List ℕ) → a ≡ old → b ≡ old → at ≡ id → k ≡ id → map.get (counts_of a) at ≡ Some n → n ≡ 1 → counts_of new ≡ map.insert (counts_of b) at (n - 1) → ((q : ℕ) → times q dead ≡ dead_at old q) → (q : ℕ) → times q (dead ++ k ∷ []) ≡ dead_at new q
sink_last old a b new id at n k dead e f g j h one c d q =
    let there : map.get (counts_of old) id ≡ Some n = sym (ap (λ s. map.get (counts_of s) at) e ∙ ap (map.get (counts_of old)) g) ∙ h in
    let zero_left : n - 1 ≡ 0 = omega arith in
    let put : counts_of new ≡ map.insert (counts_of old) id 0 = c ∙ ap (λ x. map.insert (counts_of b) at x) zero_left ∙ ap (λ s. map.insert (counts_of s) at 0) f ∙ ap (λ i. map.insert (counts_of old) i 0) g in
    ap (λ x. times q (dead ++ x ∷ [])) j ∙ dead_sunk (counts_of old) (counts_of new) id n dead put there (omega arith) d q

counted_there : {w : ℕ} (old b : List (Slot w)) (id at n : ℕ) → b ≡ old → at ≡ id → 1 ≤ unwrap_or (map.get (counts_of old) id) 0 → 1 ≤ count_of b at
counted_there old b id at n f g live = subst (λ s. 1 ≤ count_of s at) (sym f) (subst (λ k. 1 ≤ count_of old k) (sym g) live)

pub hold_count : {w : ℕ} (old b new : List (Slot w)) (id at n : ℕ) → b ≡ old → at ≡ id → 1 ≤ unwrap_or (map.get (counts_of old) id) 0 → count_by is_dead new + one_if (count_of b at == 0) ≡ count_by is_dead b + one_if (n + 1 == 0) → count_by is_dead old ≡ count_by is_dead new
hold_count old b new id at n f g live e = sym (still_counted _ _ (count_of b at) (n + 1) e (counted_there old b id at n f g live) (omega arith) ∙ ap (count_by is_dead) f)

pub sink_same_count : {w : ℕ} (old a b new : List (Slot w)) (id at n : ℕ) → a ≡ old → b ≡ old → at ≡ id → map.get (counts_of a) at ≡ Some n → 1 ≤ unwrap_or (map.get (counts_of old) id) 0 → (n ≡ 1 → ⊥) → count_by is_dead new + one_if (count_of b at == 0) ≡ count_by is_dead b + one_if (n - 1 == 0) → count_by is_dead old ≡ count_by is_dead new
sink_same_count old a b new id at n e f g h live many d =
    let there : map.get (counts_of old) id ≡ Some n = sym (ap (λ s. map.get (counts_of s) at) e ∙ ap (map.get (counts_of old)) g) ∙ h in
    let pos = count_is (counts_of old) id n there live in
    sym (still_counted _ _ (count_of b at) (n - 1) d (counted_there old b id at n f g live) (omega arith) ∙ ap (count_by is_dead) f)

pub sink_last_count : {w : ℕ} (old b new : List (Slot w)) (id at n : ℕ) → b ≡ old → at ≡ id → 1 ≤ unwrap_or (map.get (counts_of old) id) 0 → n ≡ 1 → count_by is_dead new + one_if (count_of b at == 0) ≡ count_by is_dead b + one_if (n - 1 == 0) → count_by is_dead new ≡ count_by is_dead old + 1
sink_last_count old b new id at n f g live one d =
    last_counted _ _ (count_of b at) (n - 1) d (counted_there old b id at n f g live) (omega arith) ∙ ap (λ s. count_by is_dead s + 1) f

pub chosen : {X : Type 0} (t : Bool) (x y r : X) → t ≡ true → r ≡ if t then x else y → r ≡ x
chosen true x y r e f = f
chosen false x y r e f = cc

-- a new line
vacant_count : {w : ℕ} (ss : List (Slot w)) (k : ℕ) → line_of ss k ≡ None → map.get (counts_of ss) k ≡ None
vacant_count ss k e = go (map.get (counts_of ss) k) (sym (keys-slots ss k) ∙ ap is_some e)
  where
    go : (o : Option ℕ) → is_some o ≡ false → o ≡ None
    go None f = refl
    go (Some n) f = cc

pub put_each : {w : ℕ} (old a b new : List (Slot w)) (k : ℕ) → a ≡ old → b ≡ old → line_of a k ≡ None → counts_of new ≡ map.insert (counts_of b) k 1 → (q : ℕ) → dead_at new q ≡ dead_at old q
put_each old a b new k e f n c q =
    ap (λ m. one_if_dead (map.get m q)) (c ∙ ap (λ s. map.insert (counts_of s) k 1) f) ∙ dead_after (counts_of old) k 1 q ∙ go (eqb q k) refl
  where
    none : map.get (counts_of old) k ≡ None
    none = vacant_count old k (subst (λ s. line_of s k ≡ None) e n)

    go : (t : Bool) → eqb q k ≡ t → cond t (one_if (eqb 1 0)) (one_if_dead (map.get (counts_of old) q)) ≡ one_if_dead (map.get (counts_of old) q)
    go true s = sym (ap (λ z. one_if_dead (map.get (counts_of old) z)) (eqb-true q k s) ∙ ap one_if_dead none)
    go false s = refl

-- a line that leaves
pub take_each : {w : ℕ} (old b new : List (Slot w)) (k : ℕ) (dead rest : List ℕ) → b ≡ old → counts_of new ≡ map.remove (counts_of b) k → dead ≡ rest ++ k ∷ [] → ((q : ℕ) → times q dead ≡ dead_at old q) → (q : ℕ) → times q rest ≡ dead_at new q
take_each old b new k dead rest f c e d q = dead_popped (counts_of old) (counts_of new) k dead rest (c ∙ ap (λ s. map.remove (counts_of s) k) f) e d q

pub take_memory : {w : ℕ} (old b new written : List (Slot w)) (k cap : ℕ) (rest dead : List ℕ) → b ≡ old → written ≡ new → lines_of new ≡ map.remove (lines_of b) k → counts_of new ≡ map.remove (counts_of b) k → memory_of written rest cap ≡ without_line (memory_of old dead cap) k (reverse rest)
take_memory old b new written k cap rest dead f w l c =
    let a : lines_of written ≡ map.remove (lines_of old) k = ap lines_of w ∙ l ∙ ap (λ s. map.remove (lines_of s) k) f in
    let d : counts_of written ≡ map.remove (counts_of old) k = ap counts_of w ∙ c ∙ ap (λ s. map.remove (counts_of s) k) f in
    λ i. record { lines = a i; counts = d i; dead = reverse rest; layout = plain_layout cap }

-- a line that no place has is put into a vacant one
pub put_interns : {w : ℕ} (old a b c new written : List (Slot w)) (k id cap : ℕ) (dead : List ℕ) (line : List Word) → a ≡ old → b ≡ old → c ≡ old → written ≡ new → id ≡ k → ((q : ℕ) → line_of a q ≡ Some line → ⊥) → line_of b k ≡ None → lines_of new ≡ map.insert (lines_of c) k line → counts_of new ≡ map.insert (counts_of c) k 1 → Interns (memory_of old dead cap) line id (memory_of written dead cap)
put_interns old a b c new written k id cap dead line e f g w same n v l d =
    let vacant : line_of old id ≡ None = ap (line_of old) same ∙ ap (λ s. line_of s k) (sym f) ∙ v in
    let ls : lines_of written ≡ map.insert (lines_of old) id line = ap lines_of w ∙ l ∙ ap (λ s. map.insert (lines_of s) k line) g ∙ ap (λ j. map.insert (lines_of old) j line) (sym same) in
    let cs : counts_of written ≡ map.insert (counts_of old) id 1 = ap counts_of w ∙ d ∙ ap (λ s. map.insert (counts_of s) k 1) g ∙ ap (λ j. map.insert (counts_of old) j 1) (sym same) in
    subst (λ o. MatchOption o (IsNew (memory_of old dead cap) line × (memory_of written dead cap ≡ with_line (memory_of old dead cap) id line)) (λ there. (there ≡ line) × (memory_of written dead cap ≡ without_holds (with_hold (memory_of old dead cap) id) (names_in line)))) (sym vacant)
    ((λ q h. n q (ap (λ s. line_of s q) e ∙ h)), λ i. record { lines = ls i; counts = cs i; dead = reverse dead; layout = plain_layout cap })

pub popped_count : {w : ℕ} (old b new : List (Slot w)) (n m : ℕ) → b ≡ old → count_by is_dead new + 1 ≡ count_by is_dead b → n + 1 ≡ m → m ≡ count_by is_dead old → n ≡ count_by is_dead new
popped_count old b new n m f c e d = let a = ap (count_by is_dead) f in omega (arith, a, c, e, d)

pub popped_live : {w : ℕ} (old b new : List (Slot w)) (n : ℕ) → b ≡ old → count_by is_taken new + 1 ≡ count_by is_taken b → n ≡ count_by is_taken old → n - 1 ≡ count_by is_taken new
popped_live old b new n f c d = let a = ap (count_by is_taken) f in omega (arith, a, c, d)

pub no_error : false ≡ true → ⊥
no_error e = cc

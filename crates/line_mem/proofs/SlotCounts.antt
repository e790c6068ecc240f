-- How many slots are taken, and how many are dead, after a write.
use Rattle.std.proofs.Common.{◌≡◌, ℕ, ◌+◌, ◌<◌, ◌≤◌, Bool, true, false, cond, eqb, List, length, set, get_or, Option, Some, None, refl, sym, ◌∙◌, ap, arith}
use Rattle.std.proofs.lemmas.Bool.{ne_eqb, eq-eqb}
use Rattle.std.specs.Prelude.{count_by}
use Rattle.std.proofs.lemmas.List.Sums.{sum_by-set, count_by-le-length}
use Rattle.std.specs.FinMap as map
use Rattle.hic_word.specs.declared.Line.{Line}
use Rattle.line_mem.specs.declared.slots.Slot.{Slot}
use Rattle.line_mem.specs.declared.slots.Slot.TheVariants.{Vacant, Taken}
use Rattle.line_mem.specs.Places.{lines_of, counts_of, line_in, count_in, is_dead, is_taken, count_of, line_of}
use Rattle.line_mem.specs.Sound.{one_if}
use Rattle.line_mem.specs.PlacesSound.{get-slots, len-lines}
use Rattle.line_mem.proofs.Seen.{count_of-slot, line-slot, seen-slot}

test_one : (t : Bool) → cond {A = ℕ} t 1 0 ≡ one_if t
test_one true = refl
test_one false = refl

-- how a write changes the number of slots that pass a test
pub test-set : {w : ℕ} (p : Slot w → Bool) (ss : List (Slot w)) (k : ℕ) (s d : Slot w) → k < length ss → count_by p (set ss k s) + one_if (p (get_or ss k d)) ≡ count_by p ss + one_if (p s)
test-set p ss k s d h =
    let a = sum_by-set (λ x. cond {A = ℕ} (p x) 1 0) ss k s d h in
    let b = test_one (p (get_or ss k d)) in
    let c = test_one (p s) in
    omega (arith, a, b, c)

pub dead_of-set : {w : ℕ} (ss : List (Slot w)) (k : ℕ) (line : Line w) (n m : ℕ) (d : Slot w) → k < length ss → get_or ss k d ≡ Taken line n → count_by is_dead (set ss k (Taken line m)) + one_if (eqb (count_of ss k) 0) ≡ count_by is_dead ss + one_if (eqb m 0)
dead_of-set ss k line n m d h e =
    let a : count_by is_dead (set ss k (Taken line m)) + one_if (is_dead (get_or ss k d)) ≡ count_by is_dead ss + one_if (eqb m 0) = test-set is_dead ss k (Taken line m) d h in
    let b : one_if (eqb (count_of ss k) 0) ≡ one_if (is_dead (get_or ss k d)) = ap (λ (x : ℕ). one_if (eqb x 0)) (count_of-slot ss k d line n h e) ∙ sym (ap (λ s. one_if (is_dead s)) e) in
    omega (arith, a, b)

-- a write of a count that stays above 0
pub still_counted : (new old was count : ℕ) → new + one_if (eqb was 0) ≡ old + one_if (eqb count 0) → 1 ≤ was → 1 ≤ count → new ≡ old
still_counted new old was count e h k =
    let a : one_if (eqb was 0) ≡ 0 = ap one_if (ne_eqb was 0 (λ z. omega arith)) in
    let b : one_if (eqb count 0) ≡ 0 = ap one_if (ne_eqb count 0 (λ z. omega arith)) in
    omega (arith, e, a, b)

no_line : {w : ℕ} (s : Slot w) → line_in s ≡ None → (is_dead s ≡ false) × (is_taken s ≡ false)
no_line Vacant e = (refl, refl)
no_line (Taken line n) e = cc

-- a vacant slot is neither dead nor taken
pub vacant_tests : {w : ℕ} (ss : List (Slot w)) (k : ℕ) (d : Slot w) → k < length ss → line_of ss k ≡ None → (is_dead (get_or ss k d) ≡ false) × (is_taken (get_or ss k d) ≡ false)
vacant_tests ss k d h e = no_line (get_or ss k d) (sym (line-slot ss k d h) ∙ e)

pub gone : (t : Bool) → t ≡ false → one_if t ≡ 0
gone true e = cc
gone false e = refl

pub put_dead : {w : ℕ} (ss : List (Slot w)) (k : ℕ) (line : Line w) → k < length ss → line_of ss k ≡ None → count_by is_dead (set ss k (Taken line 1)) ≡ count_by is_dead ss
put_dead ss k line h e =
    let a = test-set is_dead ss k (Taken line 1) Vacant h in
    let b = gone _ (vacant_tests ss k Vacant h e).0 in
    omega (arith, a, b)

pub put_taken : {w : ℕ} (ss : List (Slot w)) (k : ℕ) (line : Line w) → k < length ss → line_of ss k ≡ None → count_by is_taken (set ss k (Taken line 1)) ≡ count_by is_taken ss + 1
put_taken ss k line h e =
    let a = test-set is_taken ss k (Taken line 1) Vacant h in
    let b = gone _ (vacant_tests ss k Vacant h e).1 in
    omega (arith, a, b)

-- a slot with count 0 is dead
pub taken_dead : {w : ℕ} (ss : List (Slot w)) (k : ℕ) (line : Line w) (n : ℕ) (d : Slot w) → k < length ss → get_or ss k d ≡ Taken line n → map.get (counts_of ss) k ≡ Some 0 → count_by is_dead (set ss k Vacant) + 1 ≡ count_by is_dead ss
taken_dead ss k line n d h e z =
    let a = test-set is_dead ss k Vacant d h in
    let c : ◌≡◌ {A = Option ℕ} (Some n) (Some 0) = sym (get-slots count_in ss k ∙ seen-slot count_in ss k d h ∙ ap count_in e) ∙ z in
    let zero : n ≡ 0 = cc in
    let b : one_if (is_dead (get_or ss k d)) ≡ 1 = ap (λ s. one_if (is_dead s)) e ∙ ap (λ (x : ℕ). one_if (eqb x 0)) zero in
    omega (arith, a, b)

pub taken_taken : {w : ℕ} (ss : List (Slot w)) (k : ℕ) (line : Line w) (n : ℕ) (d : Slot w) → k < length ss → get_or ss k d ≡ Taken line n → count_by is_taken (set ss k Vacant) + 1 ≡ count_by is_taken ss
taken_taken ss k line n d h e =
    let a = test-set is_taken ss k Vacant d h in
    let b : one_if (is_taken (get_or ss k d)) ≡ 1 = ap (λ s. one_if (is_taken s)) e in
    omega (arith, a, b)

pub taken_same : {w : ℕ} (ss : List (Slot w)) (k : ℕ) (line : Line w) (n m : ℕ) (d : Slot w) → k < length ss → get_or ss k d ≡ Taken line n → count_by is_taken (set ss k (Taken line m)) ≡ count_by is_taken ss
taken_same ss k line n m d h e =
    let a = test-set is_taken ss k (Taken line m) d h in
    let b : one_if (is_taken (get_or ss k d)) ≡ 1 = ap (λ s. one_if (is_taken s)) e in
    omega (arith, a, b)

pub last_counted : (new old was x : ℕ) → new + one_if (eqb was 0) ≡ old + one_if (eqb x 0) → 1 ≤ was → x ≡ 0 → new ≡ old + 1
last_counted new old was x e h z =
    let a : one_if (eqb was 0) ≡ 0 = ap one_if (ne_eqb was 0 (λ y. omega arith)) in
    let b : one_if (eqb x 0) ≡ 1 = ap one_if (eq-eqb x 0 z) in
    omega (arith, e, a, b)

-- where a line was put, there were not as many lines as slots
pub not_whole : {w : ℕ} (old b new : List (Slot w)) (n : ℕ) → b ≡ old → length new ≡ length old → n ≡ length old → count_by is_taken new ≡ count_by is_taken b + 1 → map.len (lines_of old) ≡ n → ⊥
not_whole old b new n e f g h w =
    let a = count_by-le-length is_taken new in
    let c = len-lines old in
    let d = ap (count_by is_taken) e in
    omega (arith, a, c, d, f, g, h, w)

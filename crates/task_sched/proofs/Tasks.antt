-- The running tasks, by their bits.
use Rattle.std.proofs.Common.{◌≡◌, ℕ, ◌+◌, ◌-◌, ◌/◌, ◌%◌, ◌^◌, ◌<◌, ◌≤◌, zero, suc, Bool, true, false, cond, ◌&&◌, ◌||◌, eqb, leb, List, [], ◌∷◌, filter, find, Option, Some, None, ⊎_elim, refl, ap, sym, ◌∙◌, w32, arith}
use Rattle.std.proofs.Math.Bool.{and-true}
use Rattle.std.proofs.Math.Nat.{div-le_self}
use Rattle.std.proofs.Math.Pow.{pow-lt}
use Rattle.std.proofs.lemmas.Bool.{le-leb, lt-leb, cases_lt, cases_eq, eq-eqb, ne_eqb, eqb-true}
use Rattle.std.proofs.lemmas.Map.Views.{any-filter_same}
use Rattle.std.proofs.lemmas.Bool.Decides.{nat_tests}
use Rattle.std.proofs.lemmas.Nat.{shr-shr}
use Rattle.std.proofs.lemmas.Nat.Bits.{bit_at-lt, bit_at-zero, bit_at_above, bit_at-pow_same, bit_at-pow_other, bit_at-trailing_zeros, same_from_bits_below}
use Rattle.std.specs.Int.{bit_at, trailing_zeros}
use Rattle.std.specs.List.{list_any, range_with_len}
use Rattle.task_sched.specs.InRow.{turn_count}
use Rattle.task_sched.specs.Limits.{most_count}
use Rattle.task_sched.specs.Pick.{NoTask, pick, tasks_in, least_from}

-- the first number that passes, in the list of those that pass: where all are at least `low`
above_at : (low first : ℕ) (rest : List ℕ) (found : Option ℕ) (passes : Bool) → low ≤ first → find (λ t. leb low t) rest ≡ found → find (λ t. leb low t) (cond passes (first ∷ rest) rest) ≡ cond passes (Some first) found
above_at low first rest found true h e = ap (λ b. cond b (Some first) (find (λ t. leb low t) rest)) (le-leb low first h)
above_at low first rest found false h e = e

above : (p : ℕ → Bool) (low first count : ℕ) → low ≤ first → find (λ t. leb low t) (filter p (range_with_len first count)) ≡ find p (range_with_len first count)
above p low first zero h = refl
above p low first (suc count) h = above_at low first _ _ (p first) h (above p low (first + 1) count (omega arith))

-- a number below `low` is passed over
below_at : (low first : ℕ) (rest : List ℕ) (passes : Bool) → first < low → find (λ t. leb low t) (cond passes (first ∷ rest) rest) ≡ find (λ t. leb low t) rest
below_at low first rest true h = ap (λ b. cond b (Some first) (find (λ t. leb low t) rest)) (lt-leb low first h)
below_at low first rest false h = refl

-- the least of the numbers that pass and are not below `low` is the first that passes from `low` on
pub find-filter : (p : ℕ → Bool) (low first count above_count : ℕ) → first ≤ low → first + count ≡ low + above_count → find (λ t. leb low t) (filter p (range_with_len first count)) ≡ find p (range_with_len low above_count)
find-filter p low first zero above_count h e = let none : above_count ≡ 0 = omega arith in ap (λ n. find p (range_with_len low n)) (sym none)
find-filter p low first (suc count) above_count h e = ⊎_elim
    (λ l. below_at low first _ (p first) l ∙ find-filter p low (first + 1) count above_count (omega arith) (omega arith))
    (λ g.
    let same : first ≡ low = omega arith in
    let counts : suc count ≡ above_count = omega arith in
    above p low first (suc count) g ∙ ap (λ t. find p (range_with_len t (suc count))) same ∙ ap (λ n. find p (range_with_len low n)) counts)
    (cases_lt first low)

-- the least running task not below `low`, as the first set bit from `low` on
pub least_from-tasks_in : (running low : ℕ) → low ≤ 16 → least_from low (tasks_in running) ≡ find (λ t. eqb (bit_at running t) 1) (range_with_len low (16 - low))
unfolding tasks_in
least_from-tasks_in running low h = find-filter (λ t. eqb (bit_at running t) 1) low 0 16 (16 - low) (omega arith) (omega arith)

any_range : (task first count : ℕ) → first ≤ task → task < first + count → list_any (λ t. eqb t task) (range_with_len first count) ≡ true
any_range task first zero h l = absurd (omega arith)
any_range task first (suc count) h l = ⊎_elim
    (λ below. let here : eqb first task ≡ false = ne_eqb first task (λ e. omega arith) in ap (λ b. b || list_any (λ t. eqb t task) (range_with_len (first + 1) count)) here ∙ any_range task (first + 1) count (omega arith) (omega arith))
    (λ over. let here : eqb first task ≡ true = eq-eqb first task (omega arith) in ap (λ b. b || list_any (λ t. eqb t task) (range_with_len (first + 1) count)) here)
    (cases_lt first task)

-- a task is among the running ones exactly where its bit is set
pub any-tasks_in : (running task : ℕ) → task < 16 → list_any (λ t. eqb t task) (tasks_in running) ≡ eqb (bit_at running task) 1
unfolding tasks_in
any-tasks_in running task h =
    any-filter_same (λ t. eqb t task) (λ t. eqb (bit_at running t) 1) (eqb (bit_at running task) 1) (λ t e. ap (λ k. eqb (bit_at running k) 1) (eqb-true t task e)) (range_with_len 0 16)
    ∙ ap (λ b. eqb (bit_at running task) 1 && b) (any_range task 0 16 (omega arith) h) ∙ and-true (eqb (bit_at running task) 1)

-- the first number that passes
find-first : (p : ℕ → Bool) (low count k : ℕ) → k < count → ((i : ℕ) → i < k → p (low + i) ≡ false) → p (low + k) ≡ true → find p (range_with_len low count) ≡ Some (low + k)
find-first p low zero k within below here = absurd (omega arith)
find-first p low (suc count) zero within below here = ap (λ b. cond b (Some low) (find p (range_with_len (low + 1) count))) (ap p (omega arith) ∙ here) ∙ ap Some (omega arith)
find-first p low (suc count) (suc k) within below here =
    ap (λ b. cond b (Some low) (find p (range_with_len (low + 1) count))) (ap p (omega arith) ∙ below 0 (omega arith))
    ∙ find-first p (low + 1) count k (omega arith) (λ i less. ap p (omega arith) ∙ below (suc i) (omega arith)) (ap p (omega arith) ∙ here)
    ∙ ap Some (omega arith)

-- where none passes
find-none : (p : ℕ → Bool) (low count : ℕ) → ((i : ℕ) → i < count → p (low + i) ≡ false) → find p (range_with_len low count) ≡ None
find-none p low zero all = refl
find-none p low (suc count) all =
    ap (λ b. cond b (Some low) (find p (range_with_len (low + 1) count))) (ap p (omega arith) ∙ all 0 (omega arith))
    ∙ find-none p (low + 1) count (λ i less. ap p (omega arith) ∙ all (suc i) (omega arith))

-- the bits from `low` on
bit_at-shifted : (running low i : ℕ) → bit_at (running / 2 ^ low) i ≡ bit_at running (low + i)
bit_at-shifted running low i = ap (λ n. n % 2) (shr-shr running low i)

-- the least running task not below `low`, by the zeros below the lowest set bit
lowest-bit : (running low : ℕ) → low ≤ 16 → running < 2 ^ 16 → 0 < running / 2 ^ low → running / 2 ^ low < 2 ^ 32
    → (low + trailing_zeros w32 (running / 2 ^ low) < 16) × (bit_at running (low + trailing_zeros w32 (running / 2 ^ low)) ≡ 1)
    × (Some (low + trailing_zeros w32 (running / 2 ^ low)) ≡ least_from low (tasks_in running))
lowest-bit running low fits small some wide =
    let k = trailing_zeros w32 (running / 2 ^ low) in
    let lowest = bit_at-trailing_zeros w32 (running / 2 ^ low) some wide in
    let set : bit_at running (low + k) ≡ 1 = sym (bit_at-shifted running low k) ∙ lowest.1 in
    let within : low + k < 16 = ⊎_elim (λ below. below) (λ above. absurd (let clear = bit_at_above running 16 (low + k) small above in omega arith)) (cases_lt (low + k) 16) in (
      within,
      set,
      sym
          (least_from-tasks_in running low fits
          ∙ find-first (λ t. eqb (bit_at running t) 1) low (16 - low) k (omega arith)
          (λ i less. ap (λ bit. eqb bit 1) (sym (bit_at-shifted running low i) ∙ lowest.2 i less))
          (ap (λ bit. eqb bit 1) set)),
    )

pub least_from-bits : (running wide low : ℕ) → wide ≡ running → low ≤ 16 → running < 2 ^ 16 → (wide / 2 ^ low ≡ 0 → ⊥)
    → (low + trailing_zeros w32 (wide / 2 ^ low) < 16) × (bit_at running (low + trailing_zeros w32 (wide / 2 ^ low)) ≡ 1)
    × (Some (low + trailing_zeros w32 (wide / 2 ^ low)) ≡ least_from low (tasks_in running))
least_from-bits running wide low same fits small some =
    let shorter : running / 2 ^ low ≤ running = div-le_self running (2 ^ low) in
    rw same (lowest-bit running low fits small (omega (arith, rw same at some)) (omega arith))

-- and none where no bit is set from `low` on
pub least_from-none : (running low : ℕ) → low ≤ 16 → running / 2 ^ low ≡ 0 → least_from low (tasks_in running) ≡ None
least_from-none running low fits none =
    least_from-tasks_in running low fits
    ∙ find-none (λ t. eqb (bit_at running t) 1) low (16 - low)
    (λ i less. ap (λ bit. eqb bit 1) (sym (bit_at-shifted running low i) ∙ ap (λ n. bit_at n i) none ∙ bit_at-zero i))

-- a task that runs alone
passes-other : (task t : ℕ) → (t ≡ task → ⊥) → eqb (bit_at (2 ^ task) t) 1 ≡ false
passes-other task t other = ap (λ bit. eqb bit 1) (bit_at-pow_other task t other)

none-after : (task first count : ℕ) → task < first → filter (λ t. eqb (bit_at (2 ^ task) t) 1) (range_with_len first count) ≡ []
none-after task first zero past = refl
none-after task first (suc count) past =
    ap (λ b. cond b (first ∷ filter (λ t. eqb (bit_at (2 ^ task) t) 1) (range_with_len (first + 1) count)) (filter (λ t. eqb (bit_at (2 ^ task) t) 1) (range_with_len (first + 1) count))) (passes-other task first (λ same. omega arith))
    ∙ none-after task (first + 1) count (omega arith)

one-within : (task first count : ℕ) → first ≤ task → task < first + count → filter (λ t. eqb (bit_at (2 ^ task) t) 1) (range_with_len first count) ≡ task ∷ []
one-within task first zero from within = absurd (omega arith)
one-within task first (suc count) from within = ⊎_elim
    (λ below. ap (λ b. cond b (first ∷ filter (λ t. eqb (bit_at (2 ^ task) t) 1) (range_with_len (first + 1) count)) (filter (λ t. eqb (bit_at (2 ^ task) t) 1) (range_with_len (first + 1) count))) (passes-other task first (λ same. omega arith))
    ∙ one-within task (first + 1) count (omega arith) (omega arith))
    (λ over.
    let here : first ≡ task = omega arith in
    ap (λ b. cond b (first ∷ filter (λ t. eqb (bit_at (2 ^ task) t) 1) (range_with_len (first + 1) count)) (filter (λ t. eqb (bit_at (2 ^ task) t) 1) (range_with_len (first + 1) count))) (ap (λ bit. eqb bit 1) (ap (bit_at (2 ^ task)) here ∙ bit_at-pow_same task))
    ∙ ap (λ rest. first ∷ rest) (none-after task (first + 1) count (omega arith))
    ∙ ap (λ t. t ∷ []) here)
    (cases_lt first task)

pub turn_count-alone : (running task : ℕ) → running ≡ 2 ^ task → task < 16 → turn_count (tasks_in running) ≡ most_count
unfolding tasks_in
turn_count-alone running task is within = ap (λ n. turn_count (tasks_in n)) is ∙ ap turn_count (one-within task 0 16 (omega arith) (omega arith))

-- and one that does not
only-bit : (running task only : ℕ) → running < 2 ^ 16 → task < 16 → bit_at running task ≡ 1 → ((k : ℕ) → k < 16 → list_any (λ t. eqb t k) (only ∷ []) ≡ eqb (bit_at running k) 1) → running ≡ 2 ^ task
only-bit running task only small within set bits =
    let below : 2 ^ task < 2 ^ 16 = pow-lt within in
    let here = bits task within in
    let same : only ≡ task = grind (arith, nat_tests) in
    same_from_bits_below 16 running (2 ^ task) small below (λ k inside. ⊎_elim
    (λ is. ap (bit_at running) is ∙ set ∙ sym (ap (bit_at (2 ^ task)) is ∙ bit_at-pow_same task))
    (λ other. let there = bits k inside in let clear = bit_at-pow_other task k other in let two = bit_at-lt running k in grind (arith, nat_tests))
    (cases_eq k task))

turn_count-one : (running task : ℕ) (tasks : List ℕ) → running < 2 ^ 16 → task < 16 → bit_at running task ≡ 1 → (running ≡ 2 ^ task → ⊥) → ((k : ℕ) → k < 16 → list_any (λ t. eqb t k) tasks ≡ eqb (bit_at running k) 1) → turn_count tasks ≡ 1
turn_count-one running task [] small within set others bits = refl
turn_count-one running task (only ∷ []) small within set others bits = absurd (others (only-bit running task only small within set bits))
turn_count-one running task (first ∷ second ∷ more) small within set others bits = refl

pub turn_count-others : (running task : ℕ) → running < 2 ^ 16 → task < 16 → bit_at running task ≡ 1 → (running ≡ 2 ^ task → ⊥) → turn_count (tasks_in running) ≡ 1
turn_count-others running task small within set others = turn_count-one running task (tasks_in running) small within set others (any-tasks_in running)

-- no task is picked where none runs
pub pick-nobody : (entries : List ℕ) (last : Option ℕ) → pick (tasks_in 0) entries last ≡ NoTask
unfolding tasks_in
pick-nobody [] None = refl
pick-nobody [] (Some last) = refl
pick-nobody (entry ∷ rest) last = pick-nobody rest last

-- The task that is picked runs, and so a run stays among valid machines.
use Rattle.std.proofs.Common.{◌≡◌, ℕ, zero, suc, ◌+◌, eqb, Bool, true, false, cond, if◌then◌else◌, List, [], ◌∷◌, Option, Some, None, refl, sym, ◌∙◌, ap, subst, arith}
use Rattle.std.specs.Prelude.{IfSome, find, slice_get, ◌||◌}
use Rattle.std.specs.List.{AllByRecursion, list_any}
use Rattle.std.proofs.lemmas.Bool.{eqb-true}
use Rattle.task_sched.specs.Pick.{NoTask, Pick, Picked, in_turn, least_from, or_least, or_turn, pick, pick_entry}
use Rattle.hic_plain.specs.declared.turn.Turn.{Turn}
use Rattle.hic_plain.specs.declared.turn.Turn.TheVariants.{Went, Out, Halted, Trapped}
use Rattle.hic_plain.specs.Machine.{Machine, Task}
use Rattle.hic_plain.specs.Full.{IsWithinCapacity}
use Rattle.hic_plain.specs.Run.{Ran, after_turn, go, running, running_from, spent, turn}
use Rattle.hic_plain.specs.Step.{step}
use Rattle.hic_plain.specs.Valid.{IsMachine}
use Rattle.hic_plain.proofs.StepLaws.{step-room, step-valid}

-- ---- what is picked is one of those that run

abbrev OfPick : (ℕ → Type 0) → Pick → Type 0
OfPick P NoTask = Unit {0}
OfPick P (Picked t rest) = P t

module _ (P : ℕ → Type 0) where
  any_of : (xs : List ℕ) (e : ℕ) → AllByRecursion P xs → list_any (λ t. eqb t e) xs ≡ true → P e
  any_of [] e all there = absurd cc
  any_of (x ∷ xs) e all there = here (eqb x e) refl (any_of xs e all.1) there
    where
      here : (t : Bool) → eqb x e ≡ t → (list_any (λ t. eqb t e) xs ≡ true → P e) → (t || list_any (λ t. eqb t e) xs) ≡ true → P e
      here true is later there = subst P (eqb-true x e is) all.0
      here false is later there = later there

  find_of : (test : ℕ → Bool) (xs : List ℕ) → AllByRecursion P xs → IfSome (find test xs) P
  find_of test [] all = tt
  find_of test (x ∷ xs) all = elim (test x) as (λ t. IfSome (cond t (Some x) (find test xs)) P) [ true ↦ all.0 | false ↦ find_of test xs all.1 ]

  entry_of : (xs entries : List ℕ) → AllByRecursion P xs → OfPick P (pick_entry xs entries)
  entry_of xs [] all = tt
  entry_of xs (e ∷ rest) all = here (list_any (λ t. eqb t e) xs) refl (entry_of xs rest all)
    where
      here : (t : Bool) → list_any (λ t. eqb t e) xs ≡ t → OfPick P (pick_entry xs rest) → OfPick P (if t then Picked e rest else pick_entry xs rest)
      here true is later = any_of xs e all is
      here false is later = later

  least_of : (xs : List ℕ) (o : Option ℕ) → AllByRecursion P xs → IfSome o P → IfSome (or_least o xs) P
  least_of xs None all of = find_of _ xs all
  least_of xs (Some t) all of = of

  in_turn_of : (xs : List ℕ) (last : Option ℕ) → AllByRecursion P xs → IfSome (in_turn xs last) P
  in_turn_of xs None all = find_of _ xs all
  in_turn_of xs (Some last) all = least_of xs (least_from (last + 1) xs) all (find_of _ xs all)

  turn_of : (p : Pick) (o : Option ℕ) → OfPick P p → IfSome o P → OfPick P (or_turn p o)
  turn_of NoTask None of turn = tt
  turn_of NoTask (Some t) of turn = turn
  turn_of (Picked t rest) o of turn = of

  pick_of_all : (xs entries : List ℕ) (last : Option ℕ) → AllByRecursion P xs → OfPick P (pick xs entries last)
  pick_of_all xs entries last all = turn_of (pick_entry xs entries) (in_turn xs last) (entry_of xs entries all) (in_turn_of xs last all)

-- ---- a task that runs

pub record IsRunning (tasks : List Task) (t : ℕ) : Type 0 where
  pub task : Task
  pub there : slice_get tasks t ≡ Some task
  pub runs : task.runs ≡ true

running_of : (whole : List Task) (i : ℕ) (tasks : List Task) → ((k : ℕ) → slice_get tasks k ≡ slice_get whole (i + k)) → AllByRecursion (IsRunning whole) (running_from i tasks)
running_of whole i [] same = tt
running_of whole i (u ∷ us) same =
    here u.runs refl (running_of whole (i + 1) us (λ k. same (suc k) ∙ (let next : i + suc k ≡ i + 1 + k = omega arith in ap (slice_get whole) next)))
  where
    here : (b : Bool) → u.runs ≡ b → AllByRecursion (IsRunning whole) (running_from (i + 1) us) → AllByRecursion (IsRunning whole) (if b then i ∷ running_from (i + 1) us else running_from (i + 1) us)
    here true is later = (record { task = u; there = (let none : i ≡ i + 0 = omega arith in ap (slice_get whole) none) ∙ sym (same 0); runs = is }, later)
    here false is later = later

pub picked_runs : (m : Machine) (entries : List ℕ) (last : Option ℕ) (t : ℕ) (rest : List ℕ) → pick (running m) entries last ≡ Picked t rest → IsRunning m.tasks t
picked_runs m entries last t rest e = subst (OfPick (IsRunning m.tasks)) e (pick_of_all (IsRunning m.tasks) (running m) entries last (running_of m.tasks 0 m.tasks (λ k. (let same : k ≡ 0 + k = omega arith in ap (slice_get m.tasks) same))))

-- ---- runs

-- a valid machine with room for what it holds
record IsGood (m : Machine) : Type 0 where
  valid : IsMachine m
  room : IsWithinCapacity m

step_good : (m : Machine) (t : ℕ) → IsGood m → IsRunning m.tasks t → IsGood (step m t).0
step_good m t good r =
    let runs : IfSome (slice_get m.tasks t) (λ task. task.runs ≡ true) = subst (λ o. IfSome o (λ task. task.runs ≡ true)) (sym r.there) r.runs in
    record { valid = step-valid m t good.valid runs; room = step-room m t good.valid runs good.room }

after_good : (m : Machine) (t : ℕ) (x : Machine × Turn) (rest : Machine → Ran) → IsGood m → IsGood x.0 → ((new : Machine) → IsGood new → IsGood (rest new).last) → IsGood (after_turn m t x rest).last
after_good m t (new, Went) rest good left each = each new left
after_good m t (new, Out bytes) rest good left each = each new left
after_good m t (new, Halted) rest good left each = each new left
after_good m t (new, Trapped trap) rest good left each = good

turn_good : (m : Machine) (p : Pick) (rest : ℕ → List ℕ → Machine → Ran) → IsGood m → OfPick (IsRunning m.tasks) p → ((t : ℕ) (entries : List ℕ) (new : Machine) → IsGood new → IsGood (rest t entries new).last) → IsGood (turn m p rest).last
turn_good m NoTask rest good of each = good
turn_good m (Picked t entries) rest good of each = after_good m t (step m t) (rest t entries) good (step_good m t good of) (each t entries)

spent_good : (m : Machine) (p : Pick) → IsGood m → IsGood (spent m p).last
spent_good m NoTask good = good
spent_good m (Picked t entries) good = good

go_good : (n : ℕ) (m : Machine) (entries : List ℕ) (last : Option ℕ) → IsGood m → IsGood (go m entries last n).last
unfolding go
go_good zero m entries last good = spent_good m (pick (running m) entries last) good
go_good (suc n) m entries last good =
    turn_good m (pick (running m) entries last) (λ t rest new. go new rest (Some t) n) good
    (pick_of_all (IsRunning m.tasks) (running m) entries last (running_of m.tasks 0 m.tasks (λ k. (let same : k ≡ 0 + k = omega arith in ap (slice_get m.tasks) same))))
    (λ t rest new is. go_good n new rest (Some t) is)

pub run_good : (m : Machine) (entries : List ℕ) (n : ℕ) → IsMachine m → IsWithinCapacity m → IsMachine (go m entries None n).last × IsWithinCapacity (go m entries None n).last
run_good m entries n valid room =
    let last = go_good n m entries None (record { valid = valid; room = room }) in
    (last.valid, last.room)

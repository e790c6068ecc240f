-- A run of the machine of plain arrays by rows: so many steps of one task at once.
use Rattle.std.specs.Prelude.{IfSome, slice_get}
use Rattle.std.proofs.Common.{◌≡◌, ◌≢◌, ℕ, zero, suc, ◌+◌, ◌-◌, ◌≤◌, true, List, [], ◌++◌, drop, min, Some, refl, sym, ◌∙◌, ap, subst, arith, append_assoc}
use Rattle.hic_plain.specs.declared.turn.End.TheVariants as ends
use Rattle.hic_plain.specs.declared.turn.Trap.{Trap}
use Rattle.hic_plain.specs.declared.turn.Turn.{Turn}
use Rattle.hic_plain.specs.declared.turn.Turn.TheVariants.{Halted, Out, Trapped, Went}
use Rattle.hic_plain.specs.Machine.{Machine, Task}
use Rattle.hic_plain.specs.Run.{Ran, after_turn, ended, go, running, stepped, trapped_at}
use Rattle.hic_plain.specs.Step.{step}
use Rattle.hic_plain.specs.Valid.{IsMachine}
use Rattle.hic_plain.proofs.StepLaws.{step-valid}
use Rattle.hic_machine.specs.Steps.{Runs}
use Rattle.hic_machine.specs.declared.ran.Ran.{Ran as RowRan}
use Rattle.hic_machine.specs.TaskRuns.{IsMadeOf, TaskRun, after_step, ahead, run_task}
use Rattle.hic_machine.proofs.RunsOn.{RunsOn, runs_on, trap_keeps}
use Rattle.task_sched.specs.InRow.{left_in_row, passed}
use Rattle.task_sched.specs.Order.{Order}
use Rattle.task_sched.specs.Pick.{Picked, pick, tasks_in}
use Rattle.task_sched.proofs.RowLaws.{first-of_row, pick-of_row}
use Rattle.hicamp.specs.Running.{HasTasks, after_steps, run_by}
use Rattle.hicamp.proofs.RunLaws.{after-none, picked-runs, picks-spent, picks-step}

-- what follows so many steps of task t in a row, which printed these bytes, and the last of which made this turn
abbrev pub after_row : ℕ → ℕ → Machine → List ℕ → Turn → (Machine → Ran) → Ran
after_row t made left bytes Went rest = after_steps made bytes (rest left)
after_row t made left bytes (Out last) rest = after_steps made bytes (rest left)
after_row t made left bytes Halted rest = after_steps made bytes (rest left)
after_row t made left bytes (Trapped trap) rest = after_steps made bytes (trapped_at left t trap)

-- one step
one_step : (bytes : List ℕ) (r : Ran) → stepped bytes r ≡ after_steps 1 bytes r
one_step bytes r =
    let same : r.steps + 1 ≡ 1 + r.steps = omega arith in
    ap (λ (n : ℕ). record { out = bytes ++ r.out; end = r.end; last = r.last; steps = n }) same

-- one step, and then more of them
one_more : (made : ℕ) (first bytes : List ℕ) (r : Ran) → stepped first (after_steps made bytes r) ≡ after_steps (1 + made) (first ++ bytes) r
one_more made first bytes r =
    let counts : made + r.steps + 1 ≡ 1 + made + r.steps = omega arith in
    let outs = sym (append_assoc first bytes r.out) in
    λ i. record { out = outs i; end = r.end; last = r.last; steps = counts i }

row_more : (t made : ℕ) (left : Machine) (first bytes : List ℕ) (turn : Turn) (rest : Machine → Ran) → stepped first (after_row t made left bytes turn rest) ≡ after_row t (1 + made) left (first ++ bytes) turn rest
row_more t made left first bytes Went rest = one_more made first bytes (rest left)
row_more t made left first bytes (Out last) rest = one_more made first bytes (rest left)
row_more t made left first bytes Halted rest = one_more made first bytes (rest left)
row_more t made left first bytes (Trapped trap) rest = one_more made first bytes (trapped_at left t trap)

-- ---- the steps of a row

-- a valid machine with a task that runs
pub record IsGoing (P : Machine) (t : ℕ) : Type 0 where
  pub valid : IsMachine P
  pub runs : Runs P t

module _ (P : Machine) (t : ℕ) (p : IsGoing P t) (new : Machine) (turn : Turn) (e : step P t ≡ (new, turn)) where
  its_task : IfSome (slice_get P.tasks t) (λ task. task.runs ≡ true)
  its_task = subst (λ o. IfSome o (λ (task : Task). task.runs ≡ true)) (sym p.runs.there) p.runs.runs

  new_valid : IsMachine new
  new_valid = subst IsMachine (ap (λ (x : Machine × Turn). x.0) e) (step-valid P t p.valid its_task)

  -- a step that does not halt the task leaves such a machine
  going_on : (turn ≡ Halted → ⊥) → IsGoing new t
  going_on on = record { valid = new_valid; runs = (runs_on P t new turn p.runs e on).runs }

-- what a row of steps leaves: a valid machine, where the same tasks run unless the last step has halted
pub record IsRow (P : Machine) (t : ℕ) (r : TaskRun) : Type 0 where
  pub valid : IsMachine r.left
  pub on : (r.turn ≡ Halted → ⊥) → RunsOn P r.left t

pub row_of : (t k : ℕ) (P : Machine) → IsGoing P t → IsRow P t (run_task P t k)
unfolding run_task
row_of t zero P p = record { valid = p.valid; on = λ on. record { runs = p.runs; same = refl } }
row_of t (suc k) P p = by (step P t) refl (λ new more. row_of t k new more)
  where
    later_step : (new : Machine) (turn : Turn) → step P t ≡ (new, turn) → (turn ≡ Halted → ⊥) → (bytes : List ℕ) → ((new : Machine) → IsGoing new t → IsRow new t (run_task new t k)) → IsRow P t (ahead 1 bytes (run_task new t k))
    later_step new turn e on bytes later =
        let r = later new (going_on P t p new turn e on) in
        let first = runs_on P t new turn p.runs e on in
        record { valid = r.valid; on = λ still. (let rest = r.on still in record { runs = rest.runs; same = rest.same ∙ first.same }) }

    by : (x : Machine × Turn) → step P t ≡ x → ((new : Machine) → IsGoing new t → IsRow new t (run_task new t k)) → IsRow P t (after_step x (λ new. run_task new t k))
    by (new, Went) e later = later_step new Went e (λ halts. cc) [] later
    by (new, Out bytes) e later = later_step new (Out bytes) e (λ halts. cc) bytes later
    by (new, Halted) e later = record { valid = new_valid P t p new Halted e; on = runs_on P t new Halted p.runs e }
    by (new, Trapped trap) e later = record { valid = new_valid P t p new (Trapped trap) e; on = runs_on P t new (Trapped trap) p.runs e }

-- ---- the run by a row

-- the run goes by the row, and then on from what it leaves
abbrev GoesBy : ℕ → ℕ → Order → Machine → Order → TaskRun → Type 0
GoesBy t n next P order r = left_in_row (running P) t r.made order ≡ Some next → run_by P order (r.made + n) ≡ after_row t r.made r.left r.out r.turn (λ new. run_by new next n)

the_order : (tasks : List ℕ) (t : ℕ) (order next : Order) → left_in_row tasks t 0 order ≡ Some next → order ≡ next
unfolding left_in_row
the_order tasks t order next e = the_one e
  where
    the_one : Some order ≡ Some next → order ≡ next
    the_one f = cc

module _ (t n : ℕ) (next : Order) where
  none_made : (P : Machine) (order : Order) → GoesBy t n next P order (record { left = P; made = 0; out = []; turn = Went })
  none_made P order e =
      let none : 0 + n ≡ n = omega arith in
      ap (run_by P order) none ∙ ap (λ o. run_by P o n) (the_order (running P) t order next e) ∙ after-none 0 (run_by P next n) refl

  module _ (P : Machine) (order : Order) (p : IsGoing P t) (k : ℕ) (later : (new : Machine) (o : Order) → IsGoing new t → GoesBy t n next new o (run_task new t k)) where
    -- the first step of a row, after which the task goes on, and then the rest of it
    first_of : (new : Machine) (turn : Turn) (bytes : List ℕ) → step P t ≡ (new, turn) → (turn ≡ Halted → ⊥) → ((rest : Machine → Ran) → after_turn P t (new, turn) rest ≡ stepped bytes (rest new)) → GoesBy t n next P order (ahead 1 bytes (run_task new t k))
    first_of new turn bytes e on goes in_row =
        let r = run_task new t k in
        let one : 1 + r.made ≡ suc r.made = omega arith in
        let first = first-of_row (running P) t r.made order next (ap (λ (i : ℕ). left_in_row (running P) t i order) (sym one) ∙ in_row) in
        let counts : 1 + r.made + n ≡ r.made + n + 1 = omega arith in
        let ran = picks-step P order t first.0 (sym first.1.0) (r.made + n) (1 + r.made + n) counts ∙ ap (λ x. after_turn P t x (λ new. go new first.0 (Some t) (r.made + n))) e in
        let same = (runs_on P t new turn p.runs e on).same in
        let rest = later new (record { entries = first.0; last = Some t }) (going_on P t p new turn e on) (ap (λ tasks. left_in_row tasks t r.made (record { entries = first.0; last = Some t })) same ∙ first.1.1) in
        ran ∙ goes (λ new. go new first.0 (Some t) (r.made + n)) ∙ ap (stepped bytes) rest ∙ row_more t r.made r.left bytes r.out r.turn (λ new. run_by new next n)

    -- a row of one step
    only : (new : Machine) (turn : Turn) → step P t ≡ (new, turn) → left_in_row (running P) t 1 order ≡ Some next → run_by P order (1 + n) ≡ after_turn P t (new, turn) (λ new. run_by new next n)
    only new turn e in_row =
        let first = first-of_row (running P) t 0 order next in_row in
        let counts : 1 + n ≡ n + 1 = omega arith in
        let rest = the_order (running P) t (record { entries = first.0; last = Some t }) next first.1.1 in
        picks-step P order t first.0 (sym first.1.0) n (1 + n) counts
        ∙ ap (λ x. after_turn P t x (λ new. go new first.0 (Some t) n)) e
        ∙ ap (λ o. after_turn P t (new, turn) (λ new. run_by new o n)) rest

    by_step : (x : Machine × Turn) → step P t ≡ x → GoesBy t n next P order (after_step x (λ new. run_task new t k))
    by_step (new, Went) e in_row = first_of new Went [] e (λ halts. cc) (λ rest. refl) in_row
    by_step (new, Out bytes) e in_row = first_of new (Out bytes) bytes e (λ halts. cc) (λ rest. refl) in_row
    by_step (new, Halted) e in_row = only new Halted e in_row ∙ one_step [] (run_by new next n)
    by_step (new, Trapped trap) e in_row =
        only new (Trapped trap) e in_row ∙ one_step [] (trapped_at P t trap)
        ∙ ap (λ m. after_steps 1 [] (trapped_at m t trap)) (sym (trap_keeps P t new trap p.valid p.runs e))

  pub goes_by : (k : ℕ) (P : Machine) (order : Order) → IsGoing P t → GoesBy t n next P order (run_task P t k)
  unfolding run_task
  goes_by zero P order p = none_made P order
  goes_by (suc k) P order p = by_step P order p k (λ new o more. goes_by k new o more) (step P t) refl

-- ---- the row that a schedule gives next

-- of a valid machine's task t so many steps come in a row, and those that are made are passed
pub record NextRow (P : Machine) (order skipped : Order) (t count : ℕ) : Type 0 where
  pub valid : IsMachine P
  pub some : 1 ≤ count
  pub in_row : (made : ℕ) → 1 ≤ made → made ≤ count → left_in_row (running P) t made order ≡ Some (passed t made skipped)

pub next_row : {P : Machine} {order : Order} {bits t count : ℕ} (skipped : Order) → HasTasks P bits → 1 ≤ count
    → ((made : ℕ) → 1 ≤ made → made ≤ count → left_in_row (tasks_in bits) t made order ≡ Some (passed t made skipped)) → NextRow P order skipped t count
next_row {order = order} {t = t} {count = count} skipped has some in_row = record {
  valid = has.valid;
  some = some;
  in_row = subst (λ (tasks : List ℕ). (made : ℕ) → 1 ≤ made → made ≤ count → left_in_row tasks t made order ≡ Some (passed t made skipped)) has.tasks in_row;
}

module _ {P : Machine} {order skipped : Order} {t count : ℕ} (row : NextRow P order skipped t count) where
  -- its task is picked, and runs
  row_picks : Picked t (drop 1 skipped.entries) ≡ pick (running P) order.entries order.last
  row_picks = pick-of_row (running P) t order (passed t 1 skipped) (row.in_row 1 (omega arith) row.some)

  pub row_runs : Runs P t
  row_runs = picked-runs P order t (drop 1 skipped.entries) row_picks

  -- where no step is left the run ends
  pub row_spent : (left : ℕ) → left ≡ 0 → run_by P order left ≡ ended ends.Budget P
  row_spent left none = ap (run_by P order) none ∙ picks-spent P order t (drop 1 skipped.entries) row_picks

  module _ (left : ℕ) (new : Machine) (told : RowRan) (printed out : List ℕ) (turn : Turn) (over : left ≢ 0) (many : IsMadeOf (min count left) told printed) (ran : run_task P t told.made ≡ record { left = new; made = told.made; out = out; turn = turn }) where
    row_told : IsRow P t (record { left = new; made = told.made; out = out; turn = turn })
    row_told = subst (IsRow P t) ran (row_of t told.made P (record { valid = row.valid; runs = row_runs }))

    pub row_made : 1 ≤ told.made
    row_made = let some = row.some in many.some (omega (arith, some, over))

    pub row_within : told.made ≤ left
    row_within = let most = many.within in omega (arith, most)

    pub row_valid : IsMachine new
    row_valid = row_told.valid

    -- the same tasks run on, unless it has halted
    pub row_on : (turn ≡ Halted → ⊥) → RunsOn P new t
    row_on = row_told.on

    -- the run goes by the row
    pub row_goes : run_by P order left ≡ after_row t told.made new out turn (λ m. run_by m (passed t told.made skipped) (left - told.made))
    row_goes =
        let most = many.within in
        let all : told.made + (left - told.made) ≡ left = omega (arith, most) in
        let in_row = row.in_row told.made row_made (omega (arith, most)) in
        let goes = goes_by t (left - told.made) (passed t told.made skipped) told.made P order (record { valid = row.valid; runs = row_runs })
        (ap (λ (r : TaskRun). left_in_row (running P) t r.made order) ran ∙ in_row) in
        let whole = subst (λ (r : TaskRun). run_by P order (r.made + (left - told.made)) ≡ after_row t r.made r.left r.out r.turn (λ m. run_by m (passed t told.made skipped) (left - told.made))) ran goes in
        ap (run_by P order) (sym all) ∙ whole

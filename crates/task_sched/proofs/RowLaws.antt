-- Picks that come in a row.
use Rattle.std.proofs.Common.{◌≡◌, ℕ, ◌+◌, ◌≤◌, suc, zero, Bool, true, false, cond, eqb, leb, List, [], ◌∷◌, drop, min, Option, Some, None, refl, ap, sym, ◌∙◌, arith}
use Rattle.std.proofs.lemmas.Bool.{eq-eqb, eqb-true, le-leb, lt-leb}
use Rattle.std.specs.List.{list_any}
use Rattle.std.specs.Prelude.{option_and_then}
use Rattle.task_sched.specs.InRow.{left_by, left_in_row, from_running, front_count, turn_count}
use Rattle.task_sched.specs.Limits.{most_count}
use Rattle.task_sched.specs.Order.{Order}
use Rattle.task_sched.specs.Pick.{Pick, NoTask, Picked, pick, pick_entry, in_turn, least_from, or_least, or_turn}

-- passing over the entries of tasks that do not run changes no pick
pick_entry-choice : (running : List ℕ) (entry : ℕ) (rest : List ℕ) (runs : Bool) → list_any (λ t. eqb t entry) running ≡ runs → pick_entry running (from_running running rest) ≡ pick_entry running rest
    → pick_entry running (cond runs (entry ∷ rest) (from_running running rest)) ≡ cond runs (Picked entry rest) (pick_entry running rest)
pick_entry-choice running entry rest true runs more = ap (λ b. cond b (Picked entry rest) (pick_entry running rest)) runs
pick_entry-choice running entry rest false runs more = more

pub pick_entry-from_running : (running entries : List ℕ) → pick_entry running (from_running running entries) ≡ pick_entry running entries
pick_entry-from_running running [] = refl
pick_entry-from_running running (entry ∷ rest) = pick_entry-choice running entry rest (list_any (λ t. eqb t entry) running) refl (pick_entry-from_running running rest)

-- where some entries in front name a task, the first one does
front-choice : (task entry more count : ℕ) (names : Bool) → eqb entry task ≡ names → suc more ≤ cond names (1 + count) 0 → (entry ≡ task) × (more ≤ count)
front-choice task entry more count true names some = (eqb-true entry task names, omega arith)
front-choice task entry more count false names some = absurd (omega arith)

front-cons : (task entry : ℕ) (rest : List ℕ) (more : ℕ) → suc more ≤ front_count task (entry ∷ rest) → (entry ≡ task) × (more ≤ front_count task rest)
front-cons task entry rest more some = front-choice task entry more (front_count task rest) (eqb entry task) refl some

-- entries in front that are left name a running task
first-choice : (running : List ℕ) (entry : ℕ) (rest : List ℕ) (task : ℕ) (runs : Bool) → list_any (λ t. eqb t entry) running ≡ runs → (1 ≤ front_count task (from_running running rest) → list_any (λ t. eqb t task) running ≡ true)
    → 1 ≤ front_count task (cond runs (entry ∷ rest) (from_running running rest)) → list_any (λ t. eqb t task) running ≡ true
first-choice running entry rest task true runs more some = ap (λ k. list_any (λ t. eqb t k) running) (sym (front-cons task entry rest 0 some).0) ∙ runs
first-choice running entry rest task false runs more some = more some

front-runs : (running entries : List ℕ) (task : ℕ) → 1 ≤ front_count task (from_running running entries) → list_any (λ t. eqb t task) running ≡ true
front-runs running [] task some = absurd (omega arith)
front-runs running (entry ∷ rest) task some = first-choice running entry rest task (list_any (λ t. eqb t entry) running) refl (front-runs running rest task) some

-- what a pick leaves that gives this task
left_by-same : (task : ℕ) (rest : List ℕ) → left_by task (Picked task rest) ≡ Some (record { entries = rest; last = Some task })
left_by-same task rest = ap (λ same. cond same (Some (record { entries = rest; last = Some task })) None) (eq-eqb task task refl)

-- one pick that gives this task, and then more of them
one-more : (running : List ℕ) (task more : ℕ) (order : Order) (rest : List ℕ) → pick running order.entries order.last ≡ Picked task rest
    → left_in_row running task (suc more) order ≡ left_in_row running task more (record { entries = rest; last = Some task })
unfolding left_in_row
one-more running task more order rest picked =
    ap (λ p. option_and_then (left_in_row running task more) (left_by task p)) picked
    ∙ ap (option_and_then (left_in_row running task more)) (left_by-same task rest)

-- no pick
no-more : (running : List ℕ) (task : ℕ) (order : Order) → left_in_row running task 0 order ≡ Some order
unfolding left_in_row
no-more running task order = refl

-- an entry in front that names a running task is picked
pick-front : (running : List ℕ) (task entry : ℕ) (rest : List ℕ) (last : Option ℕ) → list_any (λ t. eqb t task) running ≡ true → entry ≡ task → pick running (entry ∷ rest) last ≡ Picked task rest
pick-front running task entry rest last runs same =
    ap (λ e. pick running (e ∷ rest) last) same
    ∙ ap (λ b. or_turn (cond b (Picked task rest) (pick_entry running rest)) (in_turn running last)) runs

-- entries in front that name a running task are picked one after another
front-in_row : (running : List ℕ) (task more : ℕ) (entries : List ℕ) (last : Option ℕ) → list_any (λ t. eqb t task) running ≡ true → suc more ≤ front_count task entries
    → left_in_row running task (suc more) (record { entries = entries; last = last }) ≡ Some (record { entries = drop (suc more) entries; last = Some task })
front-in_row running task more [] last runs some = absurd (omega arith)
front-in_row running task zero (entry ∷ rest) last runs some =
    let first = front-cons task entry rest 0 some in
    one-more running task 0 _ rest (pick-front running task entry rest last runs first.0) ∙ no-more running task _
front-in_row running task (suc more) (entry ∷ rest) last runs some =
    let first = front-cons task entry rest (suc more) some in
    one-more running task (suc more) _ rest (pick-front running task entry rest last runs first.0) ∙ front-in_row running task more rest (Some task) runs first.1

-- picks are the same once the entries of tasks that do not run are passed over
pick-from_running : (running entries : List ℕ) (last : Option ℕ) → pick running (from_running running entries) last ≡ pick running entries last
pick-from_running running entries last = ap (λ p. or_turn p (in_turn running last)) (pick_entry-from_running running entries)

-- and so is a row of them
left_in_row-skipped : (running : List ℕ) (task more : ℕ) (entries : List ℕ) (last : Option ℕ)
    → left_in_row running task (suc more) (record { entries = entries; last = last }) ≡ left_in_row running task (suc more) (record { entries = from_running running entries; last = last })
unfolding left_in_row
left_in_row-skipped running task more entries last = ap (λ p. option_and_then (left_in_row running task more) (left_by task p)) (sym (pick-from_running running entries last))

-- with entries left: the row of those in front
in_row-entries : (running : List ℕ) (task made : ℕ) (entries : List ℕ) (last : Option ℕ) → list_any (λ t. eqb t task) running ≡ true → 1 ≤ made → made ≤ front_count task (from_running running entries)
    → left_in_row running task made (record { entries = entries; last = last }) ≡ Some (record { entries = drop made (from_running running entries); last = Some task })
in_row-entries running task zero entries last runs some fits = absurd (omega arith)
in_row-entries running task (suc more) entries last runs some fits = left_in_row-skipped running task more entries last ∙ front-in_row running task more (from_running running entries) last runs fits

-- the same, by the count of a row
counted : (running : List ℕ) (task count : ℕ) (old left : List ℕ) → left ≡ from_running running old → count ≡ min most_count (front_count task left) → count ≤ front_count task (from_running running old)
counted running task count old left skipped counts = let same : front_count task left ≡ front_count task (from_running running old) = ap (front_count task) skipped in omega arith

pub counted-runs : (running : List ℕ) (task count : ℕ) (old left : List ℕ) → left ≡ from_running running old → count ≡ min most_count (front_count task left) → 1 ≤ count → list_any (λ t. eqb t task) running ≡ true
counted-runs running task count old left skipped counts some = let fits = counted running task count old left skipped counts in front-runs running old task (omega arith)

pub counted-in_row : (running : List ℕ) (task count made : ℕ) (old left : List ℕ) (last : Option ℕ) → left ≡ from_running running old → count ≡ min most_count (front_count task left) → 1 ≤ made → made ≤ count
    → left_in_row running task made (record { entries = old; last = last }) ≡ Some (record { entries = drop made left; last = Some task })
counted-in_row running task count made old left last skipped counts some fits =
    let all = counted running task count old left skipped counts in
    in_row-entries running task made old last (counted-runs running task count old left skipped counts (omega arith)) some (omega arith)
    ∙ ap (λ es. Some (record { entries = drop made es; last = Some task })) (sym skipped)

-- with no entry left the task whose turn it is is picked
pick-turn : (running : List ℕ) (task : ℕ) (last : Option ℕ) → in_turn running last ≡ Some task → pick running [] last ≡ Picked task []
pick-turn running task last turn = ap (λ t. or_turn NoTask t) turn

-- a task that runs alone comes again
least-only : (only : ℕ) → least_from 0 (only ∷ []) ≡ Some only
least-only only = ap (λ b. cond b (Some only) None) (le-leb 0 only (omega arith))

turn-alone : (only : ℕ) → in_turn (only ∷ []) (Some only) ≡ Some only
turn-alone only = ap (λ b. or_least (cond b (Some only) None) (only ∷ [])) (lt-leb (only + 1) only (omega arith)) ∙ least-only only

alone-in_row : (only more : ℕ) (last : Option ℕ) → in_turn (only ∷ []) last ≡ Some only
    → left_in_row (only ∷ []) only (suc more) (record { entries = []; last = last }) ≡ Some (record { entries = []; last = Some only })
alone-in_row only zero last turn = one-more (only ∷ []) only 0 _ [] (pick-turn (only ∷ []) only last turn) ∙ no-more (only ∷ []) only _
alone-in_row only (suc more) last turn = one-more (only ∷ []) only (suc more) _ [] (pick-turn (only ∷ []) only last turn) ∙ alone-in_row only more (Some only) (turn-alone only)

-- one step of it
one-in_row : (running : List ℕ) (task made : ℕ) (last : Option ℕ) → in_turn running last ≡ Some task → 1 ≤ made → made ≤ 1
    → left_in_row running task made (record { entries = []; last = last }) ≡ Some (record { entries = []; last = Some task })
one-in_row running task zero last turn some fits = absurd (omega arith)
one-in_row running task (suc zero) last turn some fits = one-more running task 0 _ [] (pick-turn running task last turn) ∙ no-more running task _
one-in_row running task (suc (suc more)) last turn some fits = absurd (omega arith)

some-same : (only task : ℕ) → Some only ≡ Some task → only ≡ task
some-same only task same = cc

-- where one task runs, it is its turn
or-only : (only task : ℕ) (above : Bool) → or_least (cond above (Some only) None) (only ∷ []) ≡ Some task → only ≡ task
or-only only task true turn = some-same only task turn
or-only only task false turn = some-same only task (sym (least-only only) ∙ turn)

turn-only : (only task : ℕ) (last : Option ℕ) → in_turn (only ∷ []) last ≡ Some task → only ≡ task
turn-only only task None turn = some-same only task (sym (least-only only) ∙ turn)
turn-only only task (Some last) turn = or-only only task (leb (last + 1) only) turn

-- as many steps of it as it makes in turn
turn-in_row : (running : List ℕ) (task made : ℕ) (last : Option ℕ) → in_turn running last ≡ Some task → 1 ≤ made → made ≤ turn_count running
    → left_in_row running task made (record { entries = []; last = last }) ≡ Some (record { entries = []; last = Some task })
turn-in_row [] task made last turn some fits = one-in_row [] task made last turn some fits
turn-in_row (only ∷ []) task zero last turn some fits = absurd (omega arith)
turn-in_row (only ∷ []) task (suc more) last turn some fits =
    let same = turn-only only task last turn in
    ap (λ t. left_in_row (only ∷ []) t (suc more) (record { entries = []; last = last })) (sym same)
    ∙ alone-in_row only more last (turn ∙ ap Some (sym same))
    ∙ ap (λ t. Some (record { entries = []; last = Some t })) same
turn-in_row (first ∷ second ∷ others) task made last turn some fits = one-in_row (first ∷ second ∷ others) task made last turn some fits

-- with no entry of a running task left: the row of the task whose turn it is
pub in_row-turn : (running : List ℕ) (task made : ℕ) (old left : List ℕ) (last : Option ℕ) → left ≡ from_running running old → left ≡ [] → in_turn running last ≡ Some task → 1 ≤ made → made ≤ turn_count running
    → left_in_row running task made (record { entries = old; last = last }) ≡ Some (record { entries = drop made left; last = Some task })
in_row-turn running task zero old left last skipped none turn some fits = absurd (omega arith)
in_row-turn running task (suc more) old left last skipped none turn some fits =
    left_in_row-skipped running task more old last
    ∙ ap (λ es. left_in_row running task (suc more) (record { entries = es; last = last })) (sym skipped ∙ none)
    ∙ turn-in_row running task (suc more) last turn some fits
    ∙ ap (λ es. Some (record { entries = drop (suc more) es; last = Some task })) (sym none)

-- the first pick of a row, and what is left of the row after it
first-choice-of_row : (running : List ℕ) (task more picked : ℕ) (rest : List ℕ) (new : Order) (same : Bool) → eqb picked task ≡ same → option_and_then (left_in_row running task more) (cond same (Some (record { entries = rest; last = Some task })) None) ≡ Some new
    → (Picked picked rest ≡ Picked task rest) × (left_in_row running task more (record { entries = rest; last = Some task }) ≡ Some new)
first-choice-of_row running task more picked rest new true same left = (ap (λ t. Picked t rest) (eqb-true picked task same), left)
first-choice-of_row running task more picked rest new false differs left = absurd (cc)

first-pick-of_row : (running : List ℕ) (task more : ℕ) (new : Order) (p : Pick) → option_and_then (left_in_row running task more) (left_by task p) ≡ Some new
    → (rest : List ℕ) × ((p ≡ Picked task rest) × (left_in_row running task more (record { entries = rest; last = Some task }) ≡ Some new))
first-pick-of_row running task more new NoTask left = absurd (cc)
first-pick-of_row running task more new (Picked picked rest) left = (rest, first-choice-of_row running task more picked rest new (eqb picked task) refl left)

pub first-of_row : (running : List ℕ) (task more : ℕ) (old new : Order) → left_in_row running task (suc more) old ≡ Some new
    → (rest : List ℕ) × ((pick running old.entries old.last ≡ Picked task rest) × (left_in_row running task more (record { entries = rest; last = Some task }) ≡ Some new))
unfolding left_in_row
first-of_row running task more old new left = first-pick-of_row running task more new (pick running old.entries old.last) left

some-entries : (left new : Order) → Some left ≡ Some new → left.entries ≡ new.entries
some-entries left new same = cc

-- a row of one step is the pick
pub pick-of_row : (running : List ℕ) (task : ℕ) (old new : Order) → left_in_row running task 1 old ≡ Some new → Picked task new.entries ≡ pick running old.entries old.last
pick-of_row running task old new left =
    let first = first-of_row running task 0 old new left in
    let rest : Some (record { entries = first.0; last = Some task }) ≡ Some new = sym (no-more running task _) ∙ first.1.1 in
    sym (first.1.0 ∙ ap (Picked task) (some-entries _ new rest))

-- The entries that are left, item by item.
use Rattle.std.proofs.Common.{◌≡◌, ℕ, ◌+◌, ◌-◌, ◌^◌, ◌<◌, ◌≤◌, suc, zero, true, false, cond, eqb, List, [], ◌∷◌, ◌++◌, length, get_or, set, drop, flat_map, replicate, min, refl, ap, sym, ◌∙◌, append_assoc, arith}
use Rattle.std.proofs.Math.Seq.{drop-append-add}
use Rattle.std.proofs.lemmas.Bool.{eq-eqb, ne_eqb}
use Rattle.std.proofs.lemmas.List.{at_drop_more, at_drop_all, drop-set, drop-append-le, drop-replicate, length-replicate, replicate-append-replicate}
use Rattle.std.specs.List.{list_any}
use Rattle.task_sched.specs.declared.item.Item.{Item}
use Rattle.task_sched.specs.InRow.{from_running, front_count}
use Rattle.task_sched.specs.Items.{entries_of, entries_from}
use Rattle.task_sched.specs.Limits.{most_count}

-- the entries from a place on are those of the item there, and the rest
pub entries_from-item : (items : List Item) (place : ℕ) (none : Item) → place < length items → entries_from place items ≡ entries_of (get_or items place none) ++ entries_from (place + 1) items
entries_from-item items place none within = at_drop_more (flat_map entries_of) items place none within

-- the same of an item that is told
front-item : (items : List Item) (place task count : ℕ) (none : Item) → place < length items → get_or items place none ≡ record { task = task; count = count } → entries_from place items ≡ replicate count task ++ entries_from (place + 1) items
front-item items place task count none within here = entries_from-item items place none within ∙ ap (λ item. entries_of item ++ entries_from (place + 1) items) here

-- past the last item there are none
pub entries_from-none : (items : List Item) (place : ℕ) → length items ≤ place → entries_from place items ≡ []
entries_from-none items place past = at_drop_all (flat_map entries_of) items place past

-- an item is replaced
pub entries_from-set : (items : List Item) (place task count : ℕ) → place < length items → entries_from place (set items place (record { task = task; count = count })) ≡ replicate count task ++ entries_from (place + 1) items
entries_from-set items place task count within = ap (flat_map entries_of) (drop-set items place (record { task = task; count = count }) within)

-- the entries of a task that does not run are passed over, however many
from_running-ended : (running : List ℕ) (task count : ℕ) (rest : List ℕ) → list_any (λ t. eqb t task) running ≡ false → from_running running (replicate count task ++ rest) ≡ from_running running rest
from_running-ended running task zero rest ended = refl
from_running-ended running task (suc count) rest ended = ap (λ b. cond b (task ∷ replicate count task ++ rest) (from_running running (replicate count task ++ rest))) ended ∙ from_running-ended running task count rest ended

-- an item of such a task is passed
pub from_running-pass : (running : List ℕ) (items : List Item) (place : ℕ) (none : Item) → place < length items → list_any (λ t. eqb t (get_or items place none).task) running ≡ false
    → from_running running (entries_from (place + 1) items) ≡ from_running running (entries_from place items)
from_running-pass running items place none within ended = sym (ap (from_running running) (entries_from-item items place none within) ∙ from_running-ended running _ _ _ ended)

stay-runs : (running : List ℕ) (task count : ℕ) (rest : List ℕ) → 1 ≤ count → list_any (λ t. eqb t task) running ≡ true → from_running running (replicate count task ++ rest) ≡ replicate count task ++ rest
stay-runs running task zero rest some runs = absurd (omega arith)
stay-runs running task (suc count) rest some runs = ap (λ b. cond b (task ∷ replicate count task ++ rest) (from_running running (replicate count task ++ rest))) runs

-- an item of a running task stays
pub from_running-stay : (running : List ℕ) (items : List Item) (place : ℕ) (none : Item) → place < length items → 1 ≤ (get_or items place none).count → list_any (λ t. eqb t (get_or items place none).task) running ≡ true
    → entries_from place items ≡ from_running running (entries_from place items)
from_running-stay running items place none within some runs =
    let item = entries_from-item items place none within in
    sym (ap (from_running running) item ∙ stay-runs running _ _ _ some runs ∙ sym item)

-- two items of one task are joined into the second
pub entries_from-join : (items : List Item) (place task count more : ℕ) (none : Item) → place + 1 < length items → get_or items place none ≡ record { task = task; count = count } → get_or items (place + 1) none ≡ record { task = task; count = more }
    → entries_from (place + 1) (set items (place + 1) (record { task = task; count = count + more })) ≡ entries_from place items
entries_from-join items place task count more none within here next =
    entries_from-set items (place + 1) task (count + more) within
    ∙ ap (λ es. es ++ entries_from (place + 1 + 1) items) (sym (replicate-append-replicate count more task))
    ∙ append_assoc (replicate count task) (replicate more task) _
    ∙ ap (λ es. replicate count task ++ es) (sym (front-item items (place + 1) task more none within next))
    ∙ sym (front-item items place task count none (omega arith) here)

-- how many entries in front name a task: those of an item of it, and more
pub front_count-same : (task count : ℕ) (rest : List ℕ) → front_count task (replicate count task ++ rest) ≡ count + front_count task rest
front_count-same task zero rest = omega arith
front_count-same task (suc count) rest =
    ap (λ b. cond b (1 + front_count task (replicate count task ++ rest)) 0) (eq-eqb task task refl)
    ∙ (let more = front_count-same task count rest in omega arith)

-- and none where an item of another task comes first
pub front_count-other : (task other count : ℕ) (rest : List ℕ) → 1 ≤ count → eqb other task ≡ false → front_count task (replicate count other ++ rest) ≡ 0
front_count-other task other zero rest some differs = absurd (omega arith)
front_count-other task other (suc count) rest some differs = ap (λ b. cond b (1 + front_count task (replicate count other ++ rest)) 0) differs

-- so many entries are passed: within an item, and past it
pub drop-within : (count passed task : ℕ) (rest : List ℕ) → passed ≤ count → replicate (count - passed) task ++ rest ≡ drop passed (replicate count task ++ rest)
drop-within count passed task rest fits =
    let enough : passed ≤ length (replicate count task) = omega (arith, length-replicate count task) in
    sym (drop-append-le passed (replicate count task) rest enough ∙ ap (λ es. es ++ rest) (drop-replicate passed count task))

pub drop-past : (count passed task : ℕ) (rest : List ℕ) → count ≤ passed → drop (passed - count) rest ≡ drop passed (replicate count task ++ rest)
drop-past count passed task rest past =
    let whole : length (replicate count task) + (passed - count) ≡ passed = omega (arith, length-replicate count task) in
    sym (ap (λ n. drop n (replicate count task ++ rest)) (sym whole) ∙ drop-append-add (replicate count task) rest (passed - count))

-- the count of an item in front, where another task comes next
exact-count : (entries rest : List ℕ) (task count : ℕ) → count < 2 ^ 64 → entries ≡ replicate count task ++ rest → front_count task rest ≡ 0 → count ≡ min most_count (front_count task entries)
exact-count entries rest task count few front none =
    let exact : front_count task entries ≡ count + front_count task rest = ap (front_count task) front ∙ front_count-same task count rest in
    omega arith

pub front_count-last : (items : List Item) (place task count : ℕ) (none : Item) → place < length items → get_or items place none ≡ record { task = task; count = count } → count < 2 ^ 64 → length items ≤ place + 1
    → count ≡ min most_count (front_count task (entries_from place items))
front_count-last items place task count none within here few past =
    exact-count _ _ task count few (front-item items place task count none within here) (ap (front_count task) (entries_from-none items (place + 1) past))

pub front_count-next : (items : List Item) (place task count : ℕ) (none : Item) → place + 1 < length items → get_or items place none ≡ record { task = task; count = count } → count < 2 ^ 64 → 1 ≤ (get_or items (place + 1) none).count → ((get_or items (place + 1) none).task ≡ task → ⊥)
    → count ≡ min most_count (front_count task (entries_from place items))
front_count-next items place task count none within here few some differs =
    exact-count _ _ task count few (front-item items place task count none (omega arith) here)
    (ap (front_count task) (entries_from-item items (place + 1) none within) ∙ front_count-other task _ _ _ some (ne_eqb _ _ differs))

-- where two items of one task have more entries than 64 bits count
most-count : (entries rest : List ℕ) (task count more : ℕ) → 2 ^ 64 ≤ count + more → entries ≡ replicate count task ++ (replicate more task ++ rest) → most_count ≡ min most_count (front_count task entries)
most-count entries rest task count more many front =
    let first : front_count task entries ≡ count + front_count task (replicate more task ++ rest) = ap (front_count task) front ∙ front_count-same task count (replicate more task ++ rest) in
    let second = front_count-same task more rest in
    omega arith

pub front_count-most : (items : List Item) (place task count more : ℕ) (none : Item) → place + 1 < length items → get_or items place none ≡ record { task = task; count = count } → get_or items (place + 1) none ≡ record { task = task; count = more } → 2 ^ 64 ≤ count + more
    → most_count ≡ min most_count (front_count task (entries_from place items))
front_count-most items place task count more none within here next many =
    most-count _ (entries_from (place + 1 + 1) items) task count more many
    (front-item items place task count none (omega arith) here ∙ ap (λ es. replicate count task ++ es) (front-item items (place + 1) task more none within next))

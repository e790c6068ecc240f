-- A text has no fault exactly where it is a schedule.
use Rattle.std.proofs.Common.{◌≡◌, ◌≢◌, ℕ, ◌+◌, ◌<◌, ◌≤◌, inl, inr, ⊎_elim, Bool, true, false, cond, leb, List, [], ◌∷◌, ◌++◌, length, Option, Some, None, IsSomeAnd, refl, ap, ◌∙◌, arith}
use Rattle.std.specs.List.{AllByRecursion, cons_option}
use Rattle.std.proofs.lemmas.Bool.{leb-false, lt-leb}
use Rattle.std.proofs.lemmas.List.Elements.{recursion_from_All, All-from_recursion, filter_map-append}
use Rattle.std.proofs.lemmas.List.{length-append}
use Rattle.task_sched.specs.declared.error.SchedError.{SchedError}
use Rattle.task_sched.specs.declared.error.SchedError.TheVariants.{BadTask, TooMany, OutOfMemory}
use Rattle.task_sched.specs.declared.item.Item.{Item}
use Rattle.task_sched.specs.Limits.{most_items}
use Rattle.task_sched.specs.Faults.{item_fault, piece_fault, first_fault, sched_fault, or_else}
use Rattle.task_sched.specs.Grammar.{IsPiece, IsSchedule}
use Rattle.task_sched.specs.Items.{item_of, items_in}
use Rattle.text_lines.specs.Pieces.{pieces}

neither : {A : Type 0} (first second : Option A) → or_else first second ≡ None → (first ≡ None) × (second ≡ None)
neither None second none = (refl, none)
neither (Some x) second none = absurd (cc)

-- an item without a fault
tests_false : (tasks line earlier task : ℕ) (wrong many : Bool) → cond wrong (Some (BadTask line)) (cond many (Some (TooMany line)) None) ≡ None → (wrong ≡ false) × (many ≡ false)
tests_false tasks line earlier task true many none = absurd (cc)
tests_false tasks line earlier task false true none = absurd (cc)
tests_false tasks line earlier task false false none = (refl, refl)

item_faultless : (tasks line earlier : ℕ) (found : Option Item) → item_fault tasks line earlier found ≡ None → IsSomeAnd found (λ item. item.task < tasks) × (earlier < most_items)
item_faultless tasks line earlier None none = absurd (cc)
item_faultless tasks line earlier (Some item) none =
    let tests = tests_false tasks line earlier item.task (leb tasks item.task) (leb most_items earlier) none in
    (leb-false tasks item.task tests.0, leb-false most_items earlier tests.1)

item_faultless_back : (tasks line earlier : ℕ) (found : Option Item) → IsSomeAnd found (λ item. item.task < tasks) → earlier < most_items → item_fault tasks line earlier found ≡ None
item_faultless_back tasks line earlier None is few = absurd is
item_faultless_back tasks line earlier (Some item) is few =
    ap (λ wrong. cond wrong (Some (BadTask line)) (cond (leb most_items earlier) (Some (TooMany line)) None)) (lt-leb tasks item.task is)
    ∙ ap (λ many. cond many (Some (TooMany line)) None) (lt-leb most_items earlier few)

one_more : (found : Option Item) (tasks : ℕ) → IsSomeAnd found (λ item. item.task < tasks) → (items : List Item) → length (cons_option found items) ≡ length items + 1
one_more None tasks is items = absurd is
one_more (Some item) tasks is items = omega arith

-- a piece that is an item is one item more
one_item : (bytes : List ℕ) (tasks : ℕ) → IsSomeAnd (item_of bytes) (λ item. item.task < tasks) → (rest : List (List ℕ)) → length (items_in (bytes ∷ rest)) ≡ length (items_in rest) + 1
one_item bytes tasks is rest = one_more (item_of bytes) tasks is (items_in rest)

-- the items before a piece and the piece's
pub length-items_in-push : (before : List (List ℕ)) (piece : List ℕ) → length (items_in (before ++ piece ∷ [])) ≡ length (items_in before) + length (items_in (piece ∷ []))
length-items_in-push before piece = ap length (filter_map-append item_of before (piece ∷ [])) ∙ length-append (items_in before) (items_in (piece ∷ []))

-- pieces without a fault, after these
pieces_faultless : (tasks : ℕ) (before all : List (List ℕ)) → length (items_in before) ≤ most_items → first_fault tasks before all ≡ None
    → AllByRecursion (IsPiece tasks) all × (length (items_in before) + length (items_in all) ≤ most_items)
pieces_faultless tasks before [] few none = (tt, omega arith)
pieces_faultless tasks before ([] ∷ rest) few none =
    let further = pieces_faultless tasks (before ++ [] ∷ []) rest (omega (arith, length-items_in-push before [])) none in
    ((inl refl, further.0), omega (arith, further.1, length-items_in-push before []))
pieces_faultless tasks before ((byte ∷ bytes) ∷ rest) few none =
    let faults = neither (piece_fault tasks (length before + 1) (length (items_in before)) (byte ∷ bytes)) _ none in
    let here = item_faultless tasks _ _ (item_of (byte ∷ bytes)) faults.0 in
    let single = one_item (byte ∷ bytes) tasks here.0 [] in
    let more = one_item (byte ∷ bytes) tasks here.0 rest in
    let push = length-items_in-push before (byte ∷ bytes) in
    let further = pieces_faultless tasks (before ++ (byte ∷ bytes) ∷ []) rest (omega (arith, here.1, single, push)) faults.1 in
    ((inr here.0, further.0), omega (arith, further.1, single, more, push))

pieces_faultless_back : (tasks : ℕ) (before all : List (List ℕ)) → AllByRecursion (IsPiece tasks) all → length (items_in before) + length (items_in all) ≤ most_items → first_fault tasks before all ≡ None
pieces_faultless_back tasks before [] are few = refl
pieces_faultless_back tasks before ([] ∷ rest) are few = pieces_faultless_back tasks (before ++ [] ∷ []) rest are.1 (omega (arith, length-items_in-push before []))
pieces_faultless_back tasks before ((byte ∷ bytes) ∷ rest) are few =
    let is : IsSomeAnd (item_of (byte ∷ bytes)) (λ item. item.task < tasks) = ⊎_elim (λ empty. absurd (cc)) (λ is. is) are.0 in
    let single = one_item (byte ∷ bytes) tasks is [] in
    let more = one_item (byte ∷ bytes) tasks is rest in
    let push = length-items_in-push before (byte ∷ bytes) in
    ap (λ fault. or_else fault (first_fault tasks (before ++ (byte ∷ bytes) ∷ []) rest)) (item_faultless_back tasks (length before + 1) (length (items_in before)) (item_of (byte ∷ bytes)) is (omega (arith, more)))
    ∙ pieces_faultless_back tasks (before ++ (byte ∷ bytes) ∷ []) rest are.1 (omega (arith, single, more, push))

pub IsSchedule-from_faultless : (text : List ℕ) (tasks : ℕ) → sched_fault text tasks ≡ None → IsSchedule text tasks
IsSchedule-from_faultless text tasks none =
    let found = pieces_faultless tasks [] (pieces text) (omega arith) none in
    record { all = All-from_recursion (IsPiece tasks) (pieces text) found.0; few = omega (arith, found.1) }

pub faultless-from_IsSchedule : (text : List ℕ) (tasks : ℕ) → IsSchedule text tasks → sched_fault text tasks ≡ None
faultless-from_IsSchedule text tasks is = pieces_faultless_back tasks [] (pieces text) (recursion_from_All (IsPiece tasks) (pieces text) is.all) (omega (arith, is.few))

-- no fault is want of memory
or_else-no_memory : (first second : Option SchedError) → first ≢ Some OutOfMemory → second ≢ Some OutOfMemory → or_else first second ≢ Some OutOfMemory
or_else-no_memory None second one other = other
or_else-no_memory (Some error) second one other = one

tests-no_memory : (line : ℕ) (wrong many : Bool) → cond wrong (Some (BadTask line)) (cond many (Some (TooMany line)) None) ≢ Some OutOfMemory
tests-no_memory line true many = λ same. absurd cc
tests-no_memory line false true = λ same. absurd cc
tests-no_memory line false false = λ same. absurd cc

item_fault-no_memory : (tasks line earlier : ℕ) (found : Option Item) → item_fault tasks line earlier found ≢ Some OutOfMemory
item_fault-no_memory tasks line earlier None = λ same. absurd cc
item_fault-no_memory tasks line earlier (Some item) = tests-no_memory line (leb tasks item.task) (leb most_items earlier)

first_fault-no_memory : (tasks : ℕ) (before all : List (List ℕ)) → first_fault tasks before all ≢ Some OutOfMemory
first_fault-no_memory tasks before [] = λ same. absurd cc
first_fault-no_memory tasks before ([] ∷ rest) = first_fault-no_memory tasks (before ++ [] ∷ []) rest
first_fault-no_memory tasks before ((byte ∷ bytes) ∷ rest) =
    or_else-no_memory _ _ (item_fault-no_memory tasks (length before + 1) (length (items_in before)) (item_of (byte ∷ bytes))) (first_fault-no_memory tasks (before ++ (byte ∷ bytes) ∷ []) rest)

pub sched_fault-no_memory : (text : List ℕ) (tasks : ℕ) → sched_fault text tasks ≢ Some OutOfMemory
sched_fault-no_memory text tasks = first_fault-no_memory tasks [] (pieces text)

-- A step of one task of a machine.
use Rattle.std.proofs.Common.{◌≡◌, ℕ, zero, suc, ◌*◌, ◌<◌, ◌≤◌, true, List, [], ◌∷◌, ◌++◌, length, Option, Some, None, Result, IfSome, refl, sym, ◌∙◌, ap, subst, arith}
use Rattle.std.specs.Prelude.{flat_map, slice_get, slice_index_or, slice_set}
use Rattle.std.specs.List.{AllByRecursion}
use Rattle.std.proofs.lemmas.List.{length-append, set-get_or}
use Rattle.std.proofs.lemmas.Option.{get_or_from_slice_get}
use Rattle.hic_isa.specs.declared.instr.Instr.{Instr}
use Rattle.hic_word.specs.declared.Word.{Word}
use Rattle.hic_word.specs.Lists.{times}
use Rattle.hic_word.specs.Names.{names_in}
use Rattle.hic_word.specs.Exchanges.{KeepsLines}
use Rattle.hic_word.specs.Holds.{Holds}
use Rattle.hic_word.specs.InMemory.{ChangesFor}
use Rattle.hic_word.specs.Memory.{Memory, line_at, width}
use Rattle.hic_word.specs.Stands.{AWord, Lookup, WordsFor}
use Rattle.hic_word.specs.Values.{Array, Value}
use Rattle.hic_word.proofs.callers.Holds.{but_at, holding_is_by_counts, names-append, replaced, taken_length, taken_out}
use Rattle.iter_regs.specs.declared.opened.Open.{Open}
use Rattle.iter_regs.specs.Iters.{iter_words, words_of}
use Rattle.write_buf.specs.WordPairs.{WordPairs}
use Rattle.segment_map.specs.declared.Segment.{Segment as Stored}
use Rattle.segment_map.specs.Segments.{roots}
use Rattle.hic_plain.specs.declared.turn.Trap.{Trap}
use Rattle.hic_plain.specs.declared.turn.Trap.TheVariants as trap
use Rattle.hic_plain.specs.declared.turn.Turn.{Turn}
use Rattle.hic_plain.specs.declared.turn.Turn.TheVariants.{Trapped}
use Rattle.hic_plain.specs.Machine.{Iter, Machine, Segment, Task}
use Rattle.hic_plain.specs.Step.{step}
use Rattle.hic_plain.specs.Valid.{IsIter, IsMachine, IsTask}
use Rattle.hic_plain.proofs.RowLaws.{step-acts, step-past}
use Rattle.hic_plain.proofs.StepLaws.{step-valid}
use Rattle.line_mem.specs.Looks.{LooksUpTo}
use Rattle.hic_task.specs.declared.done.Done.{Done}
use Rattle.hic_task.specs.declared.shared.Shared.{Shared}
use Rattle.hic_task.specs.Looks.{looks_for, looks_of}
use Rattle.hic_task.specs.declared.task.Task.{Task as Kept}
use Rattle.hic_task.specs.Acting.{Acts, CanAct, IsReadyWith, SharedFor, turn_of}
use Rattle.hic_task.specs.Kept.{HoldsFew, ItersFor, SegmentsFor, TaskFor, most_held, task_words}
use Rattle.hic_task.proofs.StandsOn.{AreLive, front_live, rest_live, task_on}
use Rattle.hic_machine.specs.Held.{MachineFor, TasksFor, held_words}
use Rattle.hic_machine.specs.Steps.{IsKept, Stepped, step_looks}
use Rattle.hic_machine.proofs.Rooms.{room_for}

-- ---- one task of several

-- the kept task of a plain one
task_found : (m : Memory) (ks : List Kept) (Ts : List Task) (t : ℕ) (T : Task) (k : Kept) → TasksFor m ks Ts → slice_get Ts t ≡ Some T → (slice_get ks t ≡ Some (slice_index_or ks t k)) × TaskFor m (slice_index_or ks t k) T
task_found m [] [] t T k d e = cc
task_found m [] (U ∷ Ts) t T k d e = absurd d
task_found m (x ∷ ks) [] t T k d e = absurd d
task_found m (x ∷ ks) (U ∷ Ts) zero T k d e = (refl, subst (TaskFor m x) (the_same e) d.0)
  where
    the_same : Some U ≡ Some T → U ≡ T
    the_same f = cc
task_found m (x ∷ ks) (U ∷ Ts) (suc t) T k d e = task_found m ks Ts t T k d.1 e

pub task_in : (m : Memory) (ks : List Kept) (Ts : List Task) (t : ℕ) (T : Task) (x : Kept) → x ≡ slice_index_or ks t x → TasksFor m ks Ts → slice_get Ts t ≡ Some T → (slice_get ks t ≡ Some x) × TaskFor m x T
task_in m ks Ts t T x is d e =
    let (there, stands) = task_found m ks Ts t T x d e in
    (there ∙ ap (λ (y : Kept). Some y) (sym is), subst (λ y. TaskFor m y T) (sym is) stands)

pub task_below : (m : Memory) (ks : List Kept) (Ts : List Task) (t : ℕ) (T : Task) → TasksFor m ks Ts → slice_get Ts t ≡ Some T → t < length ks
task_below m [] [] t T d e = cc
task_below m [] (U ∷ Ts) t T d e = absurd d
task_below m (x ∷ ks) [] t T d e = absurd d
task_below m (x ∷ ks) (U ∷ Ts) zero T d e = omega arith
task_below m (x ∷ ks) (U ∷ Ts) (suc t) T d e = let a = task_below m ks Ts t T d.1 e in omega (arith, a)

-- ---- the other tasks stand on

module _ (m n : Memory) (H : List Word) (keeps : KeepsLines m n) (held : Holds (width n) n H) where
  pub tasks_on : (ks : List Kept) (Ts : List Task) → AreLive n (flat_map task_words ks) → TasksFor m ks Ts → TasksFor n ks Ts
  tasks_on [] [] live d = tt
  tasks_on [] (T ∷ Ts) live d = absurd d
  tasks_on (k ∷ ks) [] live d = absurd d
  tasks_on (k ∷ ks) (T ∷ Ts) live d = (
    task_on m n H keeps held k T (front_live n (task_words k) (flat_map task_words ks) live) d.0,
    tasks_on ks Ts (rest_live n (task_words k) (flat_map task_words ks) live) d.1,
  )

  -- with another task in the place of one
  tasks_with : (ks : List Kept) (Ts : List Task) (t : ℕ) (k : Kept) (T : Task) → AreLive n (flat_map task_words (slice_set ks t k)) → TaskFor n k T → TasksFor m ks Ts → TasksFor n (slice_set ks t k) (slice_set Ts t T)
  tasks_with [] [] t k T live new d = tt
  tasks_with [] (U ∷ Ts) t k T live new d = absurd d
  tasks_with (u ∷ ks) [] t k T live new d = absurd d
  tasks_with (u ∷ ks) (U ∷ Ts) zero k T live new d = (new, tasks_on ks Ts (rest_live n (task_words k) (flat_map task_words ks) live) d.1)
  tasks_with (u ∷ ks) (U ∷ Ts) (suc t) k T live new d = (
    task_on m n H keeps held u U (front_live n (task_words u) (flat_map task_words (slice_set ks t k)) live) d.0,
    tasks_with ks Ts t k T (rest_live n (task_words u) (flat_map task_words (slice_set ks t k)) live) new d.1,
  )

-- ---- how many words are held

pub stand_length : {w : ℕ} {m : Lookup} (ws : List Word) (vs : List Value) → WordsFor w m ws vs → length ws ≡ length vs
stand_length [] [] d = refl
stand_length [] (v ∷ vs) d = elim d [ ]
stand_length (x ∷ ws) [] d = elim d [ ]
stand_length (x ∷ ws) (v ∷ vs) (AWord d ds) = ap suc (stand_length ws vs ds)

pairs_length : (w : ℕ) (m : Lookup) (cs : WordPairs) (L : Array) → ChangesFor w m cs L → length (words_of cs) ≡ length L
pairs_length w m [] [] d = refl
pairs_length w m [] (p ∷ L) d = absurd d
pairs_length w m (c ∷ cs) [] d = absurd d
pairs_length w m (c ∷ cs) (p ∷ L) d = ap suc (pairs_length w m cs L d.2)

iters_few : (m : Memory) (n : ℕ) (rs : List (Option Open)) (Rs : List (Option Iter)) → AllByRecursion (λ i. IfSome i (IsIter n)) Rs → ItersFor m rs Rs → length (flat_map iter_words rs) ≤ 65 * length Rs
iters_few m n [] [] a d = omega arith
iters_few m n [] (R ∷ Rs) a d = absurd d
iters_few m n (r ∷ rs) [] a d = absurd d
iters_few m n (None ∷ rs) (None ∷ Rs) a d = let b = iters_few m n rs Rs a.1 d.1 in omega (arith, b)
iters_few m n (None ∷ rs) (Some R ∷ Rs) a d = absurd d.0
iters_few m n (Some r ∷ rs) (None ∷ Rs) a d = absurd d.0
iters_few m n (Some r ∷ rs) (Some R ∷ Rs) a d =
    let b = iters_few m n rs Rs a.1 d.1 in
    let c = pairs_length (width m) (line_at m) r.pairs R.buffered d.0.buffered in
    let e = a.0.count in
    let f = length-append (iter_words (Some r)) (flat_map iter_words rs) in
    omega (arith, b, c, e, f)

tasks_few : (m : Memory) (n : ℕ) (ks : List Kept) (Ts : List Task) → AllByRecursion (IsTask n) Ts → TasksFor m ks Ts → length (flat_map task_words ks) ≤ 268 * length Ts
tasks_few m n [] [] a d = omega arith
tasks_few m n [] (T ∷ Ts) a d = absurd d
tasks_few m n (k ∷ ks) [] a d = absurd d
tasks_few m n (k ∷ ks) (T ∷ Ts) a d =
    let b = tasks_few m n ks Ts a.1 d.1 in
    let c = length-append (task_words k) (flat_map task_words ks) in
    let e = length-append k.regs (flat_map iter_words k.iters) in
    let f = stand_length k.regs T.regs d.0.regs in
    let g = iters_few m n k.iters T.iters a.0.iters d.0.iters in
    let h = a.0.eight in
    let i = a.0.four in
    omega (arith, b, c, e, f, g, h, i)

segment_count : (m : Memory) (ss : List Stored) (Ss : List Segment) → SegmentsFor m ss Ss → length (roots ss) ≡ length Ss
segment_count m [] [] d = refl
segment_count m [] (S ∷ Ss) d = absurd d
segment_count m (s ∷ ss) [] d = absurd d
segment_count m (s ∷ ss) (S ∷ Ss) d = ap suc (segment_count m ss Ss d.1)

pub held_few : (m : Memory) (code : List Instr) (ss : List Stored) (input : List ℕ) (ks : List Kept) (P : Machine) → MachineFor m code ss input ks P → length (held_words ss ks) ≤ most_held
held_few m code ss input ks P d =
    let a = length-append (roots ss) (flat_map task_words ks) in
    let b = segment_count m ss P.segments d.segments_for in
    let c = tasks_few m (length P.segments) ks P.tasks d.valid.tasks d.tasks_for in
    let e = d.valid.segment_count in
    let f = d.valid.task_count in
    omega (arith, a, b, c, e, f)

-- ---- the words of the segments and of one task among all

regrouped : (ss : List Stored) (k : Kept) (rest : List Word) (j : ℕ) → times j (names_in (task_words k ++ (roots ss ++ rest))) ≡ times j (names_in ((roots ss ++ task_words k) ++ rest))
regrouped ss k rest j =
    let a = names-append j (task_words k) (roots ss ++ rest) in
    let b = names-append j (roots ss) rest in
    let c = names-append j (roots ss ++ task_words k) rest in
    let e = names-append j (roots ss) (task_words k) in
    omega (arith, a, b, c, e)

taken : (m : Memory) (ss : List Stored) (ks : List Kept) (t : ℕ) (k : Kept) → slice_get ks t ≡ Some k → Holds (width m) m (held_words ss ks) → Holds (width m) m ((roots ss ++ task_words k) ++ flat_map task_words (but_at ks t))
taken m ss ks t k there h = holding_is_by_counts (width m) m _ ((roots ss ++ task_words k) ++ flat_map task_words (but_at ks t)) (regrouped ss k (flat_map task_words (but_at ks t))) (taken_out task_words (roots ss) ks t k there m h)

pub among : (m : Memory) (code : List Instr) (ss : List Stored) (input : List ℕ) (ks : List Kept) (P : Machine) (t : ℕ) (k : Kept) → MachineFor m code ss input ks P → slice_get ks t ≡ Some k → HoldsFew m (roots ss ++ task_words k)
among m code ss input ks P t k d there = record {
  others = flat_map task_words (but_at ks t);
  holds = taken m ss ks t k there d.holds;
  few =
      let a = taken_length task_words (roots ss) ks t k there in
      let b = held_few m code ss input ks P d in
      let u = length-append (roots ss ++ task_words k) (flat_map task_words (but_at ks t)) in
      let v = length-append (roots ss) (task_words k) in
      let x = length-append (task_words k) (roots ss ++ flat_map task_words (but_at ks t)) in
      let y = length-append (roots ss) (flat_map task_words (but_at ks t)) in
      omega (arith, a, b, u, v, x, y);
}

-- ---- a step

module _ (m : Memory) (code : List Instr) (shared : Shared) (ks : List Kept) (P : Machine) (t : ℕ) (T : Task) (k : Kept) (d : MachineFor m code shared.segments shared.input ks P) (is_task : slice_get P.tasks t ≡ Some T) (runs : T.runs ≡ true) (stands : TaskFor m k T) where
  pub can_act : CanAct m k P t T
  can_act = record { valid = d.valid; there = is_task; runs = runs; task_for = stands; room = λ A a. room_for m code shared.segments shared.input ks P d A }

  pub shared_for : SharedFor m shared P
  shared_for = record { segments_for = d.segments_for; input = d.input_is }

  -- a task that acts leaves a machine
  pub stepped : (n : Memory) (after : Shared) (new : Kept) (i : Instr) (result : Result Done Trap) → slice_get ks t ≡ Some k → slice_get code T.pc ≡ Some i → Acts m n shared after k new t i result → Stepped n code after.segments after.input (slice_set ks t new) P t (turn_of result after.printed)
  stepped n after new i result there is_instr acts =
      let acted = acts.acts P T can_act shared_for in
      let r = acts.reshapes in
      let rest = flat_map task_words (but_at ks t) in
      let front = r.holds rest (taken m shared.segments ks t k there d.holds) in
      let held : Holds (width n) n (held_words after.segments (slice_set ks t new)) =
      replaced task_words (roots after.segments) ks t k new there n (holding_is_by_counts (width n) n ((roots after.segments ++ task_words new) ++ rest) _ (λ j. sym (regrouped after.segments new rest j)) front) in
      let is : step P t ≡ (record P { segments = acted.segments; tasks = slice_set P.tasks t acted.left; input = after.input }, turn_of result after.printed) = step-acts P t T i is_task (ap (λ (c : List Instr). slice_get c T.pc) d.code_is ∙ is_instr) ∙ acted.is in
      record {
        left = record P { segments = acted.segments; tasks = slice_set P.tasks t acted.left; input = after.input };
        stands = record {
          holds = held;
          code_is = d.code_is;
          capacity = d.capacity ∙ ap (λ l. l.cap) (sym r.layout);
          segments_for = acted.segments_for;
          tasks_for = tasks_with m n (held_words after.segments (slice_set ks t new)) r.lines held ks P.tasks t new acted.left (rest_live n (roots after.segments) (flat_map task_words (slice_set ks t new)) held.named) acted.task_for d.tasks_for;
          input_is = refl;
          valid = subst IsMachine (ap (λ (x : Machine × Turn). x.0) is) (step-valid P t d.valid (subst (λ o. IfSome o (λ (U : Task). U.runs ≡ true)) (sym is_task) runs));
        };
        is = is;
      }

  -- a task without an instruction
  pub not_stepped : slice_get code T.pc ≡ None → Stepped m code shared.segments shared.input ks P t (Trapped trap.End)
  not_stepped none = record { left = P; stands = d; is = step-past P t T is_task (ap (λ (c : List Instr). slice_get c T.pc) d.code_is ∙ none) }

-- a number at which there is a member is below the length
get_below : {X : Type 0} (xs : List X) (i : ℕ) (x : X) → slice_get xs i ≡ Some x → i < length xs
get_below [] i x e = cc
get_below (y ∷ xs) zero x e = omega arith
get_below (y ∷ xs) (suc i) x e = let a = get_below xs i x e in omega (arith, a)

pub set_back : (ks : List Kept) (t : ℕ) (k : Kept) → slice_get ks t ≡ Some k → slice_set ks t k ≡ ks
set_back ks t k there = ap (slice_set ks t) (sym (get_or_from_slice_get ks t k k there)) ∙ set-get_or ks t k

-- ---- a step of a task that a machine keeps

module _ (m : Memory) (code : List Instr) (shared : Shared) (x : Kept) (t : ℕ) (ks : List Kept) (P : Machine) (h : IsKept m code shared x t ks P) where
  its_task : TaskFor m x h.runs.task
  its_task = (task_in m ks P.tasks t h.runs.task x (sym (get_or_from_slice_get ks t x x h.there)) h.stands.tasks_for h.runs.there).1

  its_instr : {found : Option Instr} → slice_get code x.pc ≡ found → slice_get code h.runs.task.pc ≡ found
  its_instr fetched = ap (slice_get code) (sym its_task.pc) ∙ fetched

  pub ready_with : (i : Instr) → slice_get code x.pc ≡ Some i → IsReadyWith m shared x
  ready_with i e = record {
    held = among m code shared.segments shared.input ks P t x h.stands h.there;
    machine = P;
    number = t;
    task = h.runs.task;
    can_act = can_act m code shared ks P t h.runs.task x h.stands h.runs.there h.runs.runs its_task;
    shared_for = shared_for m code shared ks P t h.runs.task x h.stands h.runs.there h.runs.runs its_task;
    next =
        let low = get_below code x.pc i e in
        let short = h.stands.valid.code_count in
        let same = ap length h.stands.code_is in
        omega (arith, low, short, same);
  }

  pub stepped_on : (n : Memory) (after : Shared) (new : Kept) (i : Instr) (result : Result Done Trap) → slice_get code x.pc ≡ Some i → Acts m n shared after x new t i result → Stepped n code after.segments after.input (slice_set ks t new) P t (turn_of result after.printed)
  stepped_on n after new i result e acts = stepped m code shared ks P t h.runs.task x h.stands h.runs.there h.runs.runs its_task n after new i result h.there (its_instr e) acts

  pub stepped_past : slice_get code x.pc ≡ None → Stepped m code shared.segments shared.input (slice_set ks t x) P t (Trapped trap.End)
  stepped_past e = subst (λ xs. Stepped m code shared.segments shared.input xs P t (Trapped trap.End)) (sym (set_back ks t x h.there)) (not_stepped m code shared ks P t h.runs.task x h.stands h.runs.there h.runs.runs its_task (its_instr e))

  -- the looks of a step are those of its row
  pub looks_there : (i : Instr) (old new : ℕ) → slice_get code x.pc ≡ Some i → ((Q : Machine) (T : Task) → CanAct m x Q t T → SharedFor m shared Q → LooksUpTo (looks_of m.layout.probe Q T i) old new) → LooksUpTo (step_looks m.layout.probe P t) old new
  looks_there i old new e looks =
      let row : step_looks m.layout.probe P t ≡ looks_of m.layout.probe P h.runs.task i = ap (λ o. looks_for o (λ task. looks_for (slice_get P.code task.pc) (λ j. looks_of m.layout.probe P task j))) h.runs.there ∙ ap (λ c. looks_for (slice_get c h.runs.task.pc) (λ j. looks_of m.layout.probe P h.runs.task j)) h.stands.code_is ∙ ap (λ o. looks_for o (λ j. looks_of m.layout.probe P h.runs.task j)) (its_instr e) in
      subst (λ k. LooksUpTo k old new) (sym row) (looks P h.runs.task (can_act m code shared ks P t h.runs.task x h.stands h.runs.there h.runs.runs its_task) (shared_for m code shared ks P t h.runs.task x h.stands h.runs.there h.runs.runs its_task))

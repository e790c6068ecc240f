-- Rows on iterator registers: one is looked up, one is closed, and one is put in place of another.
use Rattle.std.proofs.lemmas.List.{set-get_or}
use Rattle.std.proofs.lemmas.Option.{get_or_from_slice_get, same_Some}
use Rattle.std.proofs.Common.{◌≡◌, ℕ, zero, suc, ◌+◌, ◌<◌, Bool, true, false, ◌↔◌, List, [], ◌∷◌, ◌++◌, length, Option, Some, None, IsSome, Result, Ok, Err, refl, sym, ◌∙◌, ap, subst, arith}
use Rattle.std.specs.Option.{is_some}
use Rattle.std.specs.Prelude.{IfSome, IsTrue, flat_map, slice_get, slice_index_or, slice_set}
use Rattle.hic_isa.specs.declared.instr.Instr.{Instr}
use Rattle.hic_word.specs.declared.Word.{Word}
use Rattle.hic_word.specs.Exchanges.{Exchanges, HoldsAmong}
use Rattle.hic_word.specs.Holds.{HasRoom, IsLive}
use Rattle.hic_word.specs.InMemory.{RootIn, WordIn}
use Rattle.hic_word.specs.Values.{Array, Ref, pairs}
use Rattle.hic_word.specs.Memory.{Memory, width}
use Rattle.hic_word.proofs.callers.Holds.{but_at, exchanges_nothing, exchanges_reshapes, group_exchanged, holding_is_by_counts, names-append, taken_out}
use Rattle.line_mem.specs.Sound.{IsSound}
use Rattle.iter_regs.specs.declared.opened.Open.{Open}
use Rattle.iter_regs.specs.declared.refusal.IterRefusal.{IterRefusal}
use Rattle.iter_regs.specs.declared.refusal.IterRefusal.TheVariants.{Closed}
use Rattle.iter_regs.specs.Iters.{iter_words, of_open}
use Rattle.iter_regs.specs.Iters.{OpenFor as StandsFor, attached as opened, emptied as left}
use Rattle.hic_plain.specs.Iters.{attached, emptied}
use Rattle.hic_plain.specs.declared.turn.Trap.{Trap}
use Rattle.hic_plain.specs.declared.turn.Trap.TheVariants as trap
use Rattle.hic_plain.specs.Limits.{iterator_count}
use Rattle.hic_plain.specs.Machine.{Iter, Machine, Task}
use Rattle.hic_plain.specs.Step.{act}
use Rattle.hic_plain.specs.Turns.{goes_on, iter, next, reg, traps}
use Rattle.hic_plain.specs.Valid.{IsIter}
use Rattle.hic_plain.proofs.Fits.{all-optional}
use Rattle.hic_task.specs.declared.done.Done.{Done}
use Rattle.hic_task.specs.declared.done.Done.TheVariants as done
use Rattle.hic_task.specs.declared.task.Task.{Task as Kept}
use Rattle.hic_task.specs.Acting.{ActsAlone, CanAct, IsReady}
use Rattle.hic_task.specs.Ends.{trap_of}
use Rattle.hic_task.specs.Kept.{IterFor, ItersFor, OpenFor, TaskFor, task_words}
use Rattle.hic_task.proofs.Places.{iters_with, register_for}
use Rattle.hic_task.proofs.Ready.{on_root, standing_live, standing_room, task_valid}
use Rattle.hic_task.proofs.Rows.{trapped, went}
use Rattle.hic_task.proofs.StandsOn.{task_after}

-- ---- open and closed

-- a test of whether something is there, and what it tells
pub is_there : {X : Type 0} (o : Option X) → is_some o ≡ true → (x : X) × (o ≡ Some x)
is_there None e = cc
is_there (Some x) e = (x, refl)

pub is_nothing : {X : Type 0} (o : Option X) → is_some o ≡ false → o ≡ None
is_nothing None e = refl
is_nothing (Some x) e = cc

-- the same of a test that is told so
pub some_told : {X : Type 0} {b : Bool} (o : Option X) → IsTrue b ↔ IsSome o → b ≡ true → (x : X) × (o ≡ Some x)
some_told {b = true} o told e = is_there o (told.0 refl)
some_told {b = false} o told e = cc

pub none_told : {X : Type 0} {b : Bool} (o : Option X) → IsTrue b ↔ IsSome o → b ≡ false → o ≡ None
none_told None told e = refl
none_told {b = true} (Some x) told e = cc
none_told {b = false} (Some x) told e = (let g = told.1 refl in cc)

-- what a call on a register that is open tells, and what one on a register that is closed does
pub told : {X : Type 0} (f : Open → X) {x : X} (r : Option Open) → Ok x ≡ of_open r f → (q : Open) × (r ≡ Some q) × (x ≡ f q)
told f None e = cc
told f (Some q) e = (q, refl, cc)

pub refused : {X : Type 0} (f : Open → X) {e : IterRefusal} (r : Option Open) → Err e ≡ of_open r f → (r ≡ None) × (trap_of e ≡ trap.Closed)
refused f {e} None is = (refl, ap trap_of (let same : e ≡ Closed = cc in same))
refused f (Some q) is = cc

module _ (m : Memory) where
  none_for : (r : Option Open) (R : Option Iter) → IterFor m r R → r ≡ None → R ≡ None
  none_for None None d e = refl
  none_for None (Some R) d e = absurd d
  none_for (Some q) R d e = cc

  some_for : (r : Option Open) (R : Option Iter) (q : Open) → IterFor m r R → r ≡ Some q → (Q : Iter) × (R ≡ Some Q) × OpenFor m q Q
  some_for None R q d e = cc
  some_for (Some p) None q d e = absurd d
  some_for (Some p) (Some Q) q d e = (Q, refl, subst (λ o. OpenFor m o Q) (the_same e) d)
    where
      the_same : Some p ≡ Some q → p ≡ q
      the_same f = cc

-- ---- a register that is looked up

module _ {m : Memory} {k : Kept} (i : ℕ) (r : Option Open) (is : r ≡ slice_index_or k.iters i None) where
  -- it is closed or open in the plain task as well
  pub none_at : {P : Machine} {t : ℕ} {T : Task} → CanAct m k P t T → r ≡ None → iter T i ≡ None
  none_at {T = T} can e = none_for m r (iter T i) (register_for m k T i r can.task_for is) e

  pub open_at : {P : Machine} {t : ℕ} {T : Task} (q : Open) → CanAct m k P t T → r ≡ Some q → (Q : Iter) × (iter T i ≡ Some Q) × OpenFor m q Q
  open_at {T = T} q can e = some_for m r (iter T i) q (register_for m k T i r can.task_for is) e

  -- with a closed one nothing is done
  pub closed_row : {instr : Instr} {x : Trap} → r ≡ None → x ≡ trap.Closed → ((P : Machine) (t : ℕ) (T : Task) → iter T i ≡ None → act P t T instr ≡ traps P trap.Closed) → ActsAlone m m k k instr (Err x)
  closed_row none e row = trapped (λ P t T can. row P t T (none_at can none) ∙ ap (traps P) (sym e))

  -- the snapshot of an open one
  pub snapshot_at : {P : Machine} {t : ℕ} {T : Task} {x : Word} → CanAct m k P t T → Ok x ≡ of_open r (λ q. q.cursor.root) → (Q : Iter) × (iter T i ≡ Some Q) × WordIn m x (Ref (pairs Q.snapshot))
  snapshot_at can e =
      let (q, opened, root) = told (λ q. q.cursor.root) r e in
      let (Q, at, for) = open_at q can opened in
      (Q, at, subst (λ y. WordIn m y (Ref (pairs Q.snapshot))) (sym root) for.cursor.root_for.word)

-- one of a machine that can act is valid, so that it can be read
pub iter_valid : {m : Memory} {k : Kept} (P : Machine) (t : ℕ) (T : Task) (i : ℕ) → CanAct m k P t T → IfSome (iter T i) (IsIter (length P.segments))
iter_valid P t T i can = all-optional (IsIter (length P.segments)) T.iters i (task_valid P t T can.valid can.there).iters

pub valid_at : {m : Memory} {k : Kept} (P : Machine) (t : ℕ) (T : Task) (i : ℕ) (Q : Iter) → CanAct m k P t T → iter T i ≡ Some Q → IsIter (length P.segments) Q
valid_at P t T i Q can e = subst (λ o. IfSome o (IsIter (length P.segments))) e (iter_valid P t T i can)

pub stands_for : {m : Memory} {n : ℕ} {q : Open} {Q : Iter} → IsIter n Q → OpenFor m q Q → StandsFor m q Q.snapshot Q.buffered
stands_for valid d = record { can_apply = record { root_for = d.cursor.root_for; changes_for = d.buffered; ascend = valid.buffered }; cursor = d.cursor }

-- ---- a register in place of another

-- what stands at a place of a list
within : {X : Type 0} (xs : List X) (i : ℕ) (d : X) → i < length xs → slice_get xs i ≡ Some (slice_index_or xs i d)
within [] i d low = absurd (omega (arith, low))
within (x ∷ xs) zero d low = refl
within (x ∷ xs) (suc i) d low = within xs i d (omega (arith, low))

-- as many registers as in the plain task
iters_length : (m : Memory) (rs : List (Option Open)) (Rs : List (Option Iter)) → ItersFor m rs Rs → length rs ≡ length Rs
iters_length m [] [] d = refl
iters_length m [] (R ∷ Rs) d = absurd d
iters_length m (r ∷ rs) [] d = absurd d
iters_length m (r ∷ rs) (R ∷ Rs) d = ap suc (iters_length m rs Rs d.1)

-- another register with the same words
words_set : (rs : List (Option Open)) (j : ℕ) (r s : Option Open) → slice_get rs j ≡ Some r → iter_words s ≡ iter_words r → flat_map iter_words (slice_set rs j s) ≡ flat_map iter_words rs
words_set [] j r s there e = refl
words_set (t ∷ rs) zero r s there e = ap (λ ws. ws ++ flat_map iter_words rs) (e ∙ ap iter_words (sym (same_Some t r there)))
words_set (t ∷ rs) (suc j) r s there e = ap (λ ws. iter_words t ++ ws) (words_set rs j r s there e)

-- a task with another iterator register at a place
abbrev pub with_iter : Kept → ℕ → Option Open → Kept
with_iter k j s = record k { iters = slice_set k.iters j s }

abbrev pub with_plain : Task → ℕ → Option Iter → Task
with_plain T i R = record T { iters = slice_set T.iters i R }

-- where a task runs on
abbrev pub goes : Kept → Kept
goes k = record k { pc = k.pc + 1 }

-- where the code finds register i of a task that is ready: at j, with what would be read past the last
pub record Place (m : Memory) (k : Kept) (i j : ℕ) (d : Option Open) : Type 0 where
  pub ready : IsReady m k
  pub same : j ≡ i
  pub low : i < iterator_count

pub place : {m : Memory} {k : Kept} {i : ℕ} (j : ℕ) (d : Option Open) → IsReady m k → j ≡ i → i < iterator_count → Place m k i j d
place j d ready same low = record { ready = ready; same = same; low = low }

module _ {m : Memory} {k : Kept} {i j : ℕ} {d : Option Open} (p : Place m k i j d) where
  open p use {ready, same, low}

  there : slice_get k.iters j ≡ Some (slice_index_or k.iters j d)
  there =
      let T = ready.task in
      let a = iters_length m k.iters T.iters ready.can_act.task_for.iters in
      let b = (task_valid ready.machine ready.number T ready.can_act.valid ready.can_act.there).four in
      within k.iters j d (omega (arith, a, b, same, low))

  -- it is the one that is read
  pub is_read : slice_index_or k.iters j d ≡ slice_index_or k.iters i None
  is_read = sym (get_or_from_slice_get k.iters j (slice_index_or k.iters j d) None there) ∙ ap (λ n. slice_index_or k.iters n None) same

  -- put back as it was it changes nothing
  pub put_back : {s : Option Open} → s ≡ slice_index_or k.iters j d → with_iter k j s ≡ k
  put_back e = ap (λ (rs : List (Option Open)). record k { iters = rs }) (ap (slice_set k.iters j) e ∙ set-get_or k.iters j d)

  pub put_back_row : {s : Option Open} {instr : Instr} {result : Result Done Trap} → s ≡ slice_index_or k.iters j d → ActsAlone m m k k instr result → ActsAlone m m k (with_iter k j s) instr result
  put_back_row {s} {instr} {result} e row = subst (λ l. ActsAlone m m k l instr result) (sym (put_back e)) row

  -- its words are held
  pub held_at : HoldsAmong m (iter_words (slice_index_or k.iters j d))
  held_at =
      let others = ready.held.others in
      let all = flat_map iter_words k.iters in
      let turned = holding_is_by_counts (width m) m (task_words k ++ others) ((others ++ k.regs) ++ all) (λ id.
      let a = names-append id (task_words k) others in
      let b = names-append id k.regs all in
      let c = names-append id (others ++ k.regs) all in
      let e = names-append id others k.regs in
      omega (arith, a, b, c, e)) ready.held.holds in
      ((others ++ k.regs) ++ flat_map iter_words (but_at k.iters j), taken_out iter_words (others ++ k.regs) k.iters j (slice_index_or k.iters j d) there m turned)

  -- with another one that has the same words the task has the same
  pub words_with : (s : Option Open) → iter_words s ≡ iter_words (slice_index_or k.iters j d) → task_words (with_iter k j s) ≡ task_words k
  words_with s e = ap (λ ws. k.regs ++ ws) (words_set k.iters j (slice_index_or k.iters j d) s there e)

  -- another one stands in the task for what it stands for
  pub iter_put : (s : Option Open) (T : Task) (R : Option Iter) → TaskFor m k T → IterFor m s R → TaskFor m (with_iter k j s) (with_plain T i R)
  iter_put s T R for stands = record {
    runs = for.runs;
    pc = for.pc;
    regs = for.regs;
    iters = subst (λ l. ItersFor m (slice_set k.iters j s) (slice_set T.iters l R)) same (iters_with m k.iters T.iters j s R for.iters stands);
  }

  -- the same one, seen from the plain task
  pub put_alike : (s : Option Open) (T : Task) → TaskFor m k T → IterFor m s (iter T i) → TaskFor m (with_iter k j s) T
  put_alike s T for stands = subst (TaskFor m (with_iter k j s)) (ap (λ (Rs : List (Option Iter)). record T { iters = Rs }) (set-get_or T.iters i None)) (iter_put s T (iter T i) for stands)

  module _ {n : Memory} (s : Option Open) (exchange : Exchanges m n (iter_words (slice_index_or k.iters j d)) (iter_words s)) where
    -- what a call makes of its words, it makes of the task's
    pub task_exchanges : Exchanges m n (task_words k) (task_words (with_iter k j s))
    task_exchanges = group_exchanged iter_words k.regs k.iters j (slice_index_or k.iters j d) s there exchange

    task_with : (T : Task) (R : Option Iter) → TaskFor m k T → IterFor m s R → TaskFor n (with_iter k j s) (with_plain T i R)
    task_with T R for stands = task_after ready.held (with_iter k j s) (with_plain T i R) (exchanges_reshapes task_exchanges) (iter_put s T R for stands)

    -- the row puts it there, and the task goes on
    pub put_row : {instr : Instr} → ((P : Machine) (t : ℕ) (T : Task) → CanAct m k P t T → (R : Option Iter) × IterFor m s R × (act P t T instr ≡ goes_on P t (with_plain T i R)))
        → ActsAlone m n k (goes (with_iter k j s)) instr (Ok done.Went)
    put_row row = went (exchanges_reshapes task_exchanges) (λ P t T can.
        let (R, stands, is) = row P t T can in
        (next (with_plain T i R), on (with_iter k j s) (with_plain T i R) (task_with T R can.task_for stands), is))
      where
        on : (l : Kept) (U : Task) → TaskFor n l U → TaskFor n (goes l) (next U)
        on l U for = record { runs = for.runs; pc = ap (λ c. c + 1) for.pc; regs = for.regs; iters = for.iters }

-- the word of a register is live, and has room for a hold
module _ {m : Memory} {k : Kept} (ready : IsReady m k) (b : ℕ) (x : Word) (word : (P : Machine) (t : ℕ) (T : Task) → CanAct m k P t T → WordIn m x (reg T b)) where
  word_in : WordIn m x (reg ready.task b)
  word_in = word ready.machine ready.number ready.task ready.can_act

  pub word_live : IsLive m x
  word_live = standing_live m x (reg ready.task b) word_in

  pub word_room : IsSound m → HasRoom m x
  word_room sound = standing_room m x (reg ready.task b) sound ready.held word_in

-- ---- what the calls make of it

module _ {m n : Memory} (r : Option Open) {s : Option Open} where
  -- nothing is there any more
  pub closed_after : s ≡ None → Exchanges m n (iter_words r) [] → Exchanges m n (iter_words r) (iter_words s) × IterFor m s None
  closed_after none e = (subst (λ o. Exchanges m n (iter_words r) (iter_words o)) (sym none) e, subst (λ o. IterFor m o None) (sym none) tt)

-- nothing is buffered any more
pub emptied_for : {m : Memory} {q : Open} {Q : Iter} {r s : Option Open} → s ≡ left r → r ≡ Some q → OpenFor m q Q → IterFor m s (Some (emptied Q))
emptied_for {m} {q} {Q} e opened for = subst (λ o. IterFor m o (Some (emptied Q))) (sym (e ∙ ap left opened)) (record { segment = for.segment; position = for.position; cursor = for.cursor; buffered = tt })

-- open on an array, of a segment or of none
pub attached_for : {m : Memory} {x : Word} {A : Array} {s : Option Open} (segment : Option ℕ) → s ≡ Some (opened segment x) → RootIn m x A → IterFor m s (Some (attached segment A))
attached_for {m} {A = A} segment e stands = subst (λ o. IterFor m o (Some (attached segment A))) (sym e) (record { segment = refl; position = refl; cursor = on_root stands; buffered = tt })

-- the same words, whatever else is changed
pub same_words : {m : Memory} (r s : Option Open) → iter_words s ≡ iter_words r → Exchanges m m (iter_words r) (iter_words s)
same_words {m} r s e = subst (λ ws. Exchanges m m (iter_words r) ws) (sym e) (exchanges_nothing m (iter_words r))

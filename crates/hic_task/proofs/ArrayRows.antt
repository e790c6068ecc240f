-- Rows on segments: one is looked up, and what all tasks share is left as it is.
use Rattle.std.proofs.Common.{◌≡◌, ℕ, zero, suc, ◌+◌, ◌<◌, ◌≤◌, List, [], ◌∷◌, ◌++◌, length, length-append, Option, Some, None, Err, Ok, refl, sym, ◌∙◌, ap, subst, arith}
use Rattle.std.specs.Prelude.{IfSome, flat_map, slice_get, slice_index_or, slice_set}
use Rattle.hic_isa.specs.declared.instr.Instr.{Instr}
use Rattle.hic_word.specs.declared.Word.{Word}
use Rattle.hic_word.specs.Lists.{times}
use Rattle.hic_word.specs.Names.{names_in}
use Rattle.hic_word.specs.Exchanges.{Exchanges, HoldsAmong, Reshapes}
use Rattle.hic_word.specs.InMemory.{RootIn}
use Rattle.hic_word.specs.Memory.{Memory, width}
use Rattle.hic_word.specs.Values.{IsArray}
use Rattle.hic_word.proofs.callers.Holds.{but_at, exchanges_nothing, exchanges_reshapes, group_exchanged, holding_is_by_counts, names-append, reshapes_behind, taken_out, turned_alike}
use Rattle.hic_word.proofs.callers.Standing.{first_live}
use Rattle.iter_regs.specs.declared.opened.Open.{Open}
use Rattle.iter_regs.specs.Iters.{iter_words}
use Rattle.segment_map.specs.declared.Segment.{Segment as Stored}
use Rattle.segment_map.specs.Segments.{roots}
use Rattle.hic_plain.specs.declared.turn.Trap.{Trap}
use Rattle.hic_plain.specs.declared.turn.Turn.{Turn}
use Rattle.hic_plain.specs.declared.turn.Turn.TheVariants.{Trapped, Went}
use Rattle.hic_plain.specs.Limits.{iterator_count}
use Rattle.hic_plain.specs.Machine.{Iter, Machine, Segment, Task}
use Rattle.hic_plain.specs.Step.{act}
use Rattle.hic_plain.specs.Turns.{next, traps}
use Rattle.hic_plain.specs.Valid.{IsMachine}
use Rattle.hic_plain.proofs.Fits.{all-get}
use Rattle.hic_plain.proofs.RowLaws.{left_alone}
use Rattle.hic_task.specs.declared.done.Done.TheVariants as done
use Rattle.hic_task.specs.declared.shared.Shared.{Shared}
use Rattle.hic_task.specs.declared.task.Task.{Task as Kept}
use Rattle.hic_task.specs.Acting.{Acts, CanAct, SharedFor}
use Rattle.hic_task.specs.Kept.{HoldsFew, IterFor, ItersFor, SegmentFor, SegmentsFor, TaskFor, task_words}
use Rattle.hic_task.proofs.Places.{iters_with}
use Rattle.hic_task.proofs.Ready.{task_valid}
use Rattle.hic_task.proofs.Rows.{Leaves}
use Rattle.hic_task.proofs.StandsOn.{front_live, segments_on}

-- ---- few words

pub few_rest : {m : Memory} (P Q : List Word) → HoldsFew m (P ++ Q) → HoldsFew m Q
few_rest {m} P Q few = record {
  others = P ++ few.others;
  holds = holding_is_by_counts (width m) m ((P ++ Q) ++ few.others) (Q ++ (P ++ few.others)) (turned_alike P Q few.others) few.holds;
  few = (let a = length-append (P ++ Q) few.others in let b = length-append P Q in let c = length-append Q (P ++ few.others) in let d = length-append P few.others in let e = few.few in omega (arith, a, b, c, d, e));
}

-- ---- a segment that is looked up

module _ (m : Memory) where
  pub segment_there : (ss : List Stored) (Ss : List Segment) (n : ℕ) (s : Stored) → SegmentsFor m ss Ss → slice_get ss n ≡ Some s → (S : Segment) × (slice_get Ss n ≡ Some S) × SegmentFor m s S
  segment_there [] Ss n s d e = cc
  segment_there (t ∷ ss) [] n s d e = absurd d
  segment_there (t ∷ ss) (S ∷ Ss) zero s d e = (S, refl, subst (λ x. SegmentFor m x S) (the_same e) d.0)
    where
      the_same : Some t ≡ Some s → t ≡ s
      the_same f = cc
  segment_there (t ∷ ss) (S ∷ Ss) (suc n) s d e = segment_there ss Ss n s d.1 e

  pub segment_nowhere : (ss : List Stored) (Ss : List Segment) (n : ℕ) → SegmentsFor m ss Ss → length ss ≤ n → slice_get Ss n ≡ None
  segment_nowhere [] [] n d high = refl
  segment_nowhere [] (S ∷ Ss) n d high = absurd d
  segment_nowhere (t ∷ ss) [] n d high = absurd d
  segment_nowhere (t ∷ ss) (S ∷ Ss) zero d high = absurd (omega (arith, high))
  segment_nowhere (t ∷ ss) (S ∷ Ss) (suc n) d high = segment_nowhere ss Ss n d.1 (omega (arith, high))

-- the array of one
pub segment_root : {m : Memory} {P : Machine} (n : ℕ) {s : Stored} {S : Segment} → IsMachine P → slice_get P.segments n ≡ Some S → SegmentFor m s S → RootIn m s.root S.array
segment_root {P = P} n {S = S} valid here d = record { valid = subst (λ o. IfSome o (λ (R : Segment). IsArray R.array)) here (all-get (λ (R : Segment). IsArray R.array) P.segments n valid.segments); word = d.root }

-- ---- segments that no call changes

-- what is left of the machine where only the task is changed
input_for : (m : Memory) (s : Shared) (P : Machine) → SharedFor m s P → (tasks : List Task) → record P { tasks = tasks } ≡ record P { tasks = tasks; input = s.input }
input_for m s P for tasks = ap (λ input. record P { tasks = tasks; input = input }) (sym for.input)

-- a trap; what all tasks share beside the segments and the input means nothing
pub trapped_beside : {m : Memory} {before after : Shared} {k : Kept} {number : ℕ} {i : Instr} {x : Trap} → after.segments ≡ before.segments → after.input ≡ before.input → ((P : Machine) (T : Task) → CanAct m k P number T → SharedFor m before P → act P number T i ≡ traps P x) → Acts m m before after k k number i (Err x)
trapped_beside {m} {before} {after} {k} {number} {i} {x} same input told = record {
  acts = λ P T can for. (let stand = subst (λ ss. SegmentsFor m ss P.segments) (sym same) for.segments_for in record {
    left = T;
    segments = P.segments;
    task_for = can.task_for;
    segments_for = stand;
    is = told P T can for ∙ ap (λ (Q : Machine). (Q, Trapped x)) (sym (left_alone P number T can.there) ∙ input_for m after P (record { segments_for = stand; input = input ∙ for.input }) (slice_set P.tasks number T));
  });
  reshapes = subst (λ ss. Reshapes m m (roots before.segments ++ task_words k) (roots ss ++ task_words k)) (sym same) (exchanges_reshapes (exchanges_nothing m (roots before.segments ++ task_words k)));
  trapped = refl;
}

pub trapped_with : {m : Memory} {s : Shared} {k : Kept} {number : ℕ} {i : Instr} {x : Trap} → ((P : Machine) (T : Task) → CanAct m k P number T → SharedFor m s P → act P number T i ≡ traps P x) → Acts m m s s k k number i (Err x)
trapped_with told = trapped_beside refl refl told

module _ {m n : Memory} {words : List Word} (few : HoldsFew m words) where
  pub segments_after : (ss : List Stored) (Ss : List Segment) (others : List Word) → Reshapes m n words (roots ss ++ others) → SegmentsFor m ss Ss → SegmentsFor n ss Ss
  segments_after ss Ss others r s =
      let held = r.holds few.others few.holds in
      let live = first_live n (roots ss ++ others) few.others held in
      segments_on m n ((roots ss ++ others) ++ few.others) r.lines held ss Ss (front_live n (roots ss) others live) s

-- ---- segments that a call changes

-- what a row leaves of the plain task and of the segments
abbrev pub LeavesWith : (n : Memory) (after : Shared) (k : Kept) (P : Machine) (t : ℕ) (T : Task) (i : Instr) (turn : Turn) → Type 0
LeavesWith n after k P t T i turn = (left : Task) × (segments : List Segment) × TaskFor n k left × SegmentsFor n after.segments segments × (act P t T i ≡ (record P { segments = segments; tasks = slice_set P.tasks t left; input = after.input }, turn))

pub went_with : {m n : Memory} {before after : Shared} {old new : Kept} {number : ℕ} {i : Instr} → Reshapes m n (roots before.segments ++ task_words old) (roots after.segments ++ task_words new) → ((P : Machine) (T : Task) → CanAct m old P number T → SharedFor m before P → LeavesWith n after new P number T i Went) → Acts m n before after old new number i (Ok done.Went)
went_with r leaves = record {
  acts = λ P T can for. (let (left, segments, task, stand, is) = leaves P T can for in record { left = left; segments = segments; task_for = task; segments_for = stand; is = is });
  reshapes = r;
  trapped = tt;
}

-- a call on the task alone
pub went_beside : {m n : Memory} {s : Shared} {old new : Kept} {number : ℕ} {i : Instr} → HoldsFew m (roots s.segments ++ task_words old) → Reshapes m n (task_words old) (task_words new) → ((P : Machine) (T : Task) → CanAct m old P number T → SharedFor m s P → Leaves n new P number T i Went) → Acts m n s s old new number i (Ok done.Went)
went_beside {m} {n} {s} {old} {new} {number} {i} few r leaves = record {
  acts = λ P T can for. (let (left, stands, is) = leaves P T can for in record {
    left = left;
    segments = P.segments;
    task_for = stands;
    segments_for = segments_after few s.segments P.segments (task_words new) (reshapes_behind r (roots s.segments)) for.segments_for;
    is = is ∙ ap (λ (Q : Machine). (Q, Went)) (input_for m s P for (slice_set P.tasks number left));
  });
  reshapes = reshapes_behind r (roots s.segments);
  trapped = tt;
}

-- ---- an iterator register in place of another

within : {X : Type 0} (xs : List X) (i : ℕ) (d : X) → i < length xs → slice_get xs i ≡ Some (slice_index_or xs i d)
within [] i d low = absurd (omega (arith, low))
within (x ∷ xs) zero d low = refl
within (x ∷ xs) (suc i) d low = within xs i d (omega (arith, low))

iters_length : (m : Memory) (rs : List (Option Open)) (Rs : List (Option Iter)) → ItersFor m rs Rs → length rs ≡ length Rs
iters_length m [] [] d = refl
iters_length m [] (R ∷ Rs) d = absurd d
iters_length m (r ∷ rs) [] d = absurd d
iters_length m (r ∷ rs) (R ∷ Rs) d = ap suc (iters_length m rs Rs d.1)

-- there is one of this number
pub iter_there : {m : Memory} {k : Kept} {P : Machine} {t : ℕ} {T : Task} → CanAct m k P t T → {i j : ℕ} → j ≡ i → i < iterator_count → (d : Option Open) → slice_get k.iters j ≡ Some (slice_index_or k.iters j d)
iter_there {m} {k} {P} {t} {T} can {i} {j} same low d =
    let a = iters_length m k.iters T.iters can.task_for.iters in
    let b = (task_valid P t T can.valid can.there).four in
    within k.iters j d (omega (arith, a, b, same, low))

module _ {m : Memory} (k : Kept) (j : ℕ) (x : Option Open) (there : slice_get k.iters j ≡ Some x) where
  -- a call on it is one on the task
  pub iter_exchanged : {n : Memory} (r : Option Open) → Exchanges m n (iter_words x) (iter_words r) → Exchanges m n (task_words k) (k.regs ++ flat_map iter_words (slice_set k.iters j r))
  iter_exchanged r e = group_exchanged iter_words k.regs k.iters j x r there e

  pub among_iter : HoldsFew m (task_words k) → HoldsAmong m (iter_words x)
  among_iter few = (
    (few.others ++ k.regs) ++ flat_map iter_words (but_at k.iters j),
    taken_out iter_words (few.others ++ k.regs) k.iters j x there m (holding_is_by_counts (width m) m (task_words k ++ few.others) ((few.others ++ k.regs) ++ flat_map iter_words k.iters) alike few.holds),
  )
    where
      alike : (id : ℕ) → times id (names_in (task_words k ++ few.others)) ≡ times id (names_in ((few.others ++ k.regs) ++ flat_map iter_words k.iters))
      alike id =
          let us = flat_map iter_words k.iters in
          let a = names-append id (task_words k) few.others in
          let b = names-append id k.regs us in
          let c = names-append id (few.others ++ k.regs) us in
          let e = names-append id few.others k.regs in
          omega (arith, a, b, c, e)

-- the task has another one there
pub iter_put : {m : Memory} {k : Kept} {T : Task} (i j : ℕ) → j ≡ i → (r : Option Open) (R : Option Iter) → TaskFor m k T → IterFor m r R → TaskFor m (record k { iters = slice_set k.iters j r }) (record T { iters = slice_set T.iters i R })
iter_put {m} {k} {T} i j same r R d e = record {
  runs = d.runs;
  pc = d.pc;
  regs = d.regs;
  iters = subst (λ n. ItersFor m (slice_set k.iters n r) (slice_set T.iters i R)) (sym same) (iters_with m k.iters T.iters i r R d.iters e);
}

pub goes_on : {m : Memory} {k : Kept} {T : Task} → TaskFor m k T → TaskFor m (record k { pc = k.pc + 1 }) (next T)
goes_on d = record { runs = d.runs; pc = ap (λ n. n + 1) d.pc; regs = d.regs; iters = d.iters }

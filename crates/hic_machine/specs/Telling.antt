-- The words of a machine stand for one plain machine alone.
use Rattle.std.proofs.Common.{◌≡◌, ℕ, suc, List, [], ◌∷◌, Option, Some, None, IfSome, length, refl, sym, ◌∙◌, ap, subst, inl, inr}
use Rattle.std.specs.List.{AllByRecursion}
use Rattle.hic_isa.specs.declared.instr.Instr.{Instr}
use Rattle.hic_word.specs.declared.Word.{Word}
use Rattle.hic_word.specs.Changes.{AreChanges}
use Rattle.hic_word.specs.InMemory.{ChangesFor, WordIn}
use Rattle.hic_word.specs.Memory.{Memory, line_at, width}
use Rattle.hic_word.specs.Stands.{AWord, Unique, WordsFor}
use Rattle.hic_word.specs.Values.{AreValues, Array, IsArray, IsValue, Number, Ref, Value, array, array-pairs, pairs}
use Rattle.hic_word.proofs.callers.Standing.{words_tell_values}
use Rattle.iter_regs.specs.declared.opened.Open.{Open}
use Rattle.write_buf.specs.WordPairs.{WordPairs}
use Rattle.segment_map.specs.declared.Segment.{Segment as Stored}
use Rattle.hic_plain.specs.Machine.{Iter, Machine, Segment, Task}
use Rattle.hic_plain.specs.Valid.{IsIter, IsTask}
use Rattle.hic_plain.proofs.Fits.{reference-fits}
use Rattle.hic_task.specs.declared.task.Task.{Task as Kept}
use Rattle.hic_task.specs.Kept.{IterFor, ItersFor, SegmentsFor, TaskFor}
use Rattle.hic_machine.specs.Held.{MachineFor, TasksFor}

abbrev referenced : Value → Array
referenced (Number n) = []
referenced (Ref H) = array H

module _ (m : Memory) (unique : Unique (line_at m)) where
  one_value : (x : Word) (v u : Value) → IsValue v → IsValue u → WordIn m x v → WordIn m x u → v ≡ u
  one_value x v u a b d e = (words_tell_values (width m) (line_at m) x x v u (inr (inl refl)) unique a b d e).0 refl

  one_array : (x : Word) (A B : Array) → IsArray A → IsArray B → WordIn m x (Ref (pairs A)) → WordIn m x (Ref (pairs B)) → A ≡ B
  one_array x A B a b d e = sym (array-pairs A) ∙ ap referenced (one_value x (Ref (pairs A)) (Ref (pairs B)) (reference-fits A a) (reference-fits B b) d e) ∙ array-pairs B

  segments_tell : (ss : List Stored) (Ss Ts : List Segment) → AllByRecursion (λ (s : Segment). IsArray s.array) Ss → AllByRecursion (λ (s : Segment). IsArray s.array) Ts → SegmentsFor m ss Ss → SegmentsFor m ss Ts → Ss ≡ Ts
  segments_tell [] [] [] a b d e = refl
  segments_tell [] [] (T ∷ Ts) a b d e = absurd e
  segments_tell [] (S ∷ Ss) Ts a b d e = absurd d
  segments_tell (s ∷ ss) [] Ts a b d e = absurd d
  segments_tell (s ∷ ss) (S ∷ Ss) [] a b d e = absurd e
  segments_tell (s ∷ ss) (S ∷ Ss) (T ∷ Ts) a b d e =
      let kinds : S.kind ≡ T.kind = sym d.0.kind ∙ e.0.kind in
      let arrays : S.array ≡ T.array = one_array s.root S.array T.array a.0 b.0 d.0.root e.0.root in
      λ i. record { kind = kinds i; array = arrays i } ∷ segments_tell ss Ss Ts a.1 b.1 d.1 e.1 i

  values_tell : (ws : List Word) (vs us : List Value) → AreValues vs → AreValues us → WordsFor (width m) (line_at m) ws vs → WordsFor (width m) (line_at m) ws us → vs ≡ us
  values_tell [] [] [] a b d e = refl
  values_tell [] [] (u ∷ us) a b d e = elim e [ ]
  values_tell [] (v ∷ vs) us a b d e = elim d [ ]
  values_tell (x ∷ ws) [] us a b d e = elim d [ ]
  values_tell (x ∷ ws) (v ∷ vs) [] a b d e = elim e [ ]
  values_tell (x ∷ ws) (v ∷ vs) (u ∷ us) a b (AWord d ds) (AWord e es) = λ i. one_value x v u a.0 b.0 d e i ∷ values_tell ws vs us a.1 b.1 ds es i

  changes_tell : (b c : ℕ) (cs : WordPairs) (L K : Array) → AreChanges b L → AreChanges c K → ChangesFor (width m) (line_at m) cs L → ChangesFor (width m) (line_at m) cs K → L ≡ K
  changes_tell b c [] [] [] x y d e = refl
  changes_tell b c [] [] (q ∷ K) x y d e = absurd e
  changes_tell b c [] (p ∷ L) K x y d e = absurd d
  changes_tell b c (k ∷ cs) [] K x y d e = absurd d
  changes_tell b c (k ∷ cs) (p ∷ L) [] x y d e = absurd e
  changes_tell b c (k ∷ cs) (p ∷ L) (q ∷ K) x y d e =
      let offsets : p.0 ≡ q.0 = sym d.0 ∙ e.0 in
      let values : p.1 ≡ q.1 = one_value k.1 p.1 q.1 x.2 y.2 d.1 e.1 in
      λ i. (offsets i, values i) ∷ changes_tell (suc p.0) (suc q.0) cs L K x.3 y.3 d.2 e.2 i

  iter_tells : (n : ℕ) (r : Option Open) (R S : Option Iter) → IfSome R (IsIter n) → IfSome S (IsIter n) → IterFor m r R → IterFor m r S → R ≡ S
  iter_tells n None None None a b d e = refl
  iter_tells n None None (Some S) a b d e = absurd e
  iter_tells n None (Some R) S a b d e = absurd d
  iter_tells n (Some r) None S a b d e = absurd d
  iter_tells n (Some r) (Some R) None a b d e = absurd e
  iter_tells n (Some r) (Some R) (Some S) a b d e =
      let segments : R.segment ≡ S.segment = sym d.segment ∙ e.segment in
      let snapshots : R.snapshot ≡ S.snapshot = one_array r.cursor.root R.snapshot S.snapshot a.snapshot b.snapshot d.cursor.root_for.word e.cursor.root_for.word in
      let positions : R.position ≡ S.position = sym d.position ∙ e.position in
      let buffered : R.buffered ≡ S.buffered = changes_tell 0 0 r.pairs R.buffered S.buffered a.buffered b.buffered d.buffered e.buffered in
      λ i. Some (record { segment = segments i; snapshot = snapshots i; position = positions i; buffered = buffered i })

  iters_tell : (n : ℕ) (rs : List (Option Open)) (Rs Ss : List (Option Iter)) → AllByRecursion (λ i. IfSome i (IsIter n)) Rs → AllByRecursion (λ i. IfSome i (IsIter n)) Ss → ItersFor m rs Rs → ItersFor m rs Ss → Rs ≡ Ss
  iters_tell n [] [] [] a b d e = refl
  iters_tell n [] [] (S ∷ Ss) a b d e = absurd e
  iters_tell n [] (R ∷ Rs) Ss a b d e = absurd d
  iters_tell n (r ∷ rs) [] Ss a b d e = absurd d
  iters_tell n (r ∷ rs) (R ∷ Rs) [] a b d e = absurd e
  iters_tell n (r ∷ rs) (R ∷ Rs) (S ∷ Ss) a b d e = λ i. iter_tells n r R S a.0 b.0 d.0 e.0 i ∷ iters_tell n rs Rs Ss a.1 b.1 d.1 e.1 i

  task_tells : (n : ℕ) (k : Kept) (S T : Task) → IsTask n S → IsTask n T → TaskFor m k S → TaskFor m k T → S ≡ T
  task_tells n k S T a b d e =
      let runs : S.runs ≡ T.runs = sym d.runs ∙ e.runs in
      let pcs : S.pc ≡ T.pc = sym d.pc ∙ e.pc in
      let regs : S.regs ≡ T.regs = values_tell k.regs S.regs T.regs a.regs b.regs d.regs e.regs in
      let iters : S.iters ≡ T.iters = iters_tell n k.iters S.iters T.iters a.iters b.iters d.iters e.iters in
      λ i. record { runs = runs i; pc = pcs i; regs = regs i; iters = iters i }

  tasks_tell : (n : ℕ) (ks : List Kept) (Ss Ts : List Task) → AllByRecursion (IsTask n) Ss → AllByRecursion (IsTask n) Ts → TasksFor m ks Ss → TasksFor m ks Ts → Ss ≡ Ts
  tasks_tell n [] [] [] a b d e = refl
  tasks_tell n [] [] (T ∷ Ts) a b d e = absurd e
  tasks_tell n [] (S ∷ Ss) Ts a b d e = absurd d
  tasks_tell n (k ∷ ks) [] Ts a b d e = absurd d
  tasks_tell n (k ∷ ks) (S ∷ Ss) [] a b d e = absurd e
  tasks_tell n (k ∷ ks) (S ∷ Ss) (T ∷ Ts) a b d e = λ i. task_tells n k S T a.0 b.0 d.0 e.0 i ∷ tasks_tell n ks Ss Ts a.1 b.1 d.1 e.1 i

pub tells : (m : Memory) (code : List Instr) (ss : List Stored) (input : List ℕ) (ks : List Kept) (P Q : Machine) → MachineFor m code ss input ks P → MachineFor m code ss input ks Q → P ≡ Q
tells m code ss input ks P Q d e =
    let unique = d.holds.balanced.unique in
    let codes : P.code ≡ Q.code = d.code_is ∙ sym e.code_is in
    let capacities : P.capacity ≡ Q.capacity = d.capacity ∙ sym e.capacity in
    let segments : P.segments ≡ Q.segments = segments_tell m unique ss P.segments Q.segments d.valid.segments e.valid.segments d.segments_for e.segments_for in
    let lengths = ap length segments in
    let tasks : P.tasks ≡ Q.tasks = tasks_tell m unique (length P.segments) ks P.tasks Q.tasks d.valid.tasks (subst (λ n. AllByRecursion (IsTask n) Q.tasks) (sym lengths) e.valid.tasks) d.tasks_for e.tasks_for in
    let inputs : P.input ≡ Q.input = sym d.input_is ∙ e.input_is in
    λ i. record { code = codes i; capacity = capacities i; segments = segments i; tasks = tasks i; input = inputs i }

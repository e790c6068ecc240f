-- The words of a machine in the order of the held arrays, and the values that they stand for.
use Rattle.std.proofs.Common.{◌≡◌, ℕ, suc, ◌+◌, List, [], ◌∷◌, ◌++◌, length, Option, Some, None, IfSome, refl, ◌∙◌, ap, arith}
use Rattle.std.specs.Prelude.{flat_map, map}
use Rattle.std.specs.List.{AllByRecursion}
use Rattle.hic_isa.specs.declared.instr.Instr.{Instr}
use Rattle.hic_word.specs.declared.Word.{Word}
use Rattle.hic_word.specs.Lists.{times}
use Rattle.hic_word.specs.Names.{NamedAlike, names_in}
use Rattle.hic_word.specs.Values.{AreValues, Array, IsArray, Number, Ref, Value, array, array-pairs, arrays_of, pairs}
use Rattle.hic_word.specs.Changes.{AreChanges}
use Rattle.hic_word.specs.Holds.{Holds}
use Rattle.hic_word.specs.InMemory.{ChangesFor}
use Rattle.hic_word.specs.Memory.{Memory, line_at, width}
use Rattle.hic_word.specs.Stands.{AWord, NoWord, WordsFor}
use Rattle.hic_word.proofs.callers.Holds.{holding_is_by_counts, names-append, names-cons}
use Rattle.iter_regs.specs.declared.opened.Open.{Open}
use Rattle.iter_regs.specs.Iters.{iter_words, words_of}
use Rattle.write_buf.specs.WordPairs.{WordPairs}
use Rattle.segment_map.specs.declared.Segment.{Segment as Stored}
use Rattle.segment_map.specs.Segments.{roots}
use Rattle.hic_plain.specs.Machine.{Iter, Machine, Segment, Task, buffered_arrays, held, held_by, snapshots}
use Rattle.hic_plain.specs.Valid.{IsIter, IsTask}
use Rattle.hic_plain.proofs.Fits.{reference-fits}
use Rattle.hic_task.specs.declared.task.Task.{Task as Kept}
use Rattle.hic_task.specs.Kept.{ItersFor, SegmentsFor, task_words}
use Rattle.hic_machine.specs.Held.{KeepsHeld, MachineFor, TasksFor, all_ordered, held_words, ordered_words, snapshot_words, waiting_words}

-- ---- each id is named as often in either order

iters_alike : (j : ℕ) (rs : List (Option Open)) → times j (names_in (flat_map iter_words rs)) ≡ times j (names_in (snapshot_words rs)) + times j (names_in (waiting_words rs))
iters_alike j [] = refl
iters_alike j (None ∷ rs) = iters_alike j rs
iters_alike j (Some r ∷ rs) =
    let a = names-append j (iter_words (Some r)) (flat_map iter_words rs) in
    let b = names-cons j r.cursor.root (words_of r.pairs) in
    let c = names-cons j r.cursor.root (snapshot_words rs) in
    let d = names-append j (words_of r.pairs) (waiting_words rs) in
    let e = iters_alike j rs in
    omega (arith, a, b, c, d, e)

task_alike : (j : ℕ) (k : Kept) → times j (names_in (task_words k)) ≡ times j (names_in (ordered_words k))
task_alike j k =
    let a = names-append j k.regs (flat_map iter_words k.iters) in
    let b = names-append j k.regs (snapshot_words k.iters ++ waiting_words k.iters) in
    let c = names-append j (snapshot_words k.iters) (waiting_words k.iters) in
    let d = iters_alike j k.iters in
    omega (arith, a, b, c, d)

tasks_alike : (j : ℕ) (ks : List Kept) → times j (names_in (flat_map task_words ks)) ≡ times j (names_in (flat_map ordered_words ks))
tasks_alike j [] = refl
tasks_alike j (k ∷ ks) =
    let a = names-append j (task_words k) (flat_map task_words ks) in
    let b = names-append j (ordered_words k) (flat_map ordered_words ks) in
    let c = task_alike j k in
    let d = tasks_alike j ks in
    omega (arith, a, b, c, d)

ordered_alike : (ss : List Stored) (ks : List Kept) → NamedAlike (held_words ss ks) (all_ordered ss ks)
ordered_alike ss ks j =
    let a = names-append j (roots ss) (flat_map task_words ks) in
    let b = names-append j (roots ss) (flat_map ordered_words ks) in
    let c = tasks_alike j ks in
    omega (arith, a, b, c)

-- ---- values

abbrev pub references : List Segment → List Value
references Ss = map (λ s. Ref (pairs s.array)) Ss

snapshot_values : List (Option Iter) → List Value
snapshot_values [] = []
snapshot_values (None ∷ Rs) = snapshot_values Rs
snapshot_values (Some R ∷ Rs) = Ref (pairs R.snapshot) ∷ snapshot_values Rs

waiting_values : List (Option Iter) → List Value
waiting_values [] = []
waiting_values (None ∷ Rs) = waiting_values Rs
waiting_values (Some R ∷ Rs) = map (λ p. p.1) R.buffered ++ waiting_values Rs

task_values : Task → List Value
task_values T = T.regs ++ (snapshot_values T.iters ++ waiting_values T.iters)

pub values : Machine → List Value
values P = references P.segments ++ flat_map task_values P.tasks

module _ (m : Memory) where
  words_beside : (ws us : List Word) (vs xs : List Value) → WordsFor (width m) (line_at m) ws vs → WordsFor (width m) (line_at m) us xs → WordsFor (width m) (line_at m) (ws ++ us) (vs ++ xs)
  words_beside ws us vs xs NoWord e = e
  words_beside ws us vs xs (AWord {xs = ws'} {vs = vs'} d ds) e = AWord d (words_beside ws' us vs' xs ds e)

  pub segments_stand : (ss : List Stored) (Ss : List Segment) → SegmentsFor m ss Ss → WordsFor (width m) (line_at m) (roots ss) (references Ss)
  segments_stand [] [] d = NoWord
  segments_stand [] (S ∷ Ss) d = absurd d
  segments_stand (s ∷ ss) [] d = absurd d
  segments_stand (s ∷ ss) (S ∷ Ss) d = AWord d.0.root (segments_stand ss Ss d.1)

  pairs_stand : (cs : WordPairs) (L : Array) → ChangesFor (width m) (line_at m) cs L → WordsFor (width m) (line_at m) (words_of cs) (map (λ p. p.1) L)
  pairs_stand [] [] d = NoWord
  pairs_stand [] (p ∷ L) d = absurd d
  pairs_stand (c ∷ cs) [] d = absurd d
  pairs_stand (c ∷ cs) (p ∷ L) d = AWord d.1 (pairs_stand cs L d.2)

  snapshots_stand : (rs : List (Option Open)) (Rs : List (Option Iter)) → ItersFor m rs Rs → WordsFor (width m) (line_at m) (snapshot_words rs) (snapshot_values Rs)
  unfolding snapshot_values
  snapshots_stand [] [] d = NoWord
  snapshots_stand [] (R ∷ Rs) d = absurd d
  snapshots_stand (r ∷ rs) [] d = absurd d
  snapshots_stand (None ∷ rs) (None ∷ Rs) d = snapshots_stand rs Rs d.1
  snapshots_stand (None ∷ rs) (Some R ∷ Rs) d = absurd d.0
  snapshots_stand (Some r ∷ rs) (None ∷ Rs) d = absurd d.0
  snapshots_stand (Some r ∷ rs) (Some R ∷ Rs) d = AWord d.0.cursor.root_for.word (snapshots_stand rs Rs d.1)

  waiting_stand : (rs : List (Option Open)) (Rs : List (Option Iter)) → ItersFor m rs Rs → WordsFor (width m) (line_at m) (waiting_words rs) (waiting_values Rs)
  unfolding waiting_values
  waiting_stand [] [] d = NoWord
  waiting_stand [] (R ∷ Rs) d = absurd d
  waiting_stand (r ∷ rs) [] d = absurd d
  waiting_stand (None ∷ rs) (None ∷ Rs) d = waiting_stand rs Rs d.1
  waiting_stand (None ∷ rs) (Some R ∷ Rs) d = absurd d.0
  waiting_stand (Some r ∷ rs) (None ∷ Rs) d = absurd d.0
  waiting_stand (Some r ∷ rs) (Some R ∷ Rs) d = words_beside (words_of r.pairs) (waiting_words rs) (map (λ p. p.1) R.buffered) (waiting_values Rs) (pairs_stand r.pairs R.buffered d.0.buffered) (waiting_stand rs Rs d.1)

  tasks_stand : (ks : List Kept) (Ts : List Task) → TasksFor m ks Ts → WordsFor (width m) (line_at m) (flat_map ordered_words ks) (flat_map task_values Ts)
  unfolding task_values
  tasks_stand [] [] d = NoWord
  tasks_stand [] (T ∷ Ts) d = absurd d
  tasks_stand (k ∷ ks) [] d = absurd d
  tasks_stand (k ∷ ks) (T ∷ Ts) d = words_beside (ordered_words k) (flat_map ordered_words ks) (task_values T) (flat_map task_values Ts)
      (words_beside k.regs (snapshot_words k.iters ++ waiting_words k.iters) T.regs (snapshot_values T.iters ++ waiting_values T.iters) d.0.regs
      (words_beside (snapshot_words k.iters) (waiting_words k.iters) (snapshot_values T.iters) (waiting_values T.iters) (snapshots_stand k.iters T.iters d.0.iters) (waiting_stand k.iters T.iters d.0.iters)))
      (tasks_stand ks Ts d.1)

-- ---- they are valid

valid_beside : (vs xs : List Value) → AreValues vs → AreValues xs → AreValues (vs ++ xs)
valid_beside [] xs d e = e
valid_beside (v ∷ vs) xs d e = (d.0, valid_beside vs xs d.1 e)

pub references_valid : (Ss : List Segment) → AllByRecursion (λ s. IsArray s.array) Ss → AreValues (references Ss)
references_valid [] d = tt
references_valid (S ∷ Ss) d = (reference-fits S.array d.0, references_valid Ss d.1)

changes_valid : (b : ℕ) (L : Array) → AreChanges b L → AreValues (map (λ p. p.1) L)
changes_valid b [] d = tt
changes_valid b (p ∷ L) d = (d.2, changes_valid (suc p.0) L d.3)

snapshots_valid : (n : ℕ) (Rs : List (Option Iter)) → AllByRecursion (λ i. IfSome i (IsIter n)) Rs → AreValues (snapshot_values Rs)
unfolding snapshot_values
snapshots_valid n [] d = tt
snapshots_valid n (None ∷ Rs) d = snapshots_valid n Rs d.1
snapshots_valid n (Some R ∷ Rs) d = (reference-fits R.snapshot d.0.snapshot, snapshots_valid n Rs d.1)

waiting_valid : (n : ℕ) (Rs : List (Option Iter)) → AllByRecursion (λ i. IfSome i (IsIter n)) Rs → AreValues (waiting_values Rs)
unfolding waiting_values
waiting_valid n [] d = tt
waiting_valid n (None ∷ Rs) d = waiting_valid n Rs d.1
waiting_valid n (Some R ∷ Rs) d = valid_beside (map (λ p. p.1) R.buffered) (waiting_values Rs) (changes_valid 0 R.buffered d.0.buffered) (waiting_valid n Rs d.1)

tasks_valid : (n : ℕ) (Ts : List Task) → AllByRecursion (IsTask n) Ts → AreValues (flat_map task_values Ts)
unfolding task_values
tasks_valid n [] d = tt
tasks_valid n (T ∷ Ts) d = valid_beside (task_values T) (flat_map task_values Ts)
    (valid_beside T.regs (snapshot_values T.iters ++ waiting_values T.iters) d.0.regs (valid_beside (snapshot_values T.iters) (waiting_values T.iters) (snapshots_valid n T.iters d.0.iters) (waiting_valid n T.iters d.0.iters)))
    (tasks_valid n Ts d.1)

-- ---- their arrays are those that are held

arrays_beside : (vs xs : List Value) → arrays_of (vs ++ xs) ≡ arrays_of vs ++ arrays_of xs
arrays_beside [] xs = refl
arrays_beside (Number n ∷ vs) xs = arrays_beside vs xs
arrays_beside (Ref H ∷ vs) xs = ap (λ As. array H ∷ As) (arrays_beside vs xs)

pub segments_arrays : (Ss : List Segment) → arrays_of (references Ss) ≡ map (λ s. s.array) Ss
segments_arrays [] = refl
segments_arrays (S ∷ Ss) = λ i. array-pairs S.array i ∷ segments_arrays Ss i

snapshots_arrays : (Rs : List (Option Iter)) → arrays_of (snapshot_values Rs) ≡ snapshots Rs
unfolding snapshot_values
snapshots_arrays [] = refl
snapshots_arrays (None ∷ Rs) = snapshots_arrays Rs
snapshots_arrays (Some R ∷ Rs) = λ i. array-pairs R.snapshot i ∷ snapshots_arrays Rs i

waiting_arrays : (Rs : List (Option Iter)) → arrays_of (waiting_values Rs) ≡ buffered_arrays Rs
unfolding waiting_values
waiting_arrays [] = refl
waiting_arrays (None ∷ Rs) = waiting_arrays Rs
waiting_arrays (Some R ∷ Rs) = arrays_beside (map (λ p. p.1) R.buffered) (waiting_values Rs) ∙ ap (λ As. arrays_of (map (λ p. p.1) R.buffered) ++ As) (waiting_arrays Rs)

task_arrays : (T : Task) → arrays_of (task_values T) ≡ held_by T
unfolding task_values
task_arrays T =
    arrays_beside T.regs (snapshot_values T.iters ++ waiting_values T.iters)
    ∙ ap (λ As. arrays_of T.regs ++ As) (arrays_beside (snapshot_values T.iters) (waiting_values T.iters) ∙ ap (λ As. As ++ arrays_of (waiting_values T.iters)) (snapshots_arrays T.iters) ∙ ap (λ As. snapshots T.iters ++ As) (waiting_arrays T.iters))

tasks_arrays : (Ts : List Task) → arrays_of (flat_map task_values Ts) ≡ flat_map held_by Ts
tasks_arrays [] = refl
tasks_arrays (T ∷ Ts) = arrays_beside (task_values T) (flat_map task_values Ts) ∙ ap (λ As. As ++ arrays_of (flat_map task_values Ts)) (task_arrays T) ∙ ap (λ As. held_by T ++ As) (tasks_arrays Ts)

module _ (m : Memory) (code : List Instr) (ss : List Stored) (input : List ℕ) (ks : List Kept) (P : Machine) (d : MachineFor m code ss input ks P) where
  pub ordered_stand : WordsFor (width m) (line_at m) (all_ordered ss ks) (values P)
  unfolding values
  ordered_stand = words_beside m (roots ss) (flat_map ordered_words ks) (references P.segments) (flat_map task_values P.tasks) (segments_stand m ss P.segments d.segments_for) (tasks_stand m ks P.tasks d.tasks_for)

  pub ordered_valid : AreValues (values P)
  unfolding values
  ordered_valid = valid_beside (references P.segments) (flat_map task_values P.tasks) (references_valid P.segments d.valid.segments) (tasks_valid (length P.segments) P.tasks d.valid.tasks)

  pub ordered_arrays : arrays_of (values P) ≡ held P
  unfolding values
  ordered_arrays =
      arrays_beside (references P.segments) (flat_map task_values P.tasks)
      ∙ ap (λ As. As ++ arrays_of (flat_map task_values P.tasks)) (segments_arrays P.segments)
      ∙ ap (λ As. map (λ s. s.array) P.segments ++ As) (tasks_arrays P.tasks)

  pub ordered_held : Holds (width m) m (all_ordered ss ks)
  ordered_held = holding_is_by_counts (width m) m (held_words ss ks) (all_ordered ss ks) (ordered_alike ss ks) d.holds

  -- the memory is balanced for the held arrays, in order
  pub keeps_held : KeepsHeld m P
  keeps_held = record { words = all_ordered ss ks; values = values P; balanced = ordered_held.balanced; stand = ordered_stand; valid = ordered_valid; arrays = ordered_arrays }

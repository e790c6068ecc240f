-- The arrays that a machine holds: its memory has their lines, and they are few.
use Rattle.std.proofs.Common.{◌≡◌, ℕ, zero, suc, ◌+◌, ◌*◌, ◌<◌, ◌≤◌, List, [], ◌∷◌, ◌++◌, map, length, Option, Some, None, IfSome, subst, inl, inr, refl, arith}
use Rattle.std.specs.Prelude.{flat_map, slice_get}
use Rattle.std.specs.List.{AllByRecursion}
use Rattle.std.proofs.lemmas.List.{length-append, length-map}
use Rattle.hic_word.specs.Values.{AreValues, Array, Number, Ref, Value, arrays_of}
use Rattle.hic_word.specs.BalanceLaws.{Corresponds}
use Rattle.hic_word.specs.Memory.{Memory, width}
use Rattle.hic_word.proofs.callers.Lines.{balanced_is_exact}
use Rattle.hic_plain.specs.Machine.{Iter, Machine, Segment, Task, buffered_arrays, held, held_by, snapshots}
use Rattle.hic_plain.specs.Valid.{IsIter, IsMachine, IsTask}
use Rattle.hic_plain.proofs.Fits.{referenced-fits}
use Rattle.hic_machine.specs.Held.{KeepsHeld}
use Rattle.hic_list.specs.Walks.{AreArrays, HasLines}

arrays_valid : (vs : List Value) → AreValues vs → AreArrays (arrays_of vs)
arrays_valid [] d = tt
arrays_valid (Number n ∷ vs) d = arrays_valid vs d.1
arrays_valid (Ref H ∷ vs) d = (referenced-fits H d.0, arrays_valid vs d.1)

pub has_lines : (m : Memory) (P : Machine) → KeepsHeld m P → HasLines m (held P)
has_lines m P h = record {
  unique = h.balanced.unique;
  valid = subst AreArrays h.arrays (arrays_valid h.values h.valid);
  exact = subst (Corresponds (width m) m) h.arrays (balanced_is_exact (width m) m h.words h.values (inr (inl refl)) h.balanced h.stand h.valid);
}

-- ---- how many there are

arrays_few : (vs : List Value) → length (arrays_of vs) ≤ length vs
arrays_few [] = omega arith
arrays_few (Number n ∷ vs) = let a = arrays_few vs in omega (arith, a)
arrays_few (Ref H ∷ vs) = let a = arrays_few vs in omega (arith, a)

snapshots_few : (is : List (Option Iter)) → length (snapshots is) ≤ length is
snapshots_few [] = omega arith
snapshots_few (None ∷ is) = let a = snapshots_few is in omega (arith, a)
snapshots_few (Some i ∷ is) = let a = snapshots_few is in omega (arith, a)

buffered_few : (n : ℕ) (is : List (Option Iter)) → AllByRecursion (λ i. IfSome i (IsIter n)) is → length (buffered_arrays is) ≤ 64 * length is
buffered_few n [] d = omega arith
buffered_few n (None ∷ is) d = let a = buffered_few n is d.1 in omega (arith, a)
buffered_few n (Some i ∷ is) d =
    let values = map (λ (p : ℕ × Value). p.1) i.buffered in
    let a = buffered_few n is d.1 in
    let b = arrays_few values in
    let c = length-map i.buffered (λ (p : ℕ × Value). p.1) in
    omega (arith, length-append (arrays_of values) (buffered_arrays is), a, b, c, d.0.count)

task_few : (n : ℕ) (t : Task) → IsTask n t → length (held_by t) ≤ 268
task_few n t d =
    let a = arrays_few t.regs in
    let b = snapshots_few t.iters in
    let c = buffered_few n t.iters d.iters in
    omega (arith, length-append (arrays_of t.regs) (snapshots t.iters ++ buffered_arrays t.iters), length-append (snapshots t.iters) (buffered_arrays t.iters), a, b, c, d.eight, d.four)

tasks_few : (n : ℕ) (ts : List Task) → AllByRecursion (IsTask n) ts → length (flat_map held_by ts) ≤ 268 * length ts
tasks_few n [] d = omega arith
tasks_few n (t ∷ ts) d = let a = task_few n t d.0 in let b = tasks_few n ts d.1 in omega (arith, length-append (held_by t) (flat_map held_by ts), a, b)

pub held_few : (P : Machine) → IsMachine P → length (held P) ≤ 4544
held_few P d =
    let arrays = map (λ (s : Segment). s.array) P.segments in
    let a = tasks_few (length P.segments) P.tasks d.tasks in
    let b = length-map P.segments (λ (s : Segment). s.array) in
    omega (arith, length-append arrays (flat_map held_by P.tasks), a, b, d.segment_count, d.task_count)

-- ---- the segments come first

front_get : (As Bs : List Array) (k : ℕ) → k < length As → slice_get (As ++ Bs) k ≡ slice_get As k
front_get [] Bs k low = absurd (omega (arith, low))
front_get (A ∷ As) Bs zero low = refl
front_get (A ∷ As) Bs (suc k) low = front_get As Bs k (omega (arith, low))

pub segment_held : (P : Machine) (k : ℕ) → k < length P.segments → slice_get (held P) k ≡ slice_get (map (λ (s : Segment). s.array) P.segments) k
segment_held P k low = let b = length-map P.segments (λ (s : Segment). s.array) in front_get (map (λ (s : Segment). s.array) P.segments) (flat_map held_by P.tasks) k (omega (arith, low, b))

-- The parts with which an object begins stand for the machine of plain arrays that begins.
use Rattle.std.proofs.Common.{◌≡◌, ℕ, zero, suc, ◌+◌, ◌<◌, Bool, true, false, List, [], ◌∷◌, ◌++◌, length, take, Some, Result, Ok, Err, refl, sym, ◌∙◌, ap, subst, inl, inr, arith}
use Rattle.std.specs.Prelude.{IsErr, flat_map, map, slice_get}
use Rattle.std.specs.List.{AllByRecursion}
use Rattle.std.proofs.lemmas.Bool.{cases_lt, le-ltb, lt-ltb}
use Rattle.std.proofs.lemmas.List.{append-nil}
use Rattle.hic_isa.specs.declared.instr.Instr.{Instr}
use Rattle.hic_object.specs.Parts.{IsObject, Parts}
use Rattle.hic_word.specs.Holds.{Holds}
use Rattle.hic_word.specs.Lines.{lines}
use Rattle.hic_word.specs.Lists.{times}
use Rattle.hic_word.specs.Memory.{Memory, width}
use Rattle.hic_word.specs.Names.{names_in}
use Rattle.hic_word.specs.Stands.{AWord, IsNumber, NoWord}
use Rattle.hic_word.specs.Values.{Array}
use Rattle.hic_word.proofs.callers.Holds.{holding_is_by_counts, names-append}
use Rattle.segment_map.specs.declared.Segment.{Segment as Stored}
use Rattle.segment_map.specs.Segments.{roots}
use Rattle.hic_plain.specs.Full.{full_at_load}
use Rattle.hic_plain.specs.Machine.{held, held_by, segments_from, start, task_at}
use Rattle.hic_plain.proofs.StartValid.{start-valid}
use Rattle.hic_task.specs.declared.task.Task.{Task as Kept}
use Rattle.hic_task.specs.Kept.{SegmentsFor, TaskFor, task_words}
use Rattle.hic_machine.specs.Held.{MachineFor, TasksFor, held_words}
use Rattle.hic_machine.specs.Loads.{Overflows}
use Rattle.hic_machine.specs.Opens.{TellsRoom, kept_at}
use Rattle.hic_machine.specs.declared.opening.OpenError.{OpenError}
use Rattle.hic_machine.specs.declared.opening.OpenError.TheVariants.{Full, OutOfMemory}

-- ---- one member more of a list, and of what is made of its members

pub one_more : {X : Type 0} (xs : List X) (i : ℕ) (x : X) → slice_get xs i ≡ Some x → take i xs ++ x ∷ [] ≡ take (i + 1) xs
one_more {X = X} xs i x there = let next : suc i ≡ i + 1 = omega arith in go xs i there ∙ ap (λ n. take n xs) next
  where
    go : (ys : List X) (k : ℕ) → slice_get ys k ≡ Some x → take k ys ++ x ∷ [] ≡ take (suc k) ys
    go [] k e = cc
    go (y ∷ ys) zero e = cc
    go (y ∷ ys) (suc k) e = ap (λ zs. y ∷ zs) (go ys k e)

map_last : {X Y : Type 0} (f : X → Y) (xs : List X) (x : X) → map f (xs ++ x ∷ []) ≡ map f xs ++ f x ∷ []
map_last f [] x = refl
map_last f (y ∷ xs) x = ap (λ zs. f y ∷ zs) (map_last f xs x)

pub one_more_is : {X Y : Type 0} (f : X → Y) (xs : List X) (i : ℕ) (x : X) (old new : List Y) (y : Y) → new ≡ old ++ y ∷ [] → old ≡ map f (take i xs) → y ≡ f x → slice_get xs i ≡ Some x → new ≡ map f (take (i + 1) xs)
one_more_is f xs i x old new y pushed before is there = pushed ∙ ap (λ ys. ys ++ y ∷ []) before ∙ ap (λ z. map f (take i xs) ++ z ∷ []) is ∙ sym (map_last f (take i xs) x) ∙ ap (map f) (one_more xs i x there)

-- ---- tasks that begin hold nothing

tasks_hold_nothing : (es : List ℕ) → flat_map held_by (map task_at es) ≡ []
tasks_hold_nothing [] = refl
tasks_hold_nothing (e ∷ es) = tasks_hold_nothing es

held_at_start : (o : Parts) (input : List ℕ) (capacity : ℕ) → held (start o input capacity) ≡ map (λ s. s.array) (segments_from 0 o.kinds o.words)
held_at_start o input capacity =
    let arrays : List Array = map (λ s. s.array) (segments_from 0 o.kinds o.words) in
    ap (λ As. arrays ++ As) (tasks_hold_nothing o.entries) ∙ append-nil arrays

tasks_name_nothing : (j : ℕ) (es : List ℕ) → times j (names_in (flat_map task_words (map kept_at es))) ≡ 0
tasks_name_nothing j [] = refl
tasks_name_nothing j (e ∷ es) = tasks_name_nothing j es

task_begins : (m : Memory) (entry : ℕ) → TaskFor m (kept_at entry) (task_at entry)
task_begins m entry =
    let zero_word = IsNumber refl in
    record {
      runs = refl;
      pc = refl;
      regs = AWord zero_word (AWord zero_word (AWord zero_word (AWord zero_word (AWord zero_word (AWord zero_word (AWord zero_word (AWord zero_word NoWord)))))));
      iters = (tt, (tt, (tt, (tt, tt))));
    }

tasks_begin : (m : Memory) (es : List ℕ) → TasksFor m (map kept_at es) (map task_at es)
tasks_begin m [] = tt
tasks_begin m (e ∷ es) = (task_begins m e, tasks_begin m es)

-- ---- the machine that begins

module _ (m n : Memory) (o : Parts) (input : List ℕ) (ss : List Stored) (same : n.layout ≡ m.layout) where
  pub begins : (code : List Instr) (ks : List Kept) (left : List ℕ) → IsObject o → AllByRecursion (λ byte. byte < 256) input → code ≡ o.code → ks ≡ map kept_at o.entries → left ≡ input → Holds (width n) n (roots ss) → SegmentsFor n ss (segments_from 0 o.kinds o.words) → MachineFor n code ss left ks (start o input m.layout.cap)
  begins code ks left is bytes codes tasks inputs holds segments = record {
    holds = subst (λ us. Holds (width n) n (held_words ss us)) (sym tasks) (holding_is_by_counts (width n) n (roots ss) (held_words ss (map kept_at o.entries)) (λ j. let a = names-append j (roots ss) (flat_map task_words (map kept_at o.entries)) in let b = tasks_name_nothing j o.entries in omega (arith, a, b)) holds);
    code_is = sym codes;
    capacity = ap (λ l. l.cap) (sym same);
    segments_for = segments;
    tasks_for = subst (λ us. TasksFor n us (map task_at o.entries)) (sym tasks) (tasks_begin n o.entries);
    input_is = inputs;
    valid = start-valid o input m.layout.cap is bytes;
  }

-- ---- what an answer tells

pub told_full : {X : Type 0} (r : Result X OpenError) (full : Bool) → IsErr r → full ≡ true → TellsRoom r full
told_full (Ok x) full err is = cc
told_full (Err Full) full err is = is
told_full (Err OutOfMemory) full err is = tt

pub no_error : false ≡ true → ⊥
no_error e = absurd cc

-- there is no room exactly where the lines of its data are more than the capacity
module _ (m : Memory) (o : Parts) (input : List ℕ) where
  as_many : length (lines (width m) (held (start o input m.layout.cap))) ≡ length (lines (width m) (map (λ s. s.array) (segments_from 0 o.kinds o.words)))
  as_many = ap (λ R. length (lines (width m) R)) (held_at_start o input m.layout.cap)

  pub full_where_over : Overflows m o → full_at_load (start o input m.layout.cap) ≡ true
  full_where_over more = lt-ltb m.layout.cap (length (lines (width m) (held (start o input m.layout.cap)))) (let a = as_many in omega (arith, a, more))

  pub fits_where_not_over : (Overflows m o → ⊥) → full_at_load (start o input m.layout.cap) ≡ false
  fits_where_not_over not_over = elim (cases_lt m.layout.cap (length (lines (width m) (map (λ s. s.array) (segments_from 0 o.kinds o.words))))) [
    | inl more ↦ absurd (not_over more)
    | inr less ↦ le-ltb m.layout.cap (length (lines (width m) (held (start o input m.layout.cap)))) (let a = as_many in omega (arith, a, less))
  ]

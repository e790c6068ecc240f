-- The references among a machine's words are roots of the held arrays, in order.
use Rattle.std.proofs.Common.{◌≡◌, ℕ, zero, suc, ◌+◌, ◌<◌, true, false, List, [], ◌∷◌, ◌++◌, length, Option, Some, None, refl, sym, ◌∙◌, ap, subst, arith}
use Rattle.std.specs.Prelude.{All, slice_get}
use Rattle.std.specs.List.{AllByRecursion}
use Rattle.std.specs.ControlFlow.{break_value}
use Rattle.std.proofs.lemmas.List.Elements.{filter-append}
use Rattle.hic_isa.specs.declared.instr.Instr.{Instr}
use Rattle.hic_word.specs.declared.Word.{Word}
use Rattle.hic_word.specs.InMemory.{WordIn}
use Rattle.hic_word.specs.Memory.{Memory, line_at, width}
use Rattle.hic_word.specs.Stands.{AWord, IsEmpty, IsNumber, IsPacked, IsStored, Lookup, WordFor, WordsFor}
use Rattle.hic_word.specs.Values.{AreValues, Array, Number, Pairs, Ref, Value, array, arrays_of, pairs, pairs-array}
use Rattle.segment_map.specs.declared.Segment.{Segment as Stored}
use Rattle.segment_map.specs.Segments.{roots}
use Rattle.hic_plain.specs.Machine.{Machine, Segment, Task}
use Rattle.hic_plain.specs.Valid.{IsTask}
use Rattle.hic_plain.proofs.Fits.{referenced-fits}
use Rattle.hic_task.specs.declared.task.Task.{Task as Kept}
use Rattle.hic_task.specs.Kept.{SegmentsFor}
use Rattle.hic_machine.specs.Held.{MachineFor, TasksFor, all_ordered}
use Rattle.hic_machine.specs.HeldAt.{HasEight, HeldAt, IsRootAt, is_reference_kind, passing, references_in, sought}
use Rattle.hic_machine.proofs.Order.{ordered_arrays, ordered_stand, ordered_valid, values}
use Rattle.hic_machine.proofs.Stepping.{stand_length}

-- ---- the references in front, and those behind

get_front : (xs ys : List Word) (k : ℕ) → k < length xs → slice_get (xs ++ ys) k ≡ slice_get xs k
get_front [] ys k low = absurd (omega (arith, low))
get_front (x ∷ xs) ys zero low = refl
get_front (x ∷ xs) ys (suc k) low = get_front xs ys k (omega (arith, low))

get_behind : (xs ys : List Word) (k left : ℕ) → length xs + left ≡ k → slice_get (xs ++ ys) k ≡ slice_get ys left
get_behind [] ys k left e = let same : k ≡ left = omega (arith, e) in ap (slice_get ys) same
get_behind (x ∷ xs) ys zero left e = absurd (omega (arith, e))
get_behind (x ∷ xs) ys (suc k) left e = get_behind xs ys k left (omega (arith, e))

passing_get : (xs : List Word) (k : ℕ) → break_value (passing xs k) ≡ slice_get xs k
passing_get [] k = refl
passing_get (x ∷ xs) zero = refl
passing_get (x ∷ xs) (suc k) = passing_get xs k

module _ (xs ys : List Word) (all : references_in xs ≡ xs) where
  parted : references_in (xs ++ ys) ≡ xs ++ references_in ys
  parted = filter-append (λ (word : Word). is_reference_kind word.kind) xs ys ∙ ap (λ ws. ws ++ references_in ys) all

  pub in_front : (k : ℕ) → k < length xs → slice_get xs k ≡ slice_get (references_in (xs ++ ys)) k
  in_front k low = sym (ap (λ ws. slice_get ws k) parted ∙ get_front xs (references_in ys) k low)

  pub behind : (k left : ℕ) → length xs + left ≡ k → break_value (sought ys left) ≡ slice_get (references_in (xs ++ ys)) k
  behind k left e = passing_get (references_in ys) left ∙ sym (ap (λ ws. slice_get ws k) parted ∙ get_behind xs (references_in ys) k left e)

-- ---- which words are references

ref_kind : {w : ℕ} {m : Lookup} (x : Word) (H : Pairs) → WordFor w m x (Ref H) → is_reference_kind x.kind ≡ true
ref_kind x H (IsEmpty e) = ap (λ (y : Word). is_reference_kind y.kind) e
ref_kind x H (IsPacked r e) = ap (λ (y : Word). is_reference_kind y.kind) e
ref_kind x H (IsStored r s e) = ap (λ (y : Word). is_reference_kind y.kind) e

number_kind : {w : ℕ} {m : Lookup} (x : Word) (n : ℕ) → WordFor w m x (Number n) → is_reference_kind x.kind ≡ false
number_kind x n (IsNumber e) = ap (λ (y : Word). is_reference_kind y.kind) e

pub roots_are : (m : Memory) (ss : List Stored) (Ss : List Segment) → SegmentsFor m ss Ss → references_in (roots ss) ≡ roots ss
roots_are m [] [] d = refl
roots_are m [] (S ∷ Ss) d = absurd d
roots_are m (s ∷ ss) [] d = absurd d
roots_are m (s ∷ ss) (S ∷ Ss) d = rw (ref_kind s.root (pairs S.array) d.0.root) (ap (λ ws. s.root ∷ ws) (roots_are m ss Ss d.1))

-- ---- the reference at a number is a root of the array there

later : (m : Memory) (A : Array) (As : List Array) (k : ℕ) (o : Option Word) → IsRootAt m As k o → IsRootAt m (A ∷ As) (suc k) o
later m A As k None short = omega (arith, short)
later m A As k (Some root) r = record { array = r.array; there = r.there; stands = r.stands }

pub told : (m : Memory) (ws : List Word) (vs : List Value) → WordsFor (width m) (line_at m) ws vs → AreValues vs → (k : ℕ) → IsRootAt m (arrays_of vs) k (slice_get (references_in ws) k)
told m [] [] d a k = omega arith
told m [] (v ∷ vs) d a k = elim d [ ]
told m (x ∷ ws) [] d a k = elim d [ ]
told m (x ∷ ws) (Number n ∷ vs) (AWord d ds) a k = rw (number_kind x n d) (told m ws vs ds a.1 k)
told m (x ∷ ws) (Ref H ∷ vs) (AWord d ds) a zero = rw (ref_kind x H d) (record { array = array H; there = refl; stands = record { valid = referenced-fits H a.0; word = subst (λ G. WordIn m x (Ref G)) (sym (pairs-array H)) d } })
told m (x ∷ ws) (Ref H ∷ vs) (AWord d ds) a (suc k) = rw (ref_kind x H d) (later m (array H) (arrays_of vs) k _ (told m ws vs ds a.1 k))

pub held_told : (m : Memory) (code : List Instr) (ss : List Stored) (input : List ℕ) (ks : List Kept) (P : Machine) → MachineFor m code ss input ks P → (k : ℕ) → HeldAt m P k (slice_get (references_in (all_ordered ss ks)) k)
held_told m code ss input ks P d k = subst (λ As. IsRootAt m As k (slice_get (references_in (all_ordered ss ks)) k)) (ordered_arrays m code ss input ks P d) (told m (all_ordered ss ks) (values P) (ordered_stand m code ss input ks P d) (ordered_valid m code ss input ks P d) k)

-- each task has its registers
pub have_eight : (m : Memory) (n : ℕ) (ks : List Kept) (Ts : List Task) → TasksFor m ks Ts → AllByRecursion (IsTask n) Ts → All HasEight ks
have_eight m n [] Ts d valid i x low = absurd (omega (arith, low))
have_eight m n (k ∷ ks) [] d valid i x low = absurd d
have_eight m n (k ∷ ks) (T ∷ Ts) d valid zero x low = stand_length k.regs T.regs d.0.regs ∙ valid.0.eight
have_eight m n (k ∷ ks) (T ∷ Ts) d valid (suc i) x low = have_eight m n ks Ts d.1 valid.1 i x (omega (arith, low))

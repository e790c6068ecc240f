-- What is read of a machine's parts is what the plain machine has.
use Rattle.std.proofs.Common.{◌≡◌, ℕ, zero, suc, ◌<◌, List, [], ◌∷◌, length, refl, ap, sym, subst, ◌∙◌, arith}
use Rattle.std.specs.Prelude.{slice_get, slice_index_or}
use Rattle.hic_word.specs.Memory.{Memory}
use Rattle.segment_map.specs.declared.Segment.{Segment as Stored}
use Rattle.hic_isa.specs.declared.instr.Instr.{Instr}
use Rattle.hic_plain.specs.Machine.{Machine, Segment, Task}
use Rattle.hic_plain.specs.Run.{pc_of}
use Rattle.hic_task.specs.declared.task.Task.{Task as Kept}
use Rattle.hic_task.specs.Kept.{SegmentsFor}
use Rattle.hic_machine.specs.Held.{MachineFor, TasksFor}
use Rattle.hic_machine.specs.Seen.{Seen}

pub as_many_tasks : (m : Memory) (ks : List Kept) (Ts : List Task) → TasksFor m ks Ts → length ks ≡ length Ts
as_many_tasks m [] [] d = refl
as_many_tasks m [] (T ∷ Ts) d = absurd d
as_many_tasks m (k ∷ ks) [] d = absurd d
as_many_tasks m (k ∷ ks) (T ∷ Ts) d = ap suc (as_many_tasks m ks Ts d.1)

pub as_many_segments : (m : Memory) (ss : List Stored) (Ss : List Segment) → SegmentsFor m ss Ss → length ss ≡ length Ss
as_many_segments m [] [] d = refl
as_many_segments m [] (S ∷ Ss) d = absurd d
as_many_segments m (s ∷ ss) [] d = absurd d
as_many_segments m (s ∷ ss) (S ∷ Ss) d = ap suc (as_many_segments m ss Ss d.1)

-- the task at a number goes on where the plain one does
pub same_pc : (m : Memory) (ks : List Kept) (Ts : List Task) (t : ℕ) (k x : Kept) → TasksFor m ks Ts → t < length ks → x ≡ slice_index_or ks t k → x.pc ≡ pc_of (slice_get Ts t)
same_pc m [] Ts t k x d low e = absurd (omega (arith, low))
same_pc m (y ∷ ks) [] t k x d low e = absurd d
same_pc m (y ∷ ks) (T ∷ Ts) zero k x d low e = ap (λ (z : Kept). z.pc) e ∙ d.0.pc
same_pc m (y ∷ ks) (T ∷ Ts) (suc t) k x d low e = same_pc m ks Ts t k x d.1 (omega (arith, low)) e

-- the same words stand for the same in the same memory
pub same_memory : {m n : Memory} {code : List Instr} {segments : List Stored} {input : List ℕ} {tasks : List Kept} {P : Machine} → n ≡ m → MachineFor m code segments input tasks P → MachineFor n code segments input tasks P
same_memory {code = code} {segments = segments} {input = input} {tasks = tasks} {P = P} e d = subst (λ m. MachineFor m code segments input tasks P) (sym e) d

abbrev seen : Machine → Memory → List ℕ → Seen
seen P m bytes = record { plain = P; memory = m; printed = bytes }

pub seen_alike : {P Q : Machine} {m n : Memory} {a b : List ℕ} → P ≡ Q → m ≡ n → a ≡ b → seen P m a ≡ seen Q n b
seen_alike p e same = λ i. seen (p i) (e i) (same i)

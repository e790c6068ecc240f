-- After a step that does not halt its task the same tasks run.
use Rattle.std.proofs.Common.{◌≡◌, ℕ, zero, suc, ◌+◌, true, false, Bool, List, [], ◌∷◌, Option, Some, None, Result, Ok, Err, refl, sym, ◌∙◌, ap, subst}
use Rattle.std.specs.Prelude.{◌%◌, IfSome, decimal, if◌then◌else◌, nat_le, slice_get, slice_set}
use Rattle.hic_exec.specs.declared.arithmetic.AluFault.{AluFault}
use Rattle.hic_exec.specs.declared.arithmetic.AluFault.TheVariants as fault
use Rattle.hic_isa.specs.declared.instr.Instr.{Instr}
use Rattle.hic_isa.specs.declared.instr.Instr.TheVariants.{Halt, Li, Lih, Mov, Addi, Alu, Eq, Isref, Jmp, Jz, Jnz, Getb, Putb, Putn, Open, Openr, Seek, Pos, Load, Store, Find, Next, Commit, Abort, Close, Root, Snap, Seal, Mcas}
use Rattle.hic_isa.specs.declared.instr.Instr.TheVariants as instr
use Rattle.hic_word.specs.Values.{Array, Number, Ref, Value}
use Rattle.hic_exec.specs.Outcome.{of_numbers}
use Rattle.segment_map.specs.Merging.{Updated, commit, mcas}
use Rattle.hic_plain.specs.declared.turn.Trap.{Trap}
use Rattle.hic_plain.specs.declared.turn.Trap.TheVariants as trap
use Rattle.hic_plain.specs.Iters.{committed, is_full, view}
use Rattle.hic_plain.specs.Limits.{offset_count}
use Rattle.hic_plain.specs.declared.turn.Turn.{Turn}
use Rattle.hic_plain.specs.declared.turn.Turn.TheVariants.{Halted, Trapped}
use Rattle.hic_plain.specs.Machine.{Iter, Machine, Segment, Task}
use Rattle.hic_plain.specs.Full.{full, full_with}
use Rattle.hic_plain.specs.Run.{running, running_from}
use Rattle.hic_plain.specs.Turns.{iter, jumps_if, prints, reg, segment, traps_if, with_array, with_iter, with_number, with_open, with_own, with_segment}
use Rattle.hic_plain.specs.Step.{act, act_if, answers, computes, step, step_task, takes}
use Rattle.hic_plain.specs.Valid.{IsMachine}
use Rattle.hic_plain.proofs.StepLaws.{step-trapped}
use Rattle.hic_machine.specs.Steps.{Runs}

-- the task runs, and beside it the same others
pub record RunsOn (m new : Machine) (t : ℕ) : Type 0 where
  pub runs : Runs new t
  pub same : running new ≡ running m

-- unless the task halts
abbrev Stays : Machine → ℕ → Machine × Turn → Type 0
Stays m t (new, turn) = (turn ≡ Halted → ⊥) → RunsOn m new t

pub set_there : {X : Type 0} (xs : List X) (i : ℕ) (x y : X) → slice_get xs i ≡ Some x → slice_get (slice_set xs i y) i ≡ Some y
set_there [] i x y e = cc
set_there (z ∷ xs) zero x y e = refl
set_there (z ∷ xs) (suc i) x y e = set_there xs i x y e

-- another task in the place of one, where both run
set_running : (xs : List Task) (from i : ℕ) (x y : Task) → slice_get xs i ≡ Some x → x.runs ≡ true → y.runs ≡ true → running_from from (slice_set xs i y) ≡ running_from from xs
set_running [] from i x y e a b = cc
set_running (z ∷ xs) from zero x y e a b =
    let same : z ≡ x = cc in
    ap (λ runs. if runs then from ∷ running_from (from + 1) xs else running_from (from + 1) xs) (b ∙ sym a ∙ ap (λ (task : Task). task.runs) (sym same))
set_running (z ∷ xs) from (suc i) x y e a b = ap (λ ts. if z.runs then from ∷ ts else ts) (set_running xs (from + 1) i x y e a b)

module _ (t : ℕ) (m : Machine) (here : Runs m t) where
  -- a trap changes nothing
  trapped : (trap : Trap) → Stays m t (m, Trapped trap)
  trapped trap e = record { runs = here; same = refl }

  on_number : (v : Value) (does : ℕ → Machine × Turn) → ((n : ℕ) → Stays m t (does n)) → Stays m t (with_number m v does)
  on_number (Number n) does stays = stays n
  on_number (Ref H) does stays = trapped trap.BadType

  on_array : (v : Value) (does : Array → Machine × Turn) → ((A : Array) → Stays m t (does A)) → Stays m t (with_array m v does)
  on_array (Number n) does stays = trapped trap.BadType
  on_array (Ref H) does stays = stays _

  on_segment : (o : Option Segment) (does : Segment → Machine × Turn) → ((s : Segment) → Stays m t (does s)) → Stays m t (with_segment m o does)
  on_segment None does stays = trapped trap.Segment
  on_segment (Some s) does stays = stays s

  on_iter : (o : Option Iter) (does : Iter → Machine × Turn) → ((r : Iter) → Stays m t (does r)) → Stays m t (with_iter m o does)
  on_iter None does stays = trapped trap.Closed
  on_iter (Some r) does stays = stays r

  on_own : (o : Option ℕ) (does : ℕ → Machine × Turn) → ((n : ℕ) → Stays m t (does n)) → Stays m t (with_own m o does)
  on_own None does stays = trapped trap.Detached
  on_own (Some n) does stays = stays n

  unless : (b : Bool) (trap : Trap) (done : Machine × Turn) → Stays m t done → Stays m t (traps_if b m trap done)
  unless true trap done stays = trapped trap
  unless false trap done stays = stays

-- ---- the row of each instruction

module _ (t : ℕ) (m : Machine) (here : Runs m t) where
  abbrev T : Task
  T = here.task

  -- a task is left that runs
  ok : (u : Task) → u.runs ≡ true → (segments : List Segment) (input : List ℕ) (turn : Turn) → Stays m t (record m { segments = segments; input = input; tasks = slice_set m.tasks t u }, turn)
  ok u on segments input turn e = record {
    runs = record { task = u; there = set_there m.tasks t T u here.there; runs = on };
    same = set_running m.tasks 0 t T u here.there here.runs on;
  }

  on_answer : (u : Task) → u.runs ≡ true → (a n : ℕ) (x : Updated) → Stays m t (answers m t u a n x)
  on_answer u on a n x = unless t m here (full_with m x.array) _ _ (ok _ on _ _ _)

  on_outcome : (a : ℕ) (x : Result ℕ AluFault) → Stays m t (computes m t T a x)
  on_outcome a (Ok n) = ok _ here.runs _ _ _
  on_outcome a (Err fault.BadType) = trapped t m here trap.BadType
  on_outcome a (Err fault.ZeroDivisor) = trapped t m here trap.ZeroDivisor

  on_input : (a : ℕ) (bytes : List ℕ) → Stays m t (takes m t T a bytes)
  on_input a [] = ok _ here.runs _ _ _
  on_input a (byte ∷ bytes) = ok _ here.runs _ _ _

  on_jump : (b : Bool) (imm : ℕ) → Stays m t (jumps_if b m t T imm)
  on_jump true imm = ok _ here.runs _ _ _
  on_jump false imm = ok _ here.runs _ _ _

  stays : (i : Instr) → Stays m t (act m t T i)
  stays Halt = λ e. absurd (e refl)
  stays (Li a imm) = ok _ here.runs _ _ _
  stays (Lih a imm) = on_number t m here _ _ (λ n. ok _ here.runs _ _ _)
  stays (Mov a b) = ok _ here.runs _ _ _
  stays (Addi a b imm) = on_number t m here _ _ (λ n. ok _ here.runs _ _ _)
  stays (Alu op a b c) = on_number t m here (reg T b) _ (λ x. on_number t m here (reg T c) _ (λ y. on_outcome a (of_numbers op x y)))
  stays (Eq a b c) = ok _ here.runs _ _ _
  stays (Isref a b) = ok _ here.runs _ _ _
  stays (Jmp imm) = ok _ here.runs _ _ _
  stays (Jz a imm) = on_jump _ imm
  stays (Jnz a imm) = on_jump _ imm
  stays (Getb a) = on_input a m.input
  stays (Putb a) = on_number t m here (reg T a) (λ n. prints m t T (n % 256 ∷ [])) (λ n. ok _ here.runs _ _ _)
  stays (Putn a) = on_number t m here (reg T a) (λ n. prints m t T (decimal n)) (λ n. ok _ here.runs _ _ _)
  stays (instr.Task a) = ok _ here.runs _ _ _
  stays (Open a b) = on_number t m here (reg T b) _ (λ n. on_segment t m here (segment m n) _ (λ s. ok _ here.runs _ _ _))
  stays (Openr a b) = on_array t m here _ _ (λ A. ok _ here.runs _ _ _)
  stays (Seek a b) = on_iter t m here (iter T a) _ (λ r. on_number t m here (reg T b) _ (λ n. unless t m here (nat_le offset_count n) trap.Offset _ (ok _ here.runs _ _ _)))
  stays (Pos a b) = on_iter t m here _ _ (λ r. ok _ here.runs _ _ _)
  stays (Load a b) = on_iter t m here _ _ (λ r. ok _ here.runs _ _ _)
  stays (Store a b) = on_iter t m here (iter T a) _ (λ r. unless t m here (is_full r) trap.Buffer _ (ok _ here.runs _ _ _))
  stays (Find a b) = on_iter t m here _ _ (λ r. ok _ here.runs _ _ _)
  stays (Next a b) = on_iter t m here _ _ (λ r. ok _ here.runs _ _ _)
  stays (Commit a b) = on_iter t m here (iter T b) _ (λ r. on_own t m here r.segment _ (λ n. on_segment t m here (segment m n) _ (λ s. on_answer (with_open T b (committed r (commit s.kind r.snapshot r.buffered s.array).array)) here.runs a n (commit s.kind r.snapshot r.buffered s.array))))
  stays (Abort a) = on_iter t m here _ _ (λ r. ok _ here.runs _ _ _)
  stays (Close a) = on_iter t m here _ _ (λ r. ok _ here.runs _ _ _)
  stays (Root a b) = on_number t m here (reg T b) _ (λ n. on_segment t m here (segment m n) _ (λ s. ok _ here.runs _ _ _))
  stays (Snap a b) = on_iter t m here _ _ (λ r. ok _ here.runs _ _ _)
  stays (Seal a b) = on_iter t m here (iter T b) _ (λ r. unless t m here (full m (view r)) trap.Full _ (ok _ here.runs _ _ _))
  stays (Mcas a b c) = on_number t m here (reg T a) _ (λ n. on_array t m here (reg T b) _ (λ base. on_array t m here (reg T c) _ (λ mine. on_segment t m here (segment m n) _ (λ s. on_answer T here.runs a n (mcas s.kind base mine s.array)))))

  stays_if : (o : Option Instr) → Stays m t (act_if m t T o)
  stays_if None = trapped t m here trap.End
  stays_if (Some i) = stays i

-- a step that does not halt its task leaves the same tasks running
pub runs_on : (P : Machine) (t : ℕ) (left : Machine) (turn : Turn) → Runs P t → step P t ≡ (left, turn) → (turn ≡ Halted → ⊥) → RunsOn P left t
runs_on P t left turn r is = subst (Stays P t) is (subst (λ o. Stays P t (step_task P t o)) (sym r.there) (stays_if t P r (slice_get P.code r.task.pc)))

-- a step that traps leaves the machine as it is
pub trap_keeps : (P : Machine) (t : ℕ) (left : Machine) (trap : Trap) → IsMachine P → Runs P t → step P t ≡ (left, Trapped trap) → left ≡ P
trap_keeps P t left trap valid r is =
    let runs = subst (λ o. IfSome o (λ (task : Task). task.runs ≡ true)) (sym r.there) r.runs in
    ap (λ (x : Machine × Turn). x.0) (sym is) ∙ (step-trapped P t valid runs trap (ap (λ (x : Machine × Turn). x.1) is)).0

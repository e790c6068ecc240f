-- Each step leaves a valid machine valid, with room for what it holds, and traps only as its instruction may.
use Rattle.std.proofs.Common.{◌≡◌, ℕ, zero, suc, ◌+◌, ◌*◌, ◌%◌, ◌^◌, ◌<◌, Bool, true, false, not, List, [], ◌∷◌, length, Option, Some, None, refl, arith, sym, subst, inl, inr}
use Rattle.std.specs.Prelude.{IfSome, slice_get, nat_le, decimal}
use Rattle.std.specs.List.{AllByRecursion}
use Rattle.std.specs.Option.{is_some}
use Rattle.std.proofs.lemmas.Bool.Decides.{nat_tests}
use Rattle.std.proofs.lemmas.Option.{slice_get_within}
use Rattle.hic_isa.specs.declared.instr.AluOp.{AluOp}
use Rattle.hic_isa.specs.declared.instr.AluOp.TheVariants as op
use Rattle.hic_isa.specs.declared.instr.Instr.{Instr}
use Rattle.hic_isa.specs.declared.instr.Instr.TheVariants.{Halt, Li, Lih, Mov, Addi, Alu, Eq, Isref, Jmp, Jz, Jnz, Getb, Putb, Putn, Open, Openr, Seek, Pos, Load, Store, Find, Next, Commit, Abort, Close, Root, Snap, Seal, Mcas}
use Rattle.hic_isa.specs.declared.instr.Instr.TheVariants as instr
use Rattle.hic_isa.specs.Spelling.{IsInstr}
use Rattle.hic_exec.specs.Outcome.{of_numbers}
use Rattle.hic_object.specs.Parts.{most_tasks}
use Rattle.hic_word.specs.Lists.{In}
use Rattle.hic_word.specs.Values.{Value, Number, Ref, Array, IsArray, IsValue, is_zero, pairs}
use Rattle.hic_word.specs.Same.{same_value}
use Rattle.segment_map.specs.Merging.{Updated, commit, mcas, number_of}
use Rattle.segment_map.proofs.MergeLaws.{commit_valid, mcas_valid}
use Rattle.hic_plain.specs.declared.turn.Trap.{Trap}
use Rattle.hic_plain.specs.declared.turn.Trap.TheVariants as trap
use Rattle.hic_plain.specs.declared.turn.Turn.TheVariants.{Out, Halted, Trapped}
use Rattle.hic_plain.specs.Limits.{end_of_input, offset_count}
use Rattle.hic_plain.specs.Machine.{Iter, Machine, Task, held}
use Rattle.hic_plain.specs.Full.{IsWithinCapacity, full, full_with}
use Rattle.hic_plain.specs.Iters.{attached, committed, emptied, found_from, is_full, loaded, moved, sought, stored, view}
use Rattle.hic_plain.specs.Turns.{halted, iter, jumps_if, next, opens, prints, put_new, reg, sets, traps_if, with_closed, with_iter, with_number, with_open}
use Rattle.hic_plain.specs.Step.{act, act_if, answers, computes, finds, is_reference, one_if, sign_extended, step, step_task, takes}
use Rattle.hic_plain.specs.Traps.{traps_at, traps_if_there, traps_of, traps_of_operation, traps_of_task}
use Rattle.hic_plain.specs.Valid.{IsIter, IsMachine, IsTask}
use Rattle.hic_plain.proofs.Covering.{OfIter, OfValue, iter_more, loaded_of, pair_of, reference_of, register_of, task_in, tasks_at, OfTask}
use Rattle.hic_plain.proofs.Fits.{all-get, half-fits, mod-fits, one_if-fits, outcome-fits, reference-fits, reg-fits}
use Rattle.hic_plain.proofs.IterLaws.{attached_valid, committed_valid, emptied_valid, found_below, loaded_fits, moved_valid, sought_valid, stored_valid, view_valid}
use Rattle.hic_plain.proofs.Landing.{Ground, IsGoing, Lands, Of, after_fits, after_valid, at_pc, beside, going_iter, going_more, halted_valid, held_with, is_width, lands_number, lands_on, lands_set, lands_trapped, lands_went, new_ground, new_of, next_valid, number_of-fits, on_array, on_iter, on_known, on_number, on_own, on_segment, own_ground, put_new-length, same_ground, unless_trap}

-- ---- the row of each instruction

module _ (m : Machine) (t : ℕ) (task : Task) (valid : IsMachine m) (is : IsGoing (length m.segments) (Of m (held m)) task) (number : t < most_tasks) where
  abbrev n : ℕ
  n = length m.segments

  -- what is held of its own is true of
  abbrev C : Array → Type 0
  C = Of m (held m)

  own : Ground m (held m) m
  own = own_ground m valid

  reg_fits : (r : ℕ) → IsValue (reg task r)
  reg_fits r = reg-fits task.regs r is.valid.regs

  reg_of : (r : ℕ) → OfValue C (reg task r)
  reg_of r = register_of C task.regs r is.of.regs

  -- ---- a register, an iterator register or nothing is set

  puts_number : (listed : List Trap) (a k : ℕ) → k < 2 ^ 64 → Lands m listed (sets m t task a (Number k))
  puts_number listed a k fits = lands_number m t listed (held m) m own task a k is fits

  puts_value : (listed : List Trap) (a : ℕ) (v : Value) → IsValue v → OfValue C v → Lands m listed (sets m t task a v)
  puts_value listed a v fits of = lands_set m t listed (held m) m own task a v is fits of

  opens_lands : (listed : List Trap) (a : ℕ) (r : Iter) → IsIter n r → OfIter C r → Lands m listed (opens m t task a r)
  opens_lands listed a r fits of = lands_on m t listed (held m) m own (with_open task a r) (going_iter is a (Some r) fits of)

  jumps_if_lands : (b : Bool) (pc : ℕ) → pc < 2 ^ 32 → Lands m [] (jumps_if b m t task pc)
  jumps_if_lands true pc fits = lands_went m t [] (held m) m own (record task { pc = pc }) (at_pc is pc fits) (task_in C task is.of)
  jumps_if_lands false pc fits = lands_on m t [] (held m) m own task is

  -- ---- numbers

  computes_lands : (op : AluOp) (a x y : ℕ) → x < 2 ^ 64 → y < 2 ^ 64 → Lands m (traps_of_operation op) (computes m t task a (of_numbers op x y))
  computes_lands op.Add a x y one two = puts_number (traps_of_operation op.Add) a _ (outcome-fits op.Add x y one two)
  computes_lands op.Sub a x y one two = puts_number (traps_of_operation op.Sub) a _ (outcome-fits op.Sub x y one two)
  computes_lands op.Mul a x y one two = puts_number (traps_of_operation op.Mul) a _ (outcome-fits op.Mul x y one two)
  computes_lands op.Div a x zero one two = lands_trapped trap.ZeroDivisor valid (inr (inl refl))
  computes_lands op.Div a x (suc y) one two = puts_number (traps_of_operation op.Div) a _ (outcome-fits op.Div x (suc y) one two)
  computes_lands op.Rem a x zero one two = lands_trapped trap.ZeroDivisor valid (inr (inl refl))
  computes_lands op.Rem a x (suc y) one two = puts_number (traps_of_operation op.Rem) a _ (outcome-fits op.Rem x (suc y) one two)
  computes_lands op.And a x y one two = puts_number (traps_of_operation op.And) a _ (outcome-fits op.And x y one two)
  computes_lands op.Or a x y one two = puts_number (traps_of_operation op.Or) a _ (outcome-fits op.Or x y one two)
  computes_lands op.Xor a x y one two = puts_number (traps_of_operation op.Xor) a _ (outcome-fits op.Xor x y one two)
  computes_lands op.Shl a x y one two = puts_number (traps_of_operation op.Shl) a _ (outcome-fits op.Shl x y one two)
  computes_lands op.Shr a x y one two = puts_number (traps_of_operation op.Shr) a _ (outcome-fits op.Shr x y one two)
  computes_lands op.Ltu a x y one two = puts_number (traps_of_operation op.Ltu) a _ (outcome-fits op.Ltu x y one two)

  numbers_only : (op : AluOp) → In trap.BadType (traps_of_operation op)
  numbers_only op.Add = inl refl
  numbers_only op.Sub = inl refl
  numbers_only op.Mul = inl refl
  numbers_only op.Div = inl refl
  numbers_only op.Rem = inl refl
  numbers_only op.And = inl refl
  numbers_only op.Or = inl refl
  numbers_only op.Xor = inl refl
  numbers_only op.Shl = inl refl
  numbers_only op.Shr = inl refl
  numbers_only op.Ltu = inl refl

  alu_lands : (op : AluOp) (a b c : ℕ) → Lands m (traps_of_operation op) (act m t task (Alu op a b c))
  alu_lands op a b c =
      on_number m (traps_of_operation op) valid C (reg task b) _ (reg_fits b) (numbers_only op) (λ x one.
      on_number m (traps_of_operation op) valid C (reg task c) _ (reg_fits c) (numbers_only op) (λ y two. computes_lands op a x y one two))

  takes_lands : (r : ℕ) (input : List ℕ) → AllByRecursion (λ byte. byte < 256) input → Lands m [] (takes m t task r input)
  takes_lands r [] bytes = puts_number [] r end_of_input (omega arith)
  takes_lands r (byte ∷ rest) bytes =
      let left : IsMachine (record m { input = rest }) = record { code_count = valid.code_count; code = valid.code; segment_count = valid.segment_count; segments = valid.segments; task_count = valid.task_count; tasks = valid.tasks; input = bytes.1 } in
      let ground : Ground m (held m) (record m { input = rest }) = record { valid = left; segments = own.segments; tasks = own.tasks; room = own.room } in
      lands_number m t [] (held m) (record m { input = rest }) ground task r byte is (omega (arith, bytes.0))

  prints_lands : (a : ℕ) (listed : List Trap) (bytes : ℕ → List ℕ) → In trap.BadType listed → Lands m listed (with_number m (reg task a) (λ k. prints m t task (bytes k)))
  prints_lands a listed bytes among = on_number m listed valid C (reg task a) (λ k. prints m t task (bytes k)) (reg_fits a) among (λ k fits.
      record { valid = after_valid m t listed (held m) m own (next task) (Out (bytes k)) (next_valid is); room = after_fits m t listed (held m) m own (next task) (Out (bytes k)) (task_in C task is.of); trapped = λ trap e. absurd cc })

  -- ---- iterator registers

  moved_of : (r : Iter) (found : Option ℕ) → OfIter C r → OfIter C (moved r found)
  moved_of r None of = of
  moved_of r (Some o) of = record { snapshot = of.snapshot; buffered = of.buffered }

  finds_lands : (a b : ℕ) (from : Iter → ℕ) → Lands m (trap.Closed ∷ []) (with_iter m (iter task b) (λ r. finds m t task a b r (found_from r (from r))))
  finds_lands a b from = on_iter m (trap.Closed ∷ []) valid C n task b (λ r. finds m t task a b r (found_from r (from r))) is (inl refl) (λ r fits of.
      lands_number m t (trap.Closed ∷ []) (held m) m own (with_open task b (moved r (found_from r (from r)))) a (one_if (is_some (found_from r (from r))))
      (going_iter is b (Some (moved r (found_from r (from r)))) (moved_valid n r fits (found_from r (from r)) (found_below n r (from r) fits)) (moved_of r (found_from r (from r)) of))
      (one_if-fits (is_some (found_from r (from r)))))

  -- ---- new arrays

  seal_lands : (listed : List Trap) (a : ℕ) (A : Array) → In trap.Full listed → IsArray A → Lands m listed (traps_if (full m A) m trap.Full (sets m t task a (Ref (pairs A))))
  seal_lands listed a A among fits =
      unless_trap m listed valid C (full m A) trap.Full (sets m t task a (Ref (pairs A))) among (λ room.
      lands_set m t listed (held_with m (Some A)) m (same_ground m (Some A) valid room) task a (Ref (pairs A)) (going_more m (Some A) is) (reference-fits A fits) (reference_of (Of m (held_with m (Some A))) A (new_of m (Some A))))

  answers_land : (listed : List Trap) (left : Task) (a k : ℕ) (u : Updated) → In trap.Full listed → IfSome u.array IsArray → IsGoing n (Of m (held_with m u.array)) left → Lands m listed (answers m t left a k u)
  answers_land listed left a k u among fits going =
      unless_trap m listed valid C (full_with m u.array) trap.Full (sets (record m { segments = put_new m.segments k u.array }) t left a (Number (number_of u.answer))) among (λ room.
      lands_number m t listed (held_with m u.array) (record m { segments = put_new m.segments k u.array }) (new_ground m u.array k valid fits room) left a (number_of u.answer)
      (subst (λ (i : ℕ). IsGoing i (Of m (held_with m u.array)) left) (sym (put_new-length m.segments k u.array)) going) (number_of-fits u.answer))

  committed_of : (r : Iter) (new : Option Array) → OfIter C r → OfIter (Of m (held_with m new)) (committed r new)
  committed_of r None of = iter_more C (Of m (held_with m None)) (beside m None) r of
  committed_of r (Some A) of = record { snapshot = new_of m (Some A); buffered = tt }

  abbrev commit_listed : List Trap
  commit_listed = trap.Closed ∷ trap.Detached ∷ trap.Full ∷ []

  commit_lands : (a b : ℕ) → Lands m commit_listed (act m t task (Commit a b))
  commit_lands a b =
      on_iter m commit_listed valid C n task b _ is (inl refl) (λ r fits of.
      on_own m commit_listed valid C n r.segment _ fits.segment (inr (inl refl)) (λ k low.
      on_known m commit_listed valid C k _ low own.segments (λ s array_fits array_of.
      let u = commit s.kind r.snapshot r.buffered s.array in
      let new = commit_valid s.kind r.snapshot r.buffered s.array fits.snapshot fits.buffered array_fits in
      answers_land commit_listed (with_open task b (committed r u.array)) a k u (inr (inr (inl refl))) new
      (going_iter (going_more m u.array is) b (Some (committed r u.array)) (committed_valid n r fits u.array new) (committed_of r u.array of)))))

  abbrev mcas_listed : List Trap
  mcas_listed = trap.BadType ∷ trap.Segment ∷ trap.Full ∷ []

  mcas_lands : (a b c : ℕ) → Lands m mcas_listed (act m t task (Mcas a b c))
  mcas_lands a b c =
      on_number m mcas_listed valid C (reg task a) _ (reg_fits a) (inl refl) (λ k small.
      on_array m mcas_listed valid C (reg task b) _ (reg_fits b) (reg_of b) (inl refl) (λ base base_fits base_of.
      on_array m mcas_listed valid C (reg task c) _ (reg_fits c) (reg_of c) (inl refl) (λ mine mine_fits mine_of.
      on_segment m mcas_listed valid C k _ own.segments (inr (inl refl)) (λ s low array_fits array_of.
      let u = mcas s.kind base mine s.array in
      answers_land mcas_listed task a k u (inr (inr (inl refl))) (mcas_valid s.kind base mine s.array base_fits mine_fits array_fits) (going_more m u.array is)))))

  -- ---- all of them

  act_lands : (i : Instr) → IsInstr i → Lands m (traps_of i) (act m t task i)
  act_lands Halt fits = record { valid = after_valid m t [] (held m) m own (halted task) Halted (halted_valid is); room = after_fits m t [] (held m) m own (halted task) Halted tt; trapped = λ trap e. absurd cc }
  act_lands (Li a imm) fits = puts_number [] a imm (omega (arith, fits.1))
  act_lands (Lih a imm) fits = on_number m (trap.BadType ∷ []) valid C (reg task a) _ (reg_fits a) (inl refl) (λ x _. puts_number (trap.BadType ∷ []) a (x % 2 ^ 32 + imm * 2 ^ 32) (half-fits x imm fits.1))
  act_lands (Mov a b) fits = puts_value [] a (reg task b) (reg_fits b) (reg_of b)
  act_lands (Addi a b imm) fits = on_number m (trap.BadType ∷ []) valid C (reg task b) _ (reg_fits b) (inl refl) (λ x _. puts_number (trap.BadType ∷ []) a ((x + sign_extended imm) % 2 ^ 64) (mod-fits (x + sign_extended imm)))
  act_lands (Alu op a b c) fits = alu_lands op a b c
  act_lands (Eq a b c) fits = puts_number [] a (one_if (same_value (reg task b) (reg task c))) (one_if-fits (same_value (reg task b) (reg task c)))
  act_lands (Isref a b) fits = puts_number [] a (one_if (is_reference (reg task b))) (one_if-fits (is_reference (reg task b)))
  act_lands (Jmp imm) fits = jumps_if_lands true imm fits
  act_lands (Jz a imm) fits = jumps_if_lands (is_zero (reg task a)) imm fits.1
  act_lands (Jnz a imm) fits = jumps_if_lands (not (is_zero (reg task a))) imm fits.1
  act_lands (Getb a) fits = takes_lands a m.input valid.input
  act_lands (Putb a) fits = prints_lands a (trap.BadType ∷ []) (λ k. k % 256 ∷ []) (inl refl)
  act_lands (Putn a) fits = prints_lands a (trap.BadType ∷ []) decimal (inl refl)
  act_lands (instr.Task a) fits = puts_number [] a t (omega (arith, number))
  act_lands (Open a b) fits =
      let listed = trap.BadType ∷ trap.Segment ∷ [] in
      on_number m listed valid C (reg task b) _ (reg_fits b) (inl refl) (λ k small.
      on_segment m listed valid C k _ own.segments (inr (inl refl)) (λ s low array_fits array_of. opens_lands listed a (attached (Some k) s.array) (attached_valid n (Some k) s.array low array_fits) (record { snapshot = array_of; buffered = tt })))
  act_lands (Openr a b) fits = on_array m (trap.BadType ∷ []) valid C (reg task b) _ (reg_fits b) (reg_of b) (inl refl) (λ A array_fits array_of. opens_lands (trap.BadType ∷ []) a (attached None A) (attached_valid n None A tt array_fits) (record { snapshot = array_of; buffered = tt }))
  act_lands (Seek a b) fits =
      let listed = trap.Closed ∷ trap.BadType ∷ trap.Offset ∷ [] in
      on_iter m listed valid C n task a _ is (inl refl) (λ r good of.
      on_number m listed valid C (reg task b) _ (reg_fits b) (inr (inl refl)) (λ k small.
      unless_trap m listed valid C (nat_le offset_count k) trap.Offset (opens m t task a (sought r k)) (inr (inr (inl refl))) (λ low. opens_lands listed a (sought r k) (sought_valid n r good k (grind (arith, nat_tests, low))) (record { snapshot = of.snapshot; buffered = of.buffered }))))
  act_lands (Pos a b) fits = on_iter m (trap.Closed ∷ []) valid C n task b _ is (inl refl) (λ r good of. puts_number (trap.Closed ∷ []) a r.position (omega (arith, good.position)))
  act_lands (Load a b) fits = on_iter m (trap.Closed ∷ []) valid C n task b _ is (inl refl) (λ r good of. puts_value (trap.Closed ∷ []) a (loaded r) (loaded_fits n r good) (loaded_of (is_width m) (held m) n r good of))
  act_lands (Store a b) fits =
      let listed = trap.Closed ∷ trap.Buffer ∷ [] in
      on_iter m listed valid C n task a _ is (inl refl) (λ r good of.
      unless_trap m listed valid C (is_full r) trap.Buffer (opens m t task a (stored r (reg task b))) (inr (inl refl)) (λ room.
      opens_lands listed a (stored r (reg task b)) (stored_valid n r good (reg task b) (reg_fits b) room) (record { snapshot = of.snapshot; buffered = pair_of C r.buffered r.position (reg task b) of.buffered (reg_of b) })))
  act_lands (Find a b) fits = finds_lands a b (λ r. r.position)
  act_lands (Next a b) fits = finds_lands a b (λ r. r.position + 1)
  act_lands (Commit a b) fits = commit_lands a b
  act_lands (Abort a) fits = on_iter m (trap.Closed ∷ []) valid C n task a _ is (inl refl) (λ r good of. opens_lands (trap.Closed ∷ []) a (emptied r) (emptied_valid n r good) (record { snapshot = of.snapshot; buffered = tt }))
  act_lands (Close a) fits = on_iter m (trap.Closed ∷ []) valid C n task a _ is (inl refl) (λ r good of. lands_on m t (trap.Closed ∷ []) (held m) m own (with_closed task a) (going_iter is a None tt tt))
  act_lands (Root a b) fits =
      let listed = trap.BadType ∷ trap.Segment ∷ [] in
      on_number m listed valid C (reg task b) _ (reg_fits b) (inl refl) (λ k small.
      on_segment m listed valid C k _ own.segments (inr (inl refl)) (λ s low array_fits array_of. puts_value listed a (Ref (pairs s.array)) (reference-fits s.array array_fits) (reference_of C s.array array_of)))
  act_lands (Snap a b) fits = on_iter m (trap.Closed ∷ []) valid C n task b _ is (inl refl) (λ r good of. puts_value (trap.Closed ∷ []) a (Ref (pairs r.snapshot)) (reference-fits r.snapshot good.snapshot) (reference_of C r.snapshot of.snapshot))
  act_lands (Seal a b) fits = on_iter m (trap.Closed ∷ trap.Full ∷ []) valid C n task b _ is (inl refl) (λ r good of. seal_lands (trap.Closed ∷ trap.Full ∷ []) a (view r) (inr (inl refl)) (view_valid n r good))
  act_lands (Mcas a b c) fits = mcas_lands a b c

-- ---- a step

act_if_lands : (m : Machine) (t : ℕ) (task : Task) → IsMachine m → IsTask (length m.segments) task → OfTask (Of m (held m)) task → task.runs ≡ true → t < most_tasks → (i : Option Instr) → slice_get m.code task.pc ≡ i → IfSome i IsInstr → Lands m (traps_if_there i) (act_if m t task i)
act_if_lands m t task valid is of runs number None there fits = lands_trapped trap.End valid (inl refl)
act_if_lands m t task valid is of runs number (Some i) there fits =
    act_lands m t task valid (record { valid = is; runs = runs; here = omega (arith, slice_get_within m.code task.pc i there, valid.code_count); of = of }) number i fits

step_lands : (m : Machine) (t : ℕ) → IsMachine m → IfSome (slice_get m.tasks t) (λ task. task.runs ≡ true) → Lands m (traps_at m t) (step m t)
step_lands m t valid runs = go (slice_get m.tasks t) refl (all-get (IsTask (length m.segments)) m.tasks t valid.tasks) (tasks_at (Of m (held m)) m.tasks t (own_ground m valid).tasks) runs
  where
    go : (task : Option Task) → slice_get m.tasks t ≡ task → IfSome task (IsTask (length m.segments)) → IfSome task (OfTask (Of m (held m))) → IfSome task (λ u. u.runs ≡ true) → Lands m (traps_of_task m task) (step_task m t task)
    go None there is of runs = lands_trapped trap.End valid (inl refl)
    go (Some task) there is of runs =
        act_if_lands m t task valid is of runs (omega (arith, slice_get_within m.tasks t task there, valid.task_count)) (slice_get m.code task.pc) refl (all-get IsInstr m.code task.pc valid.code)

pub step-valid : (m : Machine) (t : ℕ) → IsMachine m → IfSome (slice_get m.tasks t) (λ task. task.runs ≡ true) → IsMachine (step m t).0
step-valid m t valid runs = (step_lands m t valid runs).valid

pub step-room : (m : Machine) (t : ℕ) → IsMachine m → IfSome (slice_get m.tasks t) (λ task. task.runs ≡ true) → IsWithinCapacity m → IsWithinCapacity (step m t).0
step-room m t valid runs = (step_lands m t valid runs).room

pub step-trapped : (m : Machine) (t : ℕ) → IsMachine m → IfSome (slice_get m.tasks t) (λ task. task.runs ≡ true) → (trap : Trap) → (step m t).1 ≡ Trapped trap → ((step m t).0 ≡ m) × In trap (traps_at m t)
step-trapped m t valid runs = (step_lands m t valid runs).trapped

-- Steps of a task that a machine keeps, as its run goes on.
use Rattle.std.proofs.Common.{◌≡◌, ℕ, zero, suc, ◌+◌, ◌-◌, ◌<◌, ◌≤◌, List, [], ◌∷◌, ◌++◌, length, Option, Some, None, Ok, MatchOption, Result, refl, sym, ◌∙◌, ap, subst, arith}
use Rattle.std.specs.Prelude.{slice_get, slice_index_or, slice_set}
use denote.Ref.{Bor}
use Rattle.std.specs.Slice.{IsItemAt}
use Rattle.std.proofs.lemmas.List.{append-nil}
use Rattle.std.proofs.lemmas.Option.{slice_get_read}
use Rattle.hic_isa.specs.declared.instr.Instr.{Instr}
use Rattle.hic_word.specs.declared.Word.{Word}
use Rattle.hic_word.specs.Memory.{Memory}
use Rattle.line_mem.specs.Looks.{LooksUpTo}
use Rattle.segment_map.specs.declared.Segment.{Segment as Stored}
use Rattle.hic_plain.specs.declared.turn.Trap.{Trap}
use Rattle.hic_plain.specs.declared.turn.Turn.{Turn}
use Rattle.hic_plain.specs.declared.turn.Turn.TheVariants.{Halted, Out, Trapped, Went}
use Rattle.hic_plain.specs.Machine.{Machine}
use Rattle.hic_task.specs.declared.done.Done.{Done}
use Rattle.hic_task.specs.declared.done.Done.TheVariants as done
use Rattle.hic_task.specs.declared.shared.Shared.{Shared}
use Rattle.hic_task.specs.declared.task.Task.{Task as Kept}
use Rattle.hic_task.specs.Acting.{turn_of}
use Rattle.hic_task.specs.OnNumbers.{IsMadeIf}
use Rattle.hic_machine.specs.declared.ran.Ran.{Ran}
use Rattle.hic_machine.specs.declared.ran.Stop.{Stop}
use Rattle.hic_machine.specs.declared.ran.Stop.TheVariants as stops
use Rattle.hic_machine.specs.Held.{MachineFor}
use Rattle.hic_machine.specs.Steps.{IsKept, IsMadeAt, Runs, Stepped, step_looks}
use Rattle.hic_machine.specs.TaskRuns.{IsMadeOf, MadeAt, RanFor, TellsTurn, out_at, run_looks, turn_at}
use Rattle.hic_machine.proofs.RunsOn.{set_there}
use Rattle.hic_machine.proofs.Stepping.{set_back, stepped_on, task_in}
use Rattle.hic_machine.proofs.TaskRunning.{Ends, GoesOn, Reached, begin, ends_here, goes_on, looks_with, stops_before, stops_here}

-- ---- a task in its place

set_twice : (ks : List Kept) (t : ℕ) (x y : Kept) → slice_set (slice_set ks t x) t y ≡ slice_set ks t y
set_twice [] t x y = refl
set_twice (k ∷ ks) zero x y = refl
set_twice (k ∷ ks) (suc t) x y = ap (λ xs. k ∷ xs) (set_twice ks t x y)

-- a task whose registers are what they were
pub kept_so : {m : Memory} {code : List Instr} {s : Shared} {k : Kept} {t : ℕ} {ks : List Kept} {P : Machine} (regs : List Word) → regs ≡ k.regs → IsKept m code s k t ks P → IsKept m code s (record k { regs = regs }) t ks P
kept_so {m} {code} {s} {k} {t} {ks} {P} regs same h = subst (λ ws. IsKept m code s (record k { regs = ws }) t ks P) (sym same) h

-- a task in its place among those of a machine
pub kept_here : {m : Memory} {code : List Instr} {s : Shared} {ks : List Kept} {P : Machine} (xs : List Instr) → xs ≡ code → (x : Kept) (t : ℕ) → x ≡ slice_index_or ks t x → MachineFor m code s.segments s.input ks P → Runs P t → IsKept m xs s x t ks P
kept_here {m} {code} {s} {ks} {P} xs same x t here d r = record {
  there = (task_in m ks P.tasks t r.task x here d.tasks_for r.there).0;
  stands = subst (λ c. MachineFor m c s.segments s.input ks P) (sym same) d;
  runs = r;
}

-- what is left of a step and of a run, by the code that a machine has
pub stepped_with : {n : Memory} {xs code : List Instr} {ss : List Stored} {input : List ℕ} {ks : List Kept} {P : Machine} {t : ℕ} {turn : Turn} → xs ≡ code → Stepped n xs ss input ks P t turn → Stepped n code ss input ks P t turn
stepped_with {n} {xs} {code} {ss} {input} {ks} {P} {t} {turn} same st = subst (λ c. Stepped n c ss input ks P t turn) same st

pub ran_with : {n : Memory} {xs code : List Instr} {ss : List Stored} {input : List ℕ} {ks : List Kept} {P : Machine} {t : ℕ} {ran : Ran} {printed : List ℕ} → xs ≡ code → RanFor n xs ss input ks P t ran printed → RanFor n code ss input ks P t ran printed
ran_with {n} {xs} {code} {ss} {input} {ks} {P} {t} {ran} {printed} same r = subst (λ c. RanFor n c ss input ks P t ran printed) same r

-- ---- the instruction

-- the code of a machine is short
pub short : {m : Memory} {code : List Instr} {ss : List Stored} {input : List ℕ} {ks : List Kept} {P : Machine} → MachineFor m code ss input ks P → length code ≤ 65536
short d = let f = ap length d.code_is in let low = d.valid.code_count in omega (arith, f, low)

-- the instruction that was looked up
pub got : (xs : List Instr) (i : ℕ) (r : Option (Bor Instr)) (x : Bor Instr) → r ≡ Some x → IsItemAt xs i r → slice_get xs i ≡ Some x.now
got xs i r x e found = let at = subst (IsItemAt xs i) e found in slice_get_read xs (length xs) i x.now refl at.3.0 at.1

-- an instruction that is there, and whose row is made or not
pub made_there : (code : List Instr) (old new : List Word) (pc t : ℕ) (next : Option ℕ) (i : Instr) → slice_get code pc ≡ Some i → IsMadeIf next old new pc t i → MatchOption next (new ≡ old) (λ n. IsMadeAt code old new pc n t)
made_there code old new pc t None i there same = same
made_there code old new pc t (Some n) i there made = (i, there, made)

-- a row that is made on numbers is a step of the machine
pub number_stepped : {m : Memory} {code : List Instr} {s : Shared} {k : Kept} {t : ℕ} {ks : List Kept} {P : Machine} (regs : List Word) (next : ℕ) → IsMadeAt code k.regs regs k.pc next t → IsKept m code s k t ks P → Stepped m code s.segments s.input (slice_set ks t (record k { regs = regs; pc = next })) P t Went
number_stepped {m} {code} {s} {k} {t} {ks} {P} regs next (i, found, made) h = stepped_on m code s k t ks P h m s (record k { regs = regs; pc = next }) i (Ok done.Went) found (made m s k)

-- ---- a run, of which so many steps are left

-- at first all are
pub all_left : {m : Memory} {code : List Instr} {s : Shared} {k : Kept} {t : ℕ} {ks : List Kept} {P : Machine} (most probe old : ℕ) (printed : List ℕ) → printed ≡ [] → IsKept m code s k t ks P → Reached m code s.segments s.input (slice_set ks t k) P t (most - most) printed probe old old
all_left {m} {code} {s} {k} {t} {ks} {P} most probe old printed nothing h =
    let none : 0 ≡ most - most = omega arith in
    subst (λ n. Reached m code s.segments s.input (slice_set ks t k) P t n printed probe old old) none
    (subst (λ bs. Reached m code s.segments s.input (slice_set ks t k) P t 0 bs probe old old) (sym nothing)
    (subst (λ us. Reached m code s.segments s.input us P t 0 [] probe old old) (sym (set_back ks t k h.there)) (begin m code s.segments s.input ks P t probe old h.stands h.runs)))

module _ {m : Memory} {code : List Instr} (s : Shared) (ks : List Kept) {P : Machine} {t most left probe old mid : ℕ} {printed : List ℕ} (first k : Kept) (there : slice_get ks t ≡ Some first) (some : 0 < left) (few : left ≤ most) (r : Reached m code s.segments s.input (slice_set ks t k) P t (most - left) printed probe old mid) where
  -- the task from which it goes on
  pub kept : IsKept m code s k t (slice_set ks t k) r.now
  kept = record { there = set_there ks t first k there; stands = r.stands; runs = r.runs }

  made_one : most - left + 1 ≡ most - (left - 1)
  made_one = omega (arith, some, few)

  -- a row on numbers is made
  pub goes_on_numbers : (regs : List Word) (next : ℕ) → IsMadeAt code k.regs regs k.pc next t → Reached m code s.segments s.input (slice_set ks t (record k { regs = regs; pc = next })) P t (most - (left - 1)) printed probe old mid
  goes_on_numbers regs next made =
      let k' = record k { regs = regs; pc = next } in
      let st = subst (λ us. Stepped m code s.segments s.input us r.now t Went) (set_twice ks t k k') (number_stepped regs next made kept) in
      subst (λ c. Reached m code s.segments s.input (slice_set ks t k') P t c printed probe old mid) made_one
      (goes_on r m s.segments s.input (slice_set ks t k') mid Went st (omega arith, omega arith) [] printed refl (sym (append-nil printed)))

  -- a whole step is made, from registers that are what they were
  module _ (regs : List Word) (same : regs ≡ k.regs) (laid : m.layout.probe ≡ probe) (n : Memory) (s' : Shared) (k' : Kept) (new : ℕ) (x y : Result Done Trap) (did : x ≡ y)
      (steps : (us : List Kept) (Q : Machine) → IsKept m code s (record k { regs = regs }) t us Q → Stepped n code s'.segments s'.input (slice_set us t k') Q t (turn_of x s'.printed))
      (looks : (us : List Kept) (Q : Machine) → IsKept m code s (record k { regs = regs }) t us Q → LooksUpTo (step_looks m.layout.probe Q t) mid new) where
    its_step : Stepped n code s'.segments s'.input (slice_set ks t k') r.now t (turn_of y s'.printed)
    its_step = subst (λ z. Stepped n code s'.segments s'.input (slice_set ks t k') r.now t (turn_of z s'.printed)) did
        (subst (λ us. Stepped n code s'.segments s'.input us r.now t (turn_of x s'.printed)) (set_twice ks t k k') (steps (slice_set ks t k) r.now (kept_so regs same kept)))

    its_looks : LooksUpTo (step_looks probe r.now t) mid new
    its_looks = subst (λ p. LooksUpTo (step_looks p r.now t) mid new) laid (looks (slice_set ks t k) r.now (kept_so regs same kept))

    pub whole_goes : (bytes after : List ℕ) → GoesOn (turn_of y s'.printed) bytes → after ≡ printed ++ bytes → Reached n code s'.segments s'.input (slice_set ks t k') P t (most - (left - 1)) after probe old new
    whole_goes bytes after on are = subst (λ c. Reached n code s'.segments s'.input (slice_set ks t k') P t c after probe old new) made_one
        (goes_on r n s'.segments s'.input (slice_set ks t k') new (turn_of y s'.printed) its_step its_looks bytes after on are)

    pub whole_ends : (stop : Stop) (bytes : List ℕ) → Ends (turn_of y s'.printed) → turn_at stop ≡ turn_of y s'.printed → out_at stop bytes ≡ printed → RanFor n code s'.segments s'.input (slice_set ks t k') P t (record { made = most - (left - 1); stop = stop }) bytes
    whole_ends stop bytes last tells out = subst (λ c. RanFor n code s'.segments s'.input (slice_set ks t k') P t (record { made = c; stop = stop }) bytes) made_one
        (ends_here r n s'.segments s'.input (slice_set ks t k') new (turn_of y s'.printed) its_step its_looks stop bytes last tells out)

    pub whole_left : (trap : Trap) (bytes : List ℕ) → turn_of y s'.printed ≡ Trapped trap → bytes ≡ printed → RanFor n code s'.segments s'.input (slice_set ks t k') P t (record { made = most - (left - 1 + 1); stop = stops.Out }) bytes
    whole_left trap bytes traps out =
        let all : most - left ≡ most - (left - 1 + 1) = omega (arith, some) in
        subst (λ c. RanFor n code s'.segments s'.input (slice_set ks t k') P t (record { made = c; stop = stops.Out }) bytes) all
        (stops_before r n s'.segments s'.input (slice_set ks t k') new (turn_of y s'.printed) its_step its_looks trap stops.Out bytes traps refl out)

    pub whole_looks : LooksUpTo (run_looks probe P t most) old new
    whole_looks = looks_with r n s'.segments s'.input (slice_set ks t k') new (turn_of y s'.printed) its_step its_looks most (omega (arith, some, few))

-- ---- a run of one step

module _ {m : Memory} {code : List Instr} {s : Shared} {k : Kept} {t : ℕ} {ks : List Kept} {P : Machine} (probe old : ℕ) (h : IsKept m code s k t ks P) where
  first : Reached m code s.segments s.input ks P t 0 [] probe old old
  first = begin m code s.segments s.input ks P t probe old h.stands h.runs

  module _ (n : Memory) (s' : Shared) (k' : Kept) (new : ℕ) (looked : LooksUpTo (step_looks probe P t) old new) where
    abbrev One : Stop → List ℕ → Type 0
    One stop printed = RanFor n code s'.segments s'.input (slice_set ks t k') P t (record { made = 1; stop = stop }) printed

    pub one_ran : (turn : Turn) (stop : Stop) (printed : List ℕ) → Stepped n code s'.segments s'.input (slice_set ks t k') P t turn → TellsTurn turn stop printed → One stop printed
    unfolding begin first
    one_ran Went stop printed st told =
        subst (λ z. One z printed) (sym told) (stops_here (goes_on first n s'.segments s'.input (slice_set ks t k') new Went st looked [] [] refl refl) stops.Most printed refl refl)
    one_ran (Out bytes) stop printed st told =
        subst (λ z. One z printed) (sym told.0) (stops_here (goes_on first n s'.segments s'.input (slice_set ks t k') new (Out bytes) st looked bytes printed refl told.1) stops.Out printed refl refl)
    one_ran Halted stop printed st told =
        subst (λ z. One z printed) (sym told.0) (ends_here first n s'.segments s'.input (slice_set ks t k') new Halted st looked stops.Halted printed tt refl told.1)
    one_ran (Trapped trap) stop printed st told =
        subst (λ z. One z printed) (sym told) (ends_here first n s'.segments s'.input (slice_set ks t k') new (Trapped trap) st looked (stops.Trapped trap) printed tt refl refl)

    pub one_looks : (turn : Turn) (most : ℕ) → most ≡ 1 → Stepped n code s'.segments s'.input (slice_set ks t k') P t turn → LooksUpTo (run_looks probe P t most) old new
    unfolding begin first
    one_looks turn most one st = looks_with first n s'.segments s'.input (slice_set ks t k') new turn st looked most (omega (arith, one))

pub one_made : (most : ℕ) (stop : Stop) (printed : List ℕ) → most ≡ 1 → IsMadeOf most (record { made = 1; stop = stop }) printed
one_made most stop printed one = record { some = λ _. omega arith; within = omega (arith, one); at = by stop }
  where
    by : (stop : Stop) → MadeAt stop 1 most printed
    by stops.Most = omega (arith, one)
    by stops.Out = λ less. absurd (omega (arith, one, less))
    by stops.Halted = tt
    by (stops.Trapped trap) = tt

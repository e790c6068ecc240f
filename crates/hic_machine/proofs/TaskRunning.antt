-- A run of one task, step by step: what is made, and the rest that is still to be run, are the whole run.
use Rattle.std.proofs.Common.{◌≡◌, ℕ, suc, ◌+◌, ◌-◌, ◌<◌, ◌≤◌, List, [], ◌++◌, refl, sym, ◌∙◌, ap, arith, append_assoc}
use Rattle.std.proofs.lemmas.List.{append-nil}
use Rattle.hic_isa.specs.declared.instr.Instr.{Instr}
use Rattle.hic_word.specs.Memory.{Memory}
use Rattle.line_mem.specs.Looks.{LooksUpTo}
use Rattle.segment_map.specs.declared.Segment.{Segment as Stored}
use Rattle.hic_plain.specs.declared.turn.Trap.{Trap}
use Rattle.hic_plain.specs.declared.turn.Turn.{Turn}
use Rattle.hic_plain.specs.declared.turn.Turn.TheVariants as turns
use Rattle.hic_plain.specs.Machine.{Machine}
use Rattle.hic_plain.specs.Step.{step}
use Rattle.hic_task.specs.declared.task.Task.{Task as Kept}
use Rattle.hic_machine.specs.declared.ran.Stop.{Stop}
use Rattle.hic_machine.specs.Held.{MachineFor}
use Rattle.hic_machine.specs.Steps.{Runs, Stepped, step_looks}
use Rattle.hic_machine.specs.TaskRuns.{RanFor, TaskRun, after_step, ahead, looks_after, out_at, run_looks, run_task, turn_at}
use Rattle.hic_machine.proofs.RunsOn.{runs_on, trap_keeps}

-- ---- a step of the plain machine's run

-- after this turn the task goes on, and these bytes were printed
abbrev pub GoesOn : Turn → List ℕ → Type 0
GoesOn turns.Went bytes = bytes ≡ []
GoesOn (turns.Out printed) bytes = bytes ≡ printed
GoesOn turns.Halted bytes = ⊥
GoesOn (turns.Trapped trap) bytes = ⊥

-- this turn is the last one
abbrev pub Ends : Turn → Type 0
Ends turns.Went = ⊥
Ends (turns.Out printed) = ⊥
Ends turns.Halted = Unit {0}
Ends (turns.Trapped trap) = Unit {0}

not_halted : (turn : Turn) (bytes : List ℕ) → GoesOn turn bytes → turn ≡ turns.Halted → ⊥
not_halted turns.Went bytes on e = cc
not_halted (turns.Out printed) bytes on e = cc
not_halted turns.Halted bytes on e = on
not_halted (turns.Trapped trap) bytes on e = cc

module _ (P : Machine) (t n : ℕ) (left : Machine) (turn : Turn) (is : step P t ≡ (left, turn)) where
  its_run : run_task P t (suc n) ≡ after_step (left, turn) (λ new. run_task new t n)
  unfolding run_task
  its_run = ap (λ x. after_step x (λ new. run_task new t n)) is

  its_looks : (probe : ℕ) → run_looks probe P t (suc n) ≡ step_looks probe P t + looks_after (left, turn) (λ new. run_looks probe new t n)
  unfolding run_looks
  its_looks probe = ap (λ x. step_looks probe P t + looks_after x (λ new. run_looks probe new t n)) is

goes_ahead : (turn : Turn) (bytes : List ℕ) (left : Machine) (rest : Machine → TaskRun) → GoesOn turn bytes → after_step (left, turn) rest ≡ ahead 1 bytes (rest left)
goes_ahead turns.Went bytes left rest on = ap (λ bs. ahead 1 bs (rest left)) (sym on)
goes_ahead (turns.Out printed) bytes left rest on = ap (λ bs. ahead 1 bs (rest left)) (sym on)
goes_ahead turns.Halted bytes left rest on = absurd on
goes_ahead (turns.Trapped trap) bytes left rest on = absurd on

looks_ahead : (turn : Turn) (bytes : List ℕ) (left : Machine) (rest : Machine → ℕ) → GoesOn turn bytes → looks_after (left, turn) rest ≡ rest left
looks_ahead turns.Went bytes left rest on = refl
looks_ahead (turns.Out printed) bytes left rest on = refl
looks_ahead turns.Halted bytes left rest on = absurd on
looks_ahead (turns.Trapped trap) bytes left rest on = absurd on

ends_there : (turn : Turn) (left : Machine) (rest : Machine → TaskRun) → Ends turn → after_step (left, turn) rest ≡ record { left = left; made = 1; out = []; turn = turn }
ends_there turns.Went left rest last = absurd last
ends_there (turns.Out printed) left rest last = absurd last
ends_there turns.Halted left rest last = refl
ends_there (turns.Trapped trap) left rest last = refl

run_none : (P : Machine) (t : ℕ) → run_task P t 0 ≡ record { left = P; made = 0; out = []; turn = turns.Went }
unfolding run_task
run_none P t = refl

pub ahead_none : (r : TaskRun) → r ≡ ahead 0 [] r
ahead_none r = let same : r.made ≡ 0 + r.made = omega arith in λ i. record r { made = same i }

ahead_more : (n : ℕ) (printed bytes : List ℕ) (r : TaskRun) → ahead n printed (ahead 1 bytes r) ≡ ahead (n + 1) (printed ++ bytes) r
ahead_more n printed bytes r =
    let counts : n + (1 + r.made) ≡ n + 1 + r.made = omega arith in
    let outs = sym (append_assoc printed bytes r.out) in
    λ i. record r { made = counts i; out = outs i }

-- ---- the loop

-- after so many steps, which printed these bytes, the words stand for a machine from which the rest of the run is run
pub record Reached (m : Memory) (code : List Instr) (segments : List Stored) (input : List ℕ) (tasks : List Kept) (P : Machine) (t made : ℕ) (printed : List ℕ) (probe old new : ℕ) : Type 0 where
  pub now : Machine
  pub stands : MachineFor m code segments input tasks now
  pub runs : Runs now t
  pub run : (k : ℕ) → run_task P t (made + k) ≡ ahead made printed (run_task now t k)
  pub spent : ℕ
  pub within : LooksUpTo spent old new
  pub looks : (k : ℕ) → run_looks probe P t (made + k) ≡ spent + run_looks probe now t k

unfoldable pub begin : (m : Memory) (code : List Instr) (ss : List Stored) (input : List ℕ) (ks : List Kept) (P : Machine) (t probe old : ℕ) → MachineFor m code ss input ks P → Runs P t → Reached m code ss input ks P t 0 [] probe old old
begin m code ss input ks P t probe old d r = record {
  now = P;
  stands = d;
  runs = r;
  run = λ k. (let none : 0 + k ≡ k = omega arith in ap (run_task P t) none ∙ ahead_none (run_task P t k));
  spent = 0;
  within = (omega arith, omega arith);
  looks = λ k. (let none : 0 + k ≡ k = omega arith in let same = ap (run_looks probe P t) none in omega (arith, same));
}

module _ {m : Memory} {code : List Instr} {ss : List Stored} {input : List ℕ} {ks : List Kept} {P : Machine} {t made : ℕ} {printed : List ℕ} {probe old mid : ℕ} (r : Reached m code ss input ks P t made printed probe old mid) where
  -- so far, where the task goes on
  run_so_far : run_task P t made ≡ record { left = r.now; made = made; out = printed; turn = turns.Went }
  run_so_far =
      let none : made ≡ made + 0 = omega arith in
      let outs = append-nil printed in
      ap (run_task P t) none ∙ r.run 0 ∙ ap (ahead made printed) (run_none r.now t) ∙ (λ i. record { left = r.now; made = sym none i; out = outs i; turn = turns.Went })

  pub looks_so_far : (most : ℕ) → made ≤ most → LooksUpTo (run_looks probe P t most) old mid
  looks_so_far most low =
      let rest : most ≡ made + (most - made) = omega (arith, low) in
      let looks = ap (run_looks probe P t) rest ∙ r.looks (most - made) in
      let a = r.within.0 in
      let b = r.within.1 in
      (a, omega (arith, looks, b))

  -- a run that stops here
  pub stops_here : (stop : Stop) (bytes : List ℕ) → turn_at stop ≡ turns.Went → out_at stop bytes ≡ printed → RanFor m code ss input ks P t (record { made = made; stop = stop }) bytes
  stops_here stop bytes turn out = record {
    left = r.now;
    stands = r.stands;
    is = run_so_far ∙ (λ i. record { left = r.now; made = made; out = sym out i; turn = sym turn i });
  }

  module _ (n : Memory) (ss' : List Stored) (input' : List ℕ) (ks' : List Kept) (new : ℕ) (turn : Turn) (s : Stepped n code ss' input' ks' r.now t turn) (looked : LooksUpTo (step_looks probe r.now t) mid new) where
    -- a step more, after which the task goes on
    pub goes_on : (bytes after : List ℕ) → GoesOn turn bytes → after ≡ printed ++ bytes → Reached n code ss' input' ks' P t (made + 1) after probe old new
    goes_on bytes after on are =
        let a = r.within.0 in
        let b = r.within.1 in
        let c = looked.0 in
        let d = looked.1 in
        record {
          now = s.left;
          stands = s.stands;
          runs = (runs_on r.now t s.left turn r.runs s.is (not_halted turn bytes on)).runs;
          run = λ k. (let more : made + 1 + k ≡ made + suc k = omega arith in
              ap (run_task P t) more ∙ r.run (suc k) ∙ ap (ahead made printed) (its_run r.now t k s.left turn s.is ∙ goes_ahead turn bytes s.left (λ new. run_task new t k) on)
              ∙ ahead_more made printed bytes (run_task s.left t k) ∙ ap (λ bs. ahead (made + 1) bs (run_task s.left t k)) (sym are));
          spent = r.spent + step_looks probe r.now t;
          within = (omega (arith, a, c), omega (arith, b, d));
          looks = λ k. (let more : made + 1 + k ≡ made + suc k = omega arith in
              let looks = ap (run_looks probe P t) more ∙ r.looks (suc k) in
              let rest = its_looks r.now t k s.left turn s.is probe in
              let last = looks_ahead turn bytes s.left (λ new. run_looks probe new t k) on in
              omega (arith, looks, rest, last));
        }

    -- the looks of one more step are among those of a longer run
    pub looks_with : (most : ℕ) → made < most → LooksUpTo (run_looks probe P t most) old new
    looks_with most low =
        let rest : most ≡ made + suc (most - (made + 1)) = omega (arith, low) in
        let looks = ap (run_looks probe P t) rest ∙ r.looks (suc (most - (made + 1))) in
        let more = its_looks r.now t (most - (made + 1)) s.left turn s.is probe in
        let a = r.within.0 in
        let b = r.within.1 in
        let c = looked.0 in
        let d = looked.1 in
        (omega (arith, a, c), omega (arith, looks, more, b, d))

    -- the last step
    pub ends_here : (stop : Stop) (bytes : List ℕ) → Ends turn → turn_at stop ≡ turn → out_at stop bytes ≡ printed → RanFor n code ss' input' ks' P t (record { made = made + 1; stop = stop }) bytes
    ends_here stop bytes last tells out =
        let outs = append-nil printed ∙ sym out in
        record {
          left = s.left;
          stands = s.stands;
          is = r.run 1 ∙ ap (ahead made printed) (its_run r.now t 0 s.left turn s.is ∙ ends_there turn s.left (λ new. run_task new t 0) last)
              ∙ (λ i. record { left = s.left; made = made + 1; out = outs i; turn = sym tells i });
        }

    -- before a step that traps, which changes nothing
    pub stops_before : (trap : Trap) (stop : Stop) (bytes : List ℕ) → turn ≡ turns.Trapped trap → turn_at stop ≡ turns.Went → out_at stop bytes ≡ printed → RanFor n code ss' input' ks' P t (record { made = made; stop = stop }) bytes
    stops_before trap stop bytes traps tells out =
        let same = trap_keeps r.now t s.left trap r.stands.valid r.runs (s.is ∙ ap (λ x. (s.left, x)) traps) in
        record {
          left = s.left;
          stands = s.stands;
          is = run_so_far ∙ (λ i. record { left = sym same i; made = made; out = sym out i; turn = sym tells i });
        }

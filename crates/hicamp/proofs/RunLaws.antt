-- What is left of a run of a machine.
use Rattle.std.proofs.Common.{◌≡◌, ℕ, zero, suc, ◌+◌, ◌*◌, ◌^◌, ◌≤◌, ◌<◌, List, [], ◌++◌, length, Some, None, IsTrue, sym, ◌∙◌, ap, subst, arith, append_assoc}
use Rattle.std.proofs.lemmas.List.{append-nil}
use Rattle.std.proofs.lemmas.Option.{slice_get_within}
use Rattle.hic_io.specs.HostState.{HostState}
use Rattle.hic_io.specs.Output.{Puts, WrotePart}
use Rattle.hic_io.specs.declared.writing.Side.TheVariants.{Output}
use Rattle.hic_io.proofs.CallLaws.{puts-more, puts-then, puts-still, part-later, room-kept}
use Rattle.hic_plain.specs.declared.turn.End.TheVariants as ends
use Rattle.hic_plain.specs.Machine.{Machine}
use Rattle.hic_plain.specs.Run.{Ran, after_turn, ended, go, running, spent, turn}
use Rattle.hic_plain.specs.Step.{step}
use Rattle.task_sched.specs.Order.{Order}
use Rattle.hic_plain.proofs.RunLaws.{picked_runs}
use Rattle.hic_machine.specs.Steps.{Runs}
use Rattle.task_sched.specs.Pick.{Picked, pick, pick_of}
use Rattle.hicamp.specs.Running.{after_steps, run_by}
use Rattle.hicamp.specs.Summary.{count_of}

-- a run was to write and end as the whole, and this run is left of it
pub record RunSoFar (s0 s1 : HostState) (kept0 kept1 : List ℕ) (whole left : Ran) : Type 0 where
  pub so_far : List ℕ
  pub out : so_far ++ left.out ≡ whole.out
  pub end : left.end ≡ whole.end
  pub last : left.last ≡ whole.last
  pub puts : Puts s0 s1 (kept0 ++ so_far) kept1

pub run-start : (s : HostState) (kept : List ℕ) (whole left : Ran) → left ≡ whole → RunSoFar s s kept kept whole left
run-start s kept whole left e = record { so_far = []; out = ap (λ x. x.out) e; end = ap (λ x. x.end) e; last = ap (λ x. x.last) e; puts = subst (λ (xs : List ℕ). Puts s s xs kept) (sym (append-nil kept)) (puts-still s kept) }

-- the run by the same entries and with as many steps
pub same_run : (m : Machine) {a b : Order} {i j : ℕ} → a ≡ b → i ≡ j → run_by m a i ≡ run_by m b j
same_run m {b = b} {i = i} orders counts = ap (λ o. run_by m o i) orders ∙ ap (run_by m b) counts

-- ---- answers that are counted

-- a byte was counted so often in the whole output, and the rest of it is left; what a row prints is less than 2^64 bytes
pub record CountsSoFar (byte : ℕ) (whole rest : List ℕ) (count left most : ℕ) : Type 0 where
  pub is : count_of byte whole ≡ count + count_of byte rest
  pub few : count + 2 ^ 64 * left ≤ 2 ^ 64 * most

pub counts-none : (byte : ℕ) {whole rest : List ℕ} {count left most : ℕ} → rest ≡ whole → count ≡ 0 → left ≡ most → CountsSoFar byte whole rest count left most
counts-none byte same none all =
    let counts = ap (count_of byte) same in
    record { is = omega (arith, counts, none); few = omega (arith, none, all) }

-- ---- steps one after the other

-- no step was made
pub after-none : (made : ℕ) (r : Ran) → made ≡ 0 → r ≡ after_steps made [] r
after-none made r none =
    let same : r.steps ≡ made + r.steps = omega (arith, none) in
    ap (λ (n : ℕ). record { out = r.out; end = r.end; last = r.last; steps = n }) same

-- steps that wrote nothing, and then more of them
pub after-more : {a b : Ran} (c : Ran) (made more all : ℕ) (bytes : List ℕ) → all ≡ made + more → a ≡ after_steps made [] b → b ≡ after_steps more bytes c → a ≡ after_steps all bytes c
after-more c made more all bytes is e f =
    let sum : made + (more + c.steps) ≡ all + c.steps = omega (arith, is) in
    e ∙ ap (after_steps made []) f ∙ ap (λ (n : ℕ). record { out = bytes ++ c.out; end = c.end; last = c.last; steps = n }) sum

-- ---- the run by what is picked

module _ (m : Machine) (order : Order) where
  pub picks-none : pick_of None order.entries ≡ pick (running m) order.entries order.last → (n : ℕ) → run_by m order n ≡ ended ends.Halted m
  unfolding go
  picks-none none zero = ap (spent m) (sym none)
  picks-none none (suc n) = ap (λ p. turn m p (λ t rest new. go new rest (Some t) n)) (sym none)

  module _ (t : ℕ) (rest : List ℕ) (picks : Picked t rest ≡ pick (running m) order.entries order.last) where
    pub picks-spent : run_by m order 0 ≡ ended ends.Budget m
    unfolding go
    picks-spent = ap (spent m) (sym picks)

    pub picks-step : (n k : ℕ) → k ≡ n + 1 → run_by m order k ≡ after_turn m t (step m t) (λ new. go new rest (Some t) n)
    unfolding go
    picks-step n zero is = absurd (omega (arith, is))
    picks-step n (suc k) is =
        let same : k ≡ n = omega (arith, is) in
        ap (λ p. turn m p (λ t rest new. go new rest (Some t) k)) (sym picks)
        ∙ ap (λ (i : ℕ). after_turn m t (step m t) (λ new. go new rest (Some t) i)) same

-- ---- what a turn makes of what is left

module _ {s0 s1 : HostState} {kept0 kept1 : List ℕ} {whole left : Ran} (r : RunSoFar s0 s1 kept0 kept1 whole left) where
  pub run-out : {s2 : HostState} {kept2 : List ℕ} (made : ℕ) (bytes : List ℕ) (rest : Ran) → left ≡ after_steps made bytes rest → Puts s1 s2 (kept1 ++ bytes) kept2 → RunSoFar s0 s2 kept0 kept2 whole rest
  run-out {s2 = s2} {kept2 = kept2} made bytes rest e put = record {
    so_far = r.so_far ++ bytes;
    out = append_assoc r.so_far bytes rest.out ∙ ap (λ x. r.so_far ++ x.out) (sym e) ∙ r.out;
    end = ap (λ x. x.end) (sym e) ∙ r.end;
    last = ap (λ x. x.last) (sym e) ∙ r.last;
    puts = subst (λ (xs : List ℕ). Puts s0 s2 xs kept2) (append_assoc kept0 r.so_far bytes) (puts-then (puts-more bytes r.puts) put);
  }

  -- the whole begins with what is printed now
  split_whole : (made : ℕ) (bytes : List ℕ) (rest : Ran) → left ≡ after_steps made bytes rest → kept0 ++ whole.out ≡ ((kept0 ++ r.so_far) ++ bytes) ++ rest.out
  split_whole made bytes rest e =
      ap (λ (xs : List ℕ). kept0 ++ xs) (sym r.out ∙ ap (λ x. r.so_far ++ x.out) e)
      ∙ sym (append_assoc kept0 r.so_far (bytes ++ rest.out)) ∙ sym (append_assoc (kept0 ++ r.so_far) bytes rest.out)

  pub run-failed : {s2 : HostState} (made : ℕ) (bytes : List ℕ) (rest : Ran) → left ≡ after_steps made bytes rest → WrotePart Output s1 s2 (kept1 ++ bytes) → WrotePart Output s0 s2 (kept0 ++ whole.out)
  run-failed made bytes rest e put = part-later (kept0 ++ whole.out) rest.out (puts-more bytes r.puts) put (split_whole made bytes rest e)

  pub run-room : (made : ℕ) (bytes : List ℕ) (rest : Ran) → left ≡ after_steps made bytes rest → IsTrue s0.sound → length (kept0 ++ whole.out) ≤ s0.room → length (kept1 ++ bytes) ≤ s1.room
  run-room made bytes rest e sound room = room-kept (kept0 ++ whole.out) rest.out (puts-more bytes r.puts) (split_whole made bytes rest e) sound room

  -- where nothing more is written, what was written is the whole
  pub run-ends : left.out ≡ [] → Puts s0 s1 (kept0 ++ whole.out) kept1
  run-ends none =
      let all : r.so_far ≡ whole.out = sym (append-nil r.so_far) ∙ ap (λ (xs : List ℕ). r.so_far ++ xs) (sym none) ∙ r.out in
      subst (λ (xs : List ℕ). Puts s0 s1 (kept0 ++ xs) kept1) all r.puts

-- ---- a task that was picked

pub picked-runs : (m : Machine) (order : Order) (t : ℕ) (rest : List ℕ) → Picked t rest ≡ pick (running m) order.entries order.last → Runs m t
picked-runs m order t rest is = let r = picked_runs m order.entries order.last t rest (sym is) in record { task = r.task; there = r.there; runs = r.runs }

pub there-below : {m : Machine} {t : ℕ} → Runs m t → t < length m.tasks
there-below {m} {t} r = slice_get_within m.tasks t r.task r.there

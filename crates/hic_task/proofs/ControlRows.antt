-- The rows that say where a task goes on, or that it ends.
use Rattle.std.proofs.Common.{◌≡◌, ℕ, ◌+◌, ◌<◌, add-one, arith, get_or, Some, zero, suc, Bool, true, false, cond, List, [], ◌∷◌, Option, None, Ok, length, replicate, refl, sym, ◌∙◌, ap, subst}
use Rattle.std.specs.Prelude.{flat_map, slice_get, slice_set}
use Rattle.std.proofs.lemmas.Option.{same_Some, slice_get-get_or}
use Rattle.iter_regs.specs.Iters.{iter_words}
use Rattle.iter_regs.specs.declared.opened.Open.{Open}
use Rattle.hic_plain.specs.Limits.{iterator_count, register_count}
use Rattle.hic_isa.specs.declared.instr.Instr.{Instr}
use Rattle.hic_word.specs.declared.Kind.TheVariants.{Num}
use Rattle.hic_word.specs.Exchanges.{Exchanges, HoldsAmong}
use Rattle.hic_word.specs.Memory.{Memory, line_at, width}
use Rattle.hic_word.specs.Stands.{AWord, IsNumber, NoWord, WordFor, WordsFor, word_of}
use Rattle.hic_word.specs.Values.{Number}
use Rattle.hic_word.proofs.callers.Holds.{among_first, among_last, group_exchanged, exchanges_nothing, exchanges_reshapes}
use Rattle.hic_plain.specs.Machine.{Iter, Machine, Task, all_closed, no_words}
use Rattle.hic_plain.specs.Step.{act}
use Rattle.hic_plain.specs.Turns.{halted, jumps_if, next}
use Rattle.hic_task.specs.declared.done.Done.TheVariants as done
use Rattle.hic_task.specs.declared.task.Task.{Task as Kept}
use Rattle.hic_task.specs.Acting.{ActsAlone, CanAct}
use Rattle.hic_task.specs.Kept.{ItersFor, TaskFor, task_words}
use Rattle.hic_task.proofs.Ready.{task_valid}
use Rattle.hic_task.proofs.Rows.{went}

-- a task that goes on at another place
at_pc : {m : Memory} {k : Kept} {T : Task} {here there : ℕ} → here ≡ there → TaskFor m k T → TaskFor m (record k { pc = here }) (record T { pc = there })
at_pc same d = record { runs = d.runs; pc = same; regs = d.regs; iters = d.iters }

-- a row that jumps if a test holds
module _ {m : Memory} {k : Kept} {i : Instr} (imm : ℕ) where
  jumped : (test : Bool) → ((P : Machine) (t : ℕ) (T : Task) → CanAct m k P t T → act P t T i ≡ jumps_if test P t T imm) → ActsAlone m m k (record k { pc = cond test imm (k.pc + 1) }) i (Ok done.Went)
  jumped true is = went (exchanges_reshapes (exchanges_nothing m (task_words k))) (λ P t T can. (record T { pc = imm }, at_pc refl can.task_for, is P t T can))
  jumped false is = went (exchanges_reshapes (exchanges_nothing m (task_words k))) (λ P t T can. (next T, at_pc (ap (λ n. n + 1) can.task_for.pc) can.task_for, is P t T can))

  pub jumps_on : {new : Kept} (test : Bool) → new ≡ record k { pc = cond test imm (k.pc + 1) } → ((P : Machine) (t : ℕ) (T : Task) → CanAct m k P t T → act P t T i ≡ jumps_if test P t T imm) → ActsAlone m m k new i (Ok done.Went)
  jumps_on test new_is is = subst (λ new. ActsAlone m m k new i (Ok done.Went)) (sym new_is) (jumped test is)

-- ---- iterator registers that are closed one after another

-- the first n are closed
abbrev pub closed_to : ℕ → List (Option Open) → List (Option Open)
closed_to zero rs = rs
closed_to (suc n) [] = []
closed_to (suc n) (r ∷ rs) = None ∷ closed_to n rs

closed_next : (n : ℕ) (rs : List (Option Open)) → slice_set (closed_to n rs) n None ≡ closed_to (suc n) rs
closed_next zero [] = refl
closed_next zero (r ∷ rs) = refl
closed_next (suc n) [] = refl
closed_next (suc n) (r ∷ rs) = ap (λ ss. None ∷ ss) (closed_next n rs)

closed_length : (n : ℕ) (rs : List (Option Open)) → length (closed_to n rs) ≡ length rs
closed_length zero rs = refl
closed_length (suc n) [] = refl
closed_length (suc n) (r ∷ rs) = ap suc (closed_length n rs)

closed_all : (rs : List (Option Open)) → closed_to (length rs) rs ≡ replicate (length rs) None
closed_all [] = refl
closed_all (r ∷ rs) = ap (λ ss. None ∷ ss) (closed_all rs)

among_member : {m : Memory} (rs : List (Option Open)) (i : ℕ) (r : Option Open) → slice_get rs i ≡ Some r → HoldsAmong m (flat_map iter_words rs) → HoldsAmong m (iter_words r)
among_member [] i r there held = cc
among_member {m} (s ∷ rs) zero r there held = subst (λ x. HoldsAmong m (iter_words x)) (same_Some s r there) (among_first (iter_words s) (flat_map iter_words rs) held)
among_member (s ∷ rs) (suc i) r there held = among_member rs i r there (among_last (iter_words s) (flat_map iter_words rs) held)

module _ (k first : Kept) (n : ℕ) (closed : k ≡ record first { iters = closed_to n first.iters }) where
  pub one_more_closed : {r : Option Open} → r ≡ None → record k { iters = slice_set k.iters n r } ≡ record first { iters = closed_to (n + 1) first.iters }
  one_more_closed none =
      ap (λ r. record k { iters = slice_set k.iters n r }) none ∙ ap (λ (s : Kept). record s { iters = slice_set s.iters n None }) closed
      ∙ ap (λ rs. record first { iters = rs }) (closed_next n first.iters ∙ ap (λ i. closed_to i first.iters) (sym (add-one n)))

  pub all_are_closed : n ≡ iterator_count → length first.iters ≡ iterator_count → k ≡ record first { iters = replicate iterator_count None }
  all_are_closed end four =
      closed ∙ ap (λ i. record first { iters = closed_to i first.iters }) (end ∙ sym four) ∙ ap (λ rs. record first { iters = rs }) (closed_all first.iters ∙ ap (λ i. replicate i None) four)

  -- the register that is to be closed next
  module _ (d : Option Open) (four : length first.iters ≡ iterator_count) (more : n < iterator_count) where
    next_there : slice_get k.iters n ≡ Some (get_or k.iters n d)
    next_there = let size = ap (λ (s : Kept). length s.iters) closed ∙ closed_length n first.iters ∙ four in slice_get-get_or k.iters n d (omega (arith, size, more))

    pub next_held : {m : Memory} → HoldsAmong m (task_words k) → HoldsAmong m (iter_words (get_or k.iters n d))
    next_held held = among_member k.iters n (get_or k.iters n d) next_there (among_last k.regs (flat_map iter_words k.iters) held)

    pub next_given_up : {m o : Memory} {r : Option Open} → r ≡ None → Exchanges m o (iter_words (get_or k.iters n d)) [] → Exchanges m o (task_words k) (task_words (record k { iters = slice_set k.iters n r }))
    next_given_up {m} {o} none e = subst (λ r. Exchanges m o (task_words k) (task_words (record k { iters = slice_set k.iters n r }))) (sym none) (group_exchanged iter_words k.regs k.iters n (get_or k.iters n d) None next_there e)

-- ---- the end of a task

-- a task has as many iterator registers as the plain one
iters_length : (m : Memory) (rs : List (Option Open)) (Rs : List (Option Iter)) → ItersFor m rs Rs → length rs ≡ length Rs
iters_length m [] [] d = refl
iters_length m [] (R ∷ Rs) d = absurd d
iters_length m (r ∷ rs) [] d = absurd d
iters_length m (r ∷ rs) (R ∷ Rs) d = ap suc (iters_length m rs Rs d.1)

pub four_iters : {m : Memory} {k : Kept} {P : Machine} {t : ℕ} {T : Task} → CanAct m k P t T → length k.iters ≡ iterator_count
four_iters {m} {k} {P} {t} {T} can = iters_length m k.iters T.iters can.task_for.iters ∙ (task_valid P t T can.valid can.there).four

-- a task that has halted holds nothing
pub nothing_for : (m : Memory) (k : Kept) (T : Task) → k.runs ≡ false → k.pc ≡ T.pc + 1 → k.regs ≡ replicate register_count (word_of Num 0 0) → k.iters ≡ replicate iterator_count None → TaskFor m k (halted T)
nothing_for m k T runs pc regs iters = record {
  runs = runs;
  pc = pc;
  regs = subst (λ ws. WordsFor (width m) (line_at m) ws no_words) (sym regs) zeros_for;
  iters = subst (λ rs. ItersFor m rs all_closed) (sym iters) (tt, (tt, (tt, (tt, tt))));
}
  where
    zero_for : WordFor (width m) (line_at m) (word_of Num 0 0) (Number 0)
    zero_for = IsNumber refl

    zeros_for : WordsFor (width m) (line_at m) (replicate register_count (word_of Num 0 0)) no_words
    zeros_for = AWord zero_for (AWord zero_for (AWord zero_for (AWord zero_for (AWord zero_for (AWord zero_for (AWord zero_for (AWord zero_for NoWord)))))))

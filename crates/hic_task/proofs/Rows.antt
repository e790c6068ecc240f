-- How the row of an instruction ends.
use Rattle.std.proofs.Common.{◌≡◌, ℕ, Some, None, Ok, Err, refl, sym, ◌∙◌, ap, subst}
use Rattle.hic_isa.specs.declared.instr.Instr.{Instr}
use Rattle.hic_word.specs.Exchanges.{Reshapes}
use Rattle.hic_word.specs.Memory.{Memory}
use Rattle.hic_word.specs.Values.{Number, Pairs, Ref, Value}
use Rattle.hic_word.proofs.callers.Holds.{exchanges_nothing, exchanges_reshapes}
use Rattle.hic_plain.specs.declared.turn.Trap.{Trap}
use Rattle.hic_plain.specs.declared.turn.Turn.{Turn}
use Rattle.hic_plain.specs.declared.turn.Turn.TheVariants.{Trapped, Went}
use Rattle.hic_plain.specs.Machine.{Machine, Task}
use Rattle.hic_plain.specs.Step.{act}
use Rattle.hic_plain.specs.Turns.{after, next, traps, with_reg}
use Rattle.hic_plain.proofs.RowLaws.{left_alone}
use Rattle.hic_task.specs.declared.done.Done.TheVariants as done
use Rattle.hic_task.specs.declared.task.Task.{Task as Kept}
use Rattle.hic_task.specs.Acting.{ActsAlone, CanAct, number_of}
use Rattle.hic_task.specs.Kept.{TaskFor, task_words}

-- a trap leaves the task as it is
pub trapped : {m : Memory} {k : Kept} {i : Instr} {trap : Trap} → ((P : Machine) (t : ℕ) (T : Task) → CanAct m k P t T → act P t T i ≡ traps P trap) → ActsAlone m m k k i (Err trap)
trapped {m} {k} {i} {trap} told = record {
  acts = λ printed P t T can. record {
    left = T;
    task_for = can.task_for;
    is = told P t T can ∙ ap (λ (Q : Machine). (Q, Trapped trap)) (sym (left_alone P t T can.there));
  };
  reshapes = exchanges_reshapes (exchanges_nothing m (task_words k));
  trapped = refl;
}

-- what a row leaves of the plain task
abbrev pub Leaves : (n : Memory) (k : Kept) (P : Machine) (t : ℕ) (T : Task) (i : Instr) (turn : Turn) → Type 0
Leaves n k P t T i turn = (left : Task) × TaskFor n k left × (act P t T i ≡ after P t left turn)

-- the task goes on
pub went : {m n : Memory} {old new : Kept} {i : Instr} → Reshapes m n (task_words old) (task_words new) → ((P : Machine) (t : ℕ) (T : Task) → CanAct m old P t T → Leaves n new P t T i Went) → ActsAlone m n old new i (Ok done.Went)
went r leaves = record {
  acts = λ printed P t T can. (let (left, stands, is) = leaves P t T can in record { left = left; task_for = stands; is = is });
  reshapes = r;
  trapped = tt;
}

-- a value whose number is told
pub number_told : (v : Value) (n : ℕ) → number_of v ≡ Some n → v ≡ Number n
number_told (Number k) n e = cc
number_told (Ref H) n e = cc

pub reference_told : (v : Value) → number_of v ≡ None → (H : Pairs) × (v ≡ Ref H)
reference_told (Number k) e = cc
reference_told (Ref H) e = (H, refl)

-- a register has a number, told otherwise
pub number_set : {n : Memory} {k : Kept} (T : Task) (a : ℕ) {x y : ℕ} → x ≡ y → TaskFor n k (next (with_reg T a (Number x))) → TaskFor n k (next (with_reg T a (Number y)))
number_set {n} {k} T a e d = subst (λ z. TaskFor n k (next (with_reg T a (Number z)))) e d

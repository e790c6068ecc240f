-- The rows on numbers: what they set a register to.
use Rattle.std.proofs.Common.{◌≡◌, ◌↔◌, IsTrue, ℕ, Bool, true, false, Result, Ok, Err, refl, sym, ◌∙◌, ap}
use Rattle.std.specs.Int.{from_bool}
use Rattle.hic_isa.specs.declared.instr.AluOp.{AluOp}
use Rattle.hic_isa.specs.declared.instr.Instr.{Instr}
use Rattle.hic_isa.specs.declared.instr.Instr.TheVariants.{Alu}
use Rattle.hic_exec.specs.declared.arithmetic.AluFault.{AluFault}
use Rattle.hic_exec.specs.declared.arithmetic.AluFault.TheVariants as fault
use Rattle.hic_exec.specs.declared.arithmetic.Operand.{Operand}
use Rattle.hic_exec.specs.Outcome.{of_numbers, outcome_of}
use Rattle.hic_word.specs.declared.Word.{Word}
use Rattle.hic_word.specs.Exchanges.{Exchanges}
use Rattle.hic_word.specs.InMemory.{WordIn}
use Rattle.hic_word.specs.Memory.{Memory, line_at}
use Rattle.hic_word.specs.Stands.{Unique}
use Rattle.hic_word.specs.Values.{Number, Ref, Value}
use Rattle.hic_word.specs.Same.{same_value}
use Rattle.hic_word.proofs.callers.Holds.{exchanges_reshapes}
use Rattle.hic_plain.specs.Machine.{Machine, Task}
use Rattle.hic_plain.specs.Step.{act, computes, one_if}
use Rattle.hic_plain.specs.Turns.{next, reg, sets, traps, with_number, with_reg}
use Rattle.hic_plain.proofs.Fits.{reg-fits}
use Rattle.hic_task.specs.declared.done.Done.TheVariants as done
use Rattle.hic_task.specs.declared.task.Task.{Task as Kept}
use Rattle.hic_task.specs.Acting.{ActsAlone, CanAct}
use Rattle.hic_task.specs.Kept.{TaskFor, task_words}
use Rattle.hic_task.specs.Numbered.{fault_trap, operand_of}
use Rattle.hic_task.proofs.Ready.{task_valid}
use Rattle.hic_task.proofs.Rows.{went}
use Rattle.merge_update.specs.Joins.{ValidIn}
use Rattle.merge_update.proofs.Joining.{not_so, other_told, same_told}

-- a row that sets a register to a number
module _ {m n : Memory} {old new : Kept} {i : Instr} (a : ℕ) {number : ℕ} where
  pub sets_number : Exchanges m n (task_words old) (task_words new) → ((T : Task) → TaskFor m old T → TaskFor n new (next (with_reg T a (Number number))))
      → ((P : Machine) (t : ℕ) (T : Task) → CanAct m old P t T → act P t T i ≡ sets P t T a (Number number)) → ActsAlone m n old new i (Ok done.Went)
  sets_number exchanges stands is = went (exchanges_reshapes exchanges) (λ P t T can. (next (with_reg T a (Number number)), stands T can.task_for, is P t T can))

-- the number that is set, told otherwise
pub sets_same : (P : Machine) (t : ℕ) (T : Task) (a : ℕ) {x y : ℕ} → x ≡ y → sets P t T a (Number x) ≡ sets P t T a (Number y)
sets_same P t T a e = ap (λ z. sets P t T a (Number z)) e

-- ---- arithmetic

module _ (P : Machine) (t : ℕ) (T : Task) (op : AluOp) (a : ℕ) where
  -- the row of an operation goes by its outcome for the two words
  of_operands : (v u : Value) → with_number P v (λ x. with_number P u (λ y. computes P t T a (of_numbers op x y))) ≡ computes P t T a (outcome_of op (operand_of v) (operand_of u))
  of_operands (Number x) (Number y) = refl
  of_operands (Number x) (Ref H) = refl
  of_operands (Ref H) u = refl

  pub alu_outcome : (b c : ℕ) {x y : Operand} {outcome : Result ℕ AluFault} → x ≡ operand_of (reg T b) → y ≡ operand_of (reg T c) → outcome ≡ outcome_of op x y → act P t T (Alu op a b c) ≡ computes P t T a outcome
  alu_outcome b c {y = y} first second is = of_operands (reg T b) (reg T c) ∙ ap (computes P t T a) (sym (is ∙ ap (λ x. outcome_of op x y) first ∙ ap (outcome_of op (operand_of (reg T b))) second))

  pub computes_trap : (f : AluFault) → computes P t T a (Err f) ≡ traps P (fault_trap f)
  computes_trap fault.BadType = refl
  computes_trap fault.ZeroDivisor = refl

-- ---- tests

-- a test as a number
pub one_if_is : (b : Bool) → from_bool b ≡ one_if b
one_if_is true = refl
one_if_is false = refl

-- words are the same where the registers' values are
pub values_told : {m : Memory} {k : Kept} {P : Machine} {t : ℕ} {T : Task} (b c : ℕ) (x y : Word) (same : Bool) → Unique (line_at m) → CanAct m k P t T
    → WordIn m x (reg T b) → WordIn m y (reg T c) → IsTrue same ↔ (x ≡ y) → same ≡ same_value (reg T b) (reg T c)
values_told {m} {k} {P} {t} {T} b c x y same unique can first second told = go same refl
  where
    valid : (r : ℕ) {z : Word} → WordIn m z (reg T r) → ValidIn m z (reg T r)
    valid r stands = (reg-fits T.regs r (task_valid P t T can.valid can.there).regs, stands)

    go : (s : Bool) → same ≡ s → same ≡ same_value (reg T b) (reg T c)
    go true e = e ∙ sym (same_told m unique x y (reg T b) (reg T c) (valid b first) (valid c second) (told.0 e))
    go false e = e ∙ sym (other_told m unique x y (reg T b) (reg T c) (valid b first) (valid c second) (not_so told e))

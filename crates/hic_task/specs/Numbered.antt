-- What the rows on numbers are told by: the task's number, and arithmetic on words.
use Rattle.std.specs.Prelude.{◌≡◌, ℕ, List, Result, OnErr}
use Rattle.hic_isa.specs.declared.instr.Instr.{Instr}
use Rattle.hic_exec.specs.declared.arithmetic.AluFault.{AluFault}
use Rattle.hic_exec.specs.declared.arithmetic.AluFault.TheVariants as fault
use Rattle.hic_exec.specs.declared.arithmetic.Operand.{Operand}
use Rattle.hic_exec.specs.declared.arithmetic.Operand.TheVariants as operand
use Rattle.hic_word.specs.Exchanges.{Reshapes}
use Rattle.hic_word.specs.Memory.{Memory}
use Rattle.hic_word.specs.Values.{Value, Number, Ref}
use Rattle.hic_plain.specs.declared.turn.Trap.{Trap}
use Rattle.hic_plain.specs.declared.turn.Trap.TheVariants as trap
use Rattle.hic_plain.specs.Machine.{Machine, Task}
use Rattle.hic_task.specs.Acting.{Acted, CanAct, turn_of}
use Rattle.hic_task.specs.Kept.{task_words}
use Rattle.hic_task.specs.declared.done.Done.{Done}
use Rattle.hic_task.specs.declared.task.Task.{Task as Kept}

-- what a row on the task alone promises, which the number of the task is given to
pub record ActsNumbered (m n : Memory) (old new : Kept) (number : ℕ) (i : Instr) (result : Result Done Trap) : Type 0 where
  pub acts : (printed : List ℕ) (P : Machine) (T : Task) → CanAct m old P number T → Acted n new P number T i (turn_of result printed)
  pub reshapes : Reshapes m n (task_words old) (task_words new)
  pub trapped : OnErr result (n ≡ m)

-- a value as arithmetic sees it
abbrev pub operand_of : Value → Operand
operand_of (Number n) = operand.Number n
operand_of (Ref H) = operand.Reference

-- the trap of an operation without a value
abbrev pub fault_trap : AluFault → Trap
fault_trap fault.BadType = trap.BadType
fault_trap fault.ZeroDivisor = trap.ZeroDivisor

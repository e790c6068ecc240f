-- Instructions on registers alone, as they are made where each register that they name holds a number.
use Rattle.std.specs.Prelude.{◌≡◌, ℕ, ◌+◌, List, Ok, Option, MatchOption, slice_set}
use Rattle.std.specs.Int.{bit_at}
use Rattle.hic_isa.specs.declared.instr.Instr.{Instr}
use Rattle.hic_word.specs.declared.Kind.TheVariants.{Num}
use Rattle.hic_word.specs.declared.Word.{Word}
use Rattle.hic_word.specs.Exchanges.{Exchanges}
use Rattle.hic_word.specs.Memory.{Memory}
use Rattle.hic_word.specs.Stands.{word_of}
use Rattle.reg_file.specs.Numbers.{HasNumber}
use Rattle.hic_task.specs.Acting.{Acts}
use Rattle.hic_task.specs.declared.done.Done.TheVariants as done
use Rattle.hic_task.specs.declared.shared.Shared.{Shared}
use Rattle.hic_task.specs.declared.task.Task.{Task as Kept}

-- ---- rows

-- The row of the instruction is made: a task with the old registers at pc has the new ones afterwards, and goes on at `next`.
-- The memory and what all tasks share stay as they are, whatever they are.
abbrev pub RowIsMade : (old new : List Word) (pc next number : ℕ) → Instr → Type 0
RowIsMade old new pc next number i = (m : Memory) (s : Shared) (k : Kept) → Acts m m s s (record k { regs = old; pc = pc }) (record k { regs = new; pc = next }) number i (Ok done.Went)

-- it is made where it is told where the task goes on; else nothing is changed
abbrev pub IsMadeIf : Option ℕ → (old new : List Word) (pc number : ℕ) → Instr → Type 0
IsMadeIf goes old new pc number i = MatchOption goes (new ≡ old) (λ next. RowIsMade old new pc next number i)

-- ---- registers

-- the bits of these registers are set
pub record HasBits (bits a b c : ℕ) : Type 0 where
  pub first : bit_at bits a ≡ 1
  pub second : bit_at bits b ≡ 1
  pub third : bit_at bits c ≡ 1

-- each of these registers holds a number
pub record HaveNumbers (words : List Word) (a b c : ℕ) : Type 0 where
  pub first : HasNumber words a
  pub second : HasNumber words b
  pub third : HasNumber words c

-- a register that held a number has this one afterwards, and the task goes on at the next instruction
pub record IsPut (old new : List Word) (pc next a x : ℕ) : Type 0 where
  pub goes : next ≡ pc + 1
  pub words : new ≡ slice_set old a (word_of Num 0 x)
  pub exchanges : (m : Memory) → Exchanges m m old new

-- The arrays that a machine holds, by number.
use Rattle.std.specs.Prelude.{◌≡◌, ℕ, zero, suc, ◌≤◌, Bool, true, false, List, [], ◌∷◌, filter, length, slice_get, Option, Some, None}
use Rattle.std.specs.declared.ops.ControlFlow.{ControlFlow}
use Rattle.std.specs.declared.ops.ControlFlow.TheVariants.{Break, Continue}
use Rattle.hic_word.specs.declared.Kind.{Kind}
use Rattle.hic_word.specs.declared.Kind.TheVariants.{RefNode, RefPack}
use Rattle.hic_word.specs.declared.Word.{Word}
use Rattle.hic_word.specs.Values.{Array}
use Rattle.hic_word.specs.InMemory.{RootIn}
use Rattle.hic_word.specs.Memory.{Memory}
use Rattle.hic_plain.specs.Limits.{register_count}
use Rattle.hic_plain.specs.Machine.{Machine, held}
use Rattle.hic_task.specs.declared.task.Task.{Task as Kept}

-- a root stands for the array at a number among these
pub record RootAt (m : Memory) (arrays : List Array) (k : ℕ) (root : Word) : Type 0 where
  pub array : Array
  pub there : slice_get arrays k ≡ Some array
  pub stands : RootIn m root array

-- an answer is a root for the array at a number, or None where there are not so many
abbrev pub IsRootAt : Memory → List Array → ℕ → Option Word → Type 0
IsRootAt m arrays k None = length arrays ≤ k
IsRootAt m arrays k (Some root) = RootAt m arrays k root

-- the same among the arrays that are held, in order
abbrev pub HeldAt : Memory → Machine → ℕ → Option Word → Type 0
HeldAt m P k answer = IsRootAt m (held P) k answer

-- ---- among words

abbrev pub is_reference_kind : Kind → Bool
is_reference_kind RefNode = true
is_reference_kind RefPack = true
is_reference_kind _ = false

-- the words that reference arrays
abbrev pub references_in : List Word → List Word
references_in words = filter (λ word. is_reference_kind word.kind) words

-- the member at a number, or else what is left of the number behind them all
abbrev pub passing : List Word → ℕ → ControlFlow Word ℕ
passing [] k = Continue k
passing (x ∷ xs) zero = Break x
passing (x ∷ xs) (suc k) = passing xs k

-- the same of the references among words
abbrev pub sought : List Word → ℕ → ControlFlow Word ℕ
sought words k = passing (references_in words) k

-- a task has its registers
abbrev pub HasEight : Kept → Type 0
HasEight k = length k.regs ≡ register_count

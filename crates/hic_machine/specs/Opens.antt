-- How a machine begins.
use Rattle.std.specs.Prelude.{◌≡◌, ℕ, Bool, true, false, None, Result, Ok, Err, replicate}
use Rattle.hic_word.specs.declared.Kind.TheVariants.{Num}
use Rattle.hic_word.specs.Stands.{word_of}
use Rattle.hic_plain.specs.Limits.{iterator_count, register_count}
use Rattle.hic_task.specs.declared.task.Task.{Task as Kept}
use Rattle.hic_machine.specs.declared.opening.OpenError.{OpenError}
use Rattle.hic_machine.specs.declared.opening.OpenError.TheVariants as refusal

-- a task at its entry, with the number 0 in each register, and its iterator registers closed
abbrev pub kept_at : ℕ → Kept
kept_at entry = record { runs = true; pc = entry; regs = replicate register_count (word_of Num 0 0); iters = replicate iterator_count None }

-- what a refusal tells of whether there is no room; want of memory tells nothing
abbrev pub ToldBy : OpenError → Bool → Type 0
ToldBy refusal.Full full = full ≡ true
ToldBy refusal.OutOfMemory full = Unit {0}

-- an answer that comes only where there is room, and is `Full` only where there is none
abbrev pub TellsRoom : {X : Type 0} → Result X OpenError → Bool → Type 0
TellsRoom (Ok x) full = full ≡ false
TellsRoom (Err refusal) full = ToldBy refusal full

-- Words that are counted after they were read.
use Rattle.std.specs.Prelude.{ℕ, ◌==◌, List, length, Result, Ok, Err}
use Rattle.std.specs.Borrow.{Bor}
use Rattle.hic_asm.specs.declared.error.Fault.{Fault}
use Rattle.hic_asm.specs.declared.error.Fault.TheVariants.{Operand}
use Rattle.hic_asm.specs.declared.line.Line.{Line as CodeLine}
use Rattle.hic_asm.specs.Faults.{tested, and_then}
use Rattle.hic_asm.specs.Lines.{Line, line_seen, value}
use Rattle.hic_asm.specs.Words.{words}

-- what was read of so many words, if these are so many
abbrev pub whole : {X : Type 0} → ℕ → List (List ℕ) → Result (X × List (List ℕ)) Fault → Result X Fault
whole count all read = value (and_then (tested (length all == count) Operand all) (λ _. read))

-- a line of the code, and the words after it
abbrev pub read_seen : Result (CodeLine × Bor (List ℕ)) Fault → Result (Line × List (List ℕ)) Fault
read_seen (Ok x) = Ok (line_seen x.0, words x.1.now)
read_seen (Err fault) = Err fault

-- Faults of a line, and of a source.
use Rattle.std.specs.Prelude.{◌≡◌, ◌≢◌, ℕ, Bool, if◌then◌else◌, Option, Some, None, Result, Ok, Err}
use Rattle.hic_asm.specs.declared.error.Fault.{Fault}
use Rattle.hic_asm.specs.declared.error.Fault.TheVariants as fault
use Rattle.hic_asm.specs.declared.error.AsmError.{AsmError}
use Rattle.hic_asm.specs.declared.error.AsmError.TheVariants.{NotText, Word, LabelTwice, Operand, Register, Number, Limit, Order, LabelMissing, OutOfMemory}

-- the fault of this line as the fault of a source
abbrev pub fault_at : ℕ → Fault → AsmError
fault_at line fault.NotText = NotText line
fault_at line fault.Word = Word line
fault_at line fault.LabelTwice = LabelTwice line
fault_at line fault.Operand = Operand line
fault_at line fault.Register = Register line
fault_at line fault.Number = Number line
fault_at line fault.Limit = Limit line
fault_at line fault.Order = Order line
fault_at line fault.LabelMissing = LabelMissing line

-- What a function returned, seen by view, is what the definition gives.
abbrev pub Finds : {X Y : Type 0} → (X → Y) → Result X Fault → Result Y Fault → Type 0
Finds view (Ok x) definition = definition ≡ Ok (view x)
Finds view (Err e) definition = definition ≡ Err e

-- The same for a source, unless memory ran out.
abbrev pub Gives : {X Y : Type 0} → (X → Y) → Result X AsmError → Result Y AsmError → Type 0
Gives view (Ok x) definition = definition ≡ Ok (view x)
Gives view (Err e) definition = e ≢ OutOfMemory → definition ≡ Err e

-- this value where there is one, or else this fault
abbrev pub given : {X : Type 0} → Option X → Fault → Result X Fault
given (Some x) fault = Ok x
given None fault = Err fault

-- this value where it passes the test, or else this fault
abbrev pub tested : {X : Type 0} → Bool → Fault → X → Result X Fault
tested test fault x = given (if test then Some x else None) fault

-- what comes after a value, if there is one
abbrev pub and_then : {X Y E : Type 0} → Result X E → (X → Result Y E) → Result Y E
and_then (Ok x) f = f x
and_then (Err e) f = Err e

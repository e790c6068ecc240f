-- Lines that wait for the labels: what they build, one after the other.
use Rattle.std.specs.Prelude.{◌≡◌, Bool, true, false, List, [], ◌∷◌, Result, Ok}
use Rattle.hic_asm.specs.declared.error.AsmError.{AsmError}
use Rattle.hic_asm.specs.declared.line.Waiting.{Waiting}
use Rattle.hic_asm.specs.Faults.{and_then}
use Rattle.hic_asm.specs.Lines.{Line, Empty, Defines, Task, Segment, Record, Code, line_seen}
use Rattle.hic_asm.specs.Assembly.{Seen, Built, built_by, in_line}

-- a task or an instruction
abbrev pub builds : Line → Bool
builds Empty = false
builds (Defines name) = false
builds (Task entry) = true
builds (Segment kind) = false
builds (Record word) = false
builds (Code instr) = true

-- what these lines build after this, or the first fault
unfoldable pub build_all : Seen → Built → List Waiting → Result Built AsmError
build_all s b [] = Ok b
build_all s b (w ∷ rest) = and_then (in_line w.number (built_by s b (line_seen w.line))) (λ next. build_all s next rest)

-- the new lines build what the old ones build, and then what this builds
abbrev pub Continues : List Waiting → List Waiting → (Seen → Built → Result Built AsmError) → Type 0
Continues old new more = (s : Seen) (b : Built) → build_all s b new ≡ and_then (build_all s b old) (more s)

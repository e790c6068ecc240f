-- Traps: their names, and which of them an instruction has.
use Rattle.std.specs.Prelude.{◌≡◌, ℕ, true, List, [], ◌∷◌, Option, Some, None, IfSome, slice_get, codes}
use Rattle.hic_word.specs.Lists.{In}
use Rattle.hic_isa.specs.declared.instr.AluOp.{AluOp}
use Rattle.hic_isa.specs.declared.instr.AluOp.TheVariants as op
use Rattle.hic_isa.specs.declared.instr.Instr.{Instr}
use Rattle.hic_isa.specs.declared.instr.Instr.TheVariants as instr
use Rattle.hic_plain.specs.declared.turn.Trap.{Trap}
use Rattle.hic_plain.specs.declared.turn.Trap.TheVariants as trap
use Rattle.hic_plain.specs.declared.turn.Turn.TheVariants.{Trapped}
use Rattle.hic_plain.specs.Machine.{Machine, Task}
use Rattle.hic_plain.specs.Step.{step}
use Rattle.hic_plain.specs.Valid.{IsMachine}

abbrev pub trap_name : Trap → List ℕ
trap_name trap.BadType = codes "type"
trap_name trap.ZeroDivisor = codes "zero"
trap_name trap.Segment = codes "segment"
trap_name trap.Closed = codes "closed"
trap_name trap.Offset = codes "offset"
trap_name trap.Buffer = codes "buffer"
trap_name trap.Detached = codes "detached"
trap_name trap.Full = codes "full"
trap_name trap.End = codes "end"

abbrev pub traps_of_operation : AluOp → List Trap
traps_of_operation op.Div = trap.BadType ∷ trap.ZeroDivisor ∷ []
traps_of_operation op.Rem = trap.BadType ∷ trap.ZeroDivisor ∷ []
traps_of_operation op = trap.BadType ∷ []

-- the traps of an instruction, in the order in which they are looked for
abbrev pub traps_of : Instr → List Trap
traps_of (instr.Lih a imm) = trap.BadType ∷ []
traps_of (instr.Addi a b imm) = trap.BadType ∷ []
traps_of (instr.Alu op a b c) = traps_of_operation op
traps_of (instr.Putb a) = trap.BadType ∷ []
traps_of (instr.Putn a) = trap.BadType ∷ []
traps_of (instr.Open a b) = trap.BadType ∷ trap.Segment ∷ []
traps_of (instr.Openr a b) = trap.BadType ∷ []
traps_of (instr.Seek a b) = trap.Closed ∷ trap.BadType ∷ trap.Offset ∷ []
traps_of (instr.Pos a b) = trap.Closed ∷ []
traps_of (instr.Load a b) = trap.Closed ∷ []
traps_of (instr.Store a b) = trap.Closed ∷ trap.Buffer ∷ []
traps_of (instr.Find a b) = trap.Closed ∷ []
traps_of (instr.Next a b) = trap.Closed ∷ []
traps_of (instr.Commit a b) = trap.Closed ∷ trap.Detached ∷ trap.Full ∷ []
traps_of (instr.Abort a) = trap.Closed ∷ []
traps_of (instr.Close a) = trap.Closed ∷ []
traps_of (instr.Root a b) = trap.BadType ∷ trap.Segment ∷ []
traps_of (instr.Snap a b) = trap.Closed ∷ []
traps_of (instr.Seal a b) = trap.Closed ∷ trap.Full ∷ []
traps_of (instr.Mcas a b c) = trap.BadType ∷ trap.Segment ∷ trap.Full ∷ []
traps_of i = []

-- where there is no instruction there is one trap alone
abbrev pub traps_if_there : Option Instr → List Trap
traps_if_there None = trap.End ∷ []
traps_if_there (Some i) = traps_of i

abbrev pub traps_of_task : Machine → Option Task → List Trap
traps_of_task m None = trap.End ∷ []
traps_of_task m (Some task) = traps_if_there (slice_get m.code task.pc)

-- the traps that the next step of task t may have
abbrev pub traps_at : Machine → ℕ → List Trap
traps_at m t = traps_of_task m (slice_get m.tasks t)

-- a step of a task that runs traps only as its instruction may, and then leaves the machine as it was
abbrev pub StepsTrapAsListed : Type 0
StepsTrapAsListed = (m : Machine) (t : ℕ) → IsMachine m → IfSome (slice_get m.tasks t) (λ task. task.runs ≡ true) → (trap : Trap) → (step m t).1 ≡ Trapped trap → ((step m t).0 ≡ m) × In trap (traps_at m t)

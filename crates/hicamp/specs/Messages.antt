-- The messages of the error side.
use Rattle.std.specs.Prelude.{ℕ, List, [], ◌∷◌, ◌++◌, codes, decimal}
use Rattle.hic_object.specs.declared.error.CountName.{CountName}
use Rattle.hic_object.specs.declared.error.CountName.TheVariants as counts
use Rattle.hic_object.specs.declared.error.ObjectError.{ObjectError}
use Rattle.hic_object.specs.declared.error.ObjectError.TheVariants as fault
use Rattle.task_sched.specs.declared.error.SchedError.{SchedError}
use Rattle.task_sched.specs.declared.error.SchedError.TheVariants as wrong
use Rattle.hic_asm.specs.declared.error.AsmError.{AsmError}
use Rattle.hic_asm.specs.declared.error.AsmError.TheVariants as asm
use Rattle.hic_plain.specs.Traps.{trap_name}
use Rattle.hicamp.specs.declared.status.Status.{Status}
use Rattle.hicamp.specs.declared.status.Status.TheVariants as status
use Rattle.hic_plain.specs.declared.turn.Trap.{Trap}
use Rattle.hic_plain.specs.declared.turn.End.{End}
use Rattle.hic_plain.specs.declared.turn.End.TheVariants as ends

-- a text and its line feed
abbrev pub message : List ℕ → List ℕ
message text = text ++ 10 ∷ []

abbrev pub trap_message : Trap → ℕ → ℕ → List ℕ
trap_message trap task pc = message (codes "trap " ++ (trap_name trap ++ (codes " task " ++ (decimal task ++ (codes " pc " ++ decimal pc)))))

-- the text of a fault in an object file, with its place
abbrev pub count_name : CountName → List ℕ
count_name counts.Tasks = codes "tasks"
count_name counts.Segments = codes "segments"
count_name counts.Code = codes "code"
count_name counts.Words = codes "words"

abbrev pub object_text : ObjectError → List ℕ
object_text fault.Magic = codes "object magic"
object_text fault.Version = codes "object version"
object_text (fault.Count at) = codes "object count " ++ count_name at
object_text (fault.Entry task) = codes "object entry " ++ decimal task
object_text (fault.BadKind segment) = codes "object kind " ++ decimal segment
object_text (fault.BadData index) = codes "object data " ++ decimal index
object_text (fault.Code index) = codes "object code " ++ decimal index
object_text fault.Short = codes "object short"
object_text fault.Long = codes "object long"
object_text fault.OutOfMemory = []

-- the text of a fault in a schedule, with its line
abbrev pub schedule_text : SchedError → List ℕ
schedule_text (wrong.BadItem line) = codes "schedule item line " ++ decimal line
schedule_text (wrong.BadTask line) = codes "schedule task line " ++ decimal line
schedule_text (wrong.TooMany line) = codes "schedule many line " ++ decimal line
schedule_text wrong.OutOfMemory = []

-- the text of the first fault in a source, with its line
abbrev pub source_text : AsmError → List ℕ
source_text (asm.Word line) = codes "source word line " ++ decimal line
source_text (asm.Operand line) = codes "source operand line " ++ decimal line
source_text (asm.Register line) = codes "source register line " ++ decimal line
source_text (asm.Number line) = codes "source number line " ++ decimal line
source_text (asm.LabelTwice line) = codes "source twice line " ++ decimal line
source_text (asm.LabelMissing line) = codes "source missing line " ++ decimal line
source_text (asm.Order line) = codes "source order line " ++ decimal line
source_text (asm.Limit line) = codes "source limit line " ++ decimal line
source_text (asm.NotText line) = codes "source text line " ++ decimal line
source_text asm.OutOfMemory = []

-- the message that tells how a run ended; a run that halted has none
abbrev pub end_message : End → List ℕ
end_message ends.Halted = []
end_message ends.Budget = message (codes "budget")
end_message (ends.Trapped trap task pc) = trap_message trap task pc

abbrev pub end_status : End → Status
end_status ends.Halted = status.Done
end_status ends.Budget = status.Budget
end_status (ends.Trapped trap task pc) = status.Trapped

-- the number with which the program ends
abbrev pub code_of : Status → ℕ
code_of status.Done = 0
code_of status.Usage = 2
code_of status.Trapped = 3
code_of status.Budget = 4
code_of status.Refused = 5
code_of status.ReadFault = 6
code_of status.WriteFault = 7
code_of status.NoMemory = 8

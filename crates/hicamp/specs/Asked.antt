-- What is asked of the program: the bytes of its two outputs, its status, and the machine that a run leaves.
use Rattle.std.specs.Prelude.{ℕ, List, [], ◌++◌, length, Option, Some, None, Result, Ok, Err, nat_lt, if◌then◌else◌, codes}
use Rattle.std.specs.FinMap as map
use Rattle.hic_io.specs.HostState.{Files}
use Rattle.hic_object.specs.declared.error.ObjectError.{ObjectError}
use Rattle.hic_object.specs.Parts.{Parts}
use Rattle.hic_object.specs.Reading.{object_at}
use Rattle.hic_object.specs.Spelled.{spelled}
use Rattle.hic_asm.specs.declared.error.AsmError.{AsmError}
use Rattle.hic_asm.specs.Assembly.{assembled}
use Rattle.hic_asm.specs.ObjectText.{dis_text}
use Rattle.hicamp.specs.declared.status.Status.{Status}
use Rattle.hicamp.specs.declared.status.Status.TheVariants as status
use Rattle.hicamp.specs.Limits.{file_name, most_bytes}
use Rattle.hicamp.specs.declared.files.FileKind.{FileKind}
use Rattle.hicamp.specs.declared.files.FileKind.TheVariants as file
use Rattle.hicamp.specs.declared.telling.Telling.{Telling}
use Rattle.hicamp.specs.declared.telling.Telling.TheVariants as telling
use Rattle.hic_plain.specs.Full.{full_at_load}
use Rattle.hic_plain.specs.Machine.{Machine, start}
use Rattle.hic_plain.specs.Run.{Ran, run}
use Rattle.hic_list.specs.Listing.{listing}
use Rattle.hic_gen.specs.Demo.{demo_object, demo_schedule}
use Rattle.hicamp.specs.Summary.{summary}
use Rattle.command_line.specs.Asked.{Asked, Run, Demo, Runs, Lists, Assembles, Disassembles, Demonstrates}
use Rattle.command_line.specs.Limits.{default_steps, default_capacity}
use Rattle.command_line.specs.Request.{request}
use Rattle.hicamp.specs.Messages.{message, object_text, schedule_text, source_text, end_message, end_status}
use Rattle.task_sched.specs.declared.error.SchedError.{SchedError}
use Rattle.task_sched.specs.Faults.{sched_fault}
use Rattle.task_sched.specs.Items.{entries}

-- `last` is the last state of the run, where one was made
pub record Answer : Type 0 where
  pub out : List ℕ
  pub err : List ℕ
  pub status : Status
  pub last : Option Machine

-- one message on the error side
abbrev pub answer_message : List ℕ → Status → Answer
answer_message text status = record { out = []; err = message text; status = status; last = None }

abbrev pub refused : List ℕ → Answer
refused text = answer_message text status.Refused

-- a file that is not there is a fault of the host, and nothing is written
abbrev pub not_there : Answer
not_there = record { out = []; err = []; status = status.ReadFault; last = None }

-- these bytes on the output, where no run is made
abbrev pub answer_bytes : List ℕ → Answer
answer_bytes bytes = record { out = bytes; err = []; status = status.Done; last = None }

-- what a run wrote, how it ended, and what it left
abbrev pub answer_run : Ran → Answer
answer_run r = record { out = r.out; err = end_message r.end; status = end_status r.end; last = Some r.last }

-- the listing of what a run left, with its end
abbrev pub answer_lines : Ran → Answer
answer_lines r = record { out = listing r.last r.end; err = []; status = status.Done; last = Some r.last }

-- the summary of a run
abbrev pub answer_summary : Ran → Answer
answer_summary r = record { out = summary r; err = []; status = status.Done; last = Some r.last }

-- what is told of a run
abbrev pub answer_by : Telling → Ran → Answer
answer_by telling.Output r = answer_run r
answer_by telling.Listing r = answer_lines r
answer_by telling.Summary r = answer_summary r

-- the memory has no room for the lines that the start holds
abbrev pub no_room : Answer
no_room = answer_message (codes "trap full at load") status.Trapped

-- the run from a start by the entries of a schedule, with so many steps at most
abbrev pub asked_from : Telling → Machine → List ℕ → ℕ → Answer
asked_from telling m entries steps = if full_at_load m then no_room else answer_by telling (run m entries steps)

-- each part of the order refuses, or leads on to what is asked of what it read

abbrev pub asked_of_file : FileKind → Option (List ℕ) → (List ℕ → Answer) → Answer
asked_of_file kind None next = not_there
asked_of_file kind (Some bytes) next = if nat_lt (most_bytes kind) (length bytes) then refused (file_name kind ++ codes " too long") else next bytes

abbrev pub asked_of_object : Result Parts ObjectError → (Parts → Answer) → Answer
asked_of_object (Err fault) next = refused (object_text fault)
asked_of_object (Ok o) next = next o

abbrev pub asked_of_program : Option (List ℕ) → (Parts → Answer) → Answer
asked_of_program bytes next = asked_of_file file.Program bytes (λ bytes. asked_of_object (object_at bytes) next)

abbrev pub asked_of_assembly : Result Parts AsmError → (Parts → Answer) → Answer
asked_of_assembly (Err fault) next = refused (source_text fault)
asked_of_assembly (Ok o) next = next o

abbrev pub asked_of_source : Option (List ℕ) → (Parts → Answer) → Answer
asked_of_source text next = asked_of_file file.Source text (λ text. asked_of_assembly (assembled text) next)

abbrev pub asked_of_entries : Option SchedError → List ℕ → (List ℕ → Answer) → Answer
asked_of_entries (Some fault) entries next = refused (schedule_text fault)
asked_of_entries None entries next = next entries

-- the entries of a schedule for so many tasks; without a name there are none
abbrev pub asked_of_schedule : Option (List ℕ) → ℕ → Files → (List ℕ → Answer) → Answer
asked_of_schedule None tasks files next = next []
asked_of_schedule (Some name) tasks files next = asked_of_file file.Schedule (map.get files name) (λ bytes. asked_of_entries (sched_fault bytes tasks) (entries bytes) next)

-- without a name the input is empty
abbrev pub asked_of_input : Option (List ℕ) → Files → (List ℕ → Answer) → Answer
asked_of_input None files next = next []
asked_of_input (Some name) files next = asked_of_file file.Input (map.get files name) next

-- the program is read and refused first, then the schedule, then the input
abbrev pub asked_of_run : Telling → Run → Files → Answer
asked_of_run telling r files =
    asked_of_program (map.get files r.program) (λ o.
    asked_of_schedule r.schedule (length o.entries) files (λ entries.
    asked_of_input r.input files (λ input.
    asked_from telling (start o input r.capacity) entries r.steps)))

-- the bytes of the object that a source is assembled to
abbrev pub asked_of_asm : List ℕ → Files → Answer
asked_of_asm source files = asked_of_source (map.get files source) (λ o. answer_bytes (spelled o))

-- the text of a program
abbrev pub asked_of_dis : List ℕ → Files → Answer
asked_of_dis program files = asked_of_program (map.get files program) (λ o. answer_bytes (dis_text o))

-- the run of the program and the schedule of a demo, with no input and in the limits of a run that names none
abbrev pub asked_of_demo : Demo → Answer
asked_of_demo d = asked_from telling.Summary (start (demo_object d.seed d.size) [] default_capacity) (entries (demo_schedule d.seed d.size)) default_steps

abbrev pub asked_of_request : Option Asked → Files → Answer
asked_of_request None files = answer_message (codes "usage") status.Usage
asked_of_request (Some (Runs r)) files = asked_of_run telling.Output r files
asked_of_request (Some (Lists r)) files = asked_of_run telling.Listing r files
asked_of_request (Some (Assembles source)) files = asked_of_asm source files
asked_of_request (Some (Disassembles program)) files = asked_of_dis program files
asked_of_request (Some (Demonstrates d)) files = asked_of_demo d

-- what the words ask for, with these files
unfoldable pub asked : List (List ℕ) → Files → Answer
asked words files = asked_of_request (request words) files

-- A run of one task: steps until one halts or traps, or as many as are asked for.
use Rattle.std.specs.Prelude.{◌≡◌, ℕ, zero, suc, ◌+◌, ◌<◌, ◌≤◌, List, [], ◌++◌, length}
use Rattle.hic_isa.specs.declared.instr.Instr.{Instr}
use Rattle.hic_word.specs.Memory.{Memory}
use Rattle.segment_map.specs.declared.Segment.{Segment as Stored}
use Rattle.hic_plain.specs.declared.turn.Trap.{Trap}
use Rattle.hic_plain.specs.declared.turn.Turn.{Turn}
use Rattle.hic_plain.specs.declared.turn.Turn.TheVariants as turns
use Rattle.hic_plain.specs.Machine.{Machine}
use Rattle.hic_plain.specs.Step.{step}
use Rattle.hic_task.specs.declared.task.Task.{Task as Kept}
use Rattle.hic_machine.specs.declared.ran.Ran.{Ran}
use Rattle.hic_machine.specs.declared.ran.Stop.{Stop}
use Rattle.hic_machine.specs.declared.ran.Stop.TheVariants as stops
use Rattle.hic_machine.specs.Held.{MachineFor}
use Rattle.hic_machine.specs.Steps.{step_looks}

-- the machine that is left, the number of steps, the bytes that they printed, and how the last one ended the run; where all
-- are made, the task goes on
pub record TaskRun : Type 0 where
  pub left : Machine
  pub made : ℕ
  pub out : List ℕ
  pub turn : Turn

-- a run after so many steps, which printed these bytes
abbrev pub ahead : ℕ → List ℕ → TaskRun → TaskRun
ahead n bytes r = record r { made = n + r.made; out = bytes ++ r.out }

-- what follows a step: the rest of the run where the task goes on, and else the end
abbrev pub after_step : Machine × Turn → (Machine → TaskRun) → TaskRun
after_step (new, turns.Went) rest = ahead 1 [] (rest new)
after_step (new, turns.Out bytes) rest = ahead 1 bytes (rest new)
after_step (new, turns.Halted) rest = record { left = new; made = 1; out = []; turn = turns.Halted }
after_step (new, turns.Trapped trap) rest = record { left = new; made = 1; out = []; turn = turns.Trapped trap }

-- n steps of task t at most
unfoldable pub run_task : Machine → ℕ → ℕ → TaskRun
run_task P t zero = record { left = P; made = 0; out = []; turn = turns.Went }
run_task P t (suc n) = after_step (step P t) (λ new. run_task new t n)

-- the most looks of these steps, where one call of `intern` takes `probe` at most
abbrev pub looks_after : Machine × Turn → (Machine → ℕ) → ℕ
looks_after (new, turns.Went) rest = rest new
looks_after (new, turns.Out bytes) rest = rest new
looks_after (new, turns.Halted) rest = 0
looks_after (new, turns.Trapped trap) rest = 0

unfoldable pub run_looks : ℕ → Machine → ℕ → ℕ → ℕ
run_looks probe P t zero = 0
run_looks probe P t (suc n) = step_looks probe P t + looks_after (step P t) (λ new. run_looks probe new t n)

-- ---- what a run tells

-- the turn of its last step, as far as it ends the run
abbrev pub turn_at : Stop → Turn
turn_at stops.Most = turns.Went
turn_at stops.Out = turns.Went
turn_at stops.Halted = turns.Halted
turn_at (stops.Trapped trap) = turns.Trapped trap

-- what its steps printed, where these bytes are lent
abbrev pub out_at : Stop → List ℕ → List ℕ
out_at stops.Most printed = []
out_at stops.Out printed = printed
out_at stops.Halted printed = printed
out_at (stops.Trapped trap) printed = []

-- how many steps a run has made of so many: all of them, unless some have printed or one ended it
abbrev pub MadeAt : Stop → (made most : ℕ) → List ℕ → Type 0
MadeAt stops.Most made most printed = made ≡ most
MadeAt stops.Out made most printed = made < most → 1 ≤ length printed
MadeAt stops.Halted made most printed = Unit {0}
MadeAt (stops.Trapped trap) made most printed = Unit {0}

pub record IsMadeOf (most : ℕ) (ran : Ran) (printed : List ℕ) : Type 0 where
  pub some : 1 ≤ most → 1 ≤ ran.made
  pub within : ran.made ≤ most
  pub at : MadeAt ran.stop ran.made most printed

-- what a run of one step tells of its turn, where these bytes are lent
abbrev pub TellsTurn : Turn → Stop → List ℕ → Type 0
TellsTurn turns.Went stop printed = stop ≡ stops.Most
TellsTurn (turns.Out bytes) stop printed = (stop ≡ stops.Out) × (printed ≡ bytes)
TellsTurn turns.Halted stop printed = (stop ≡ stops.Halted) × (printed ≡ [])
TellsTurn (turns.Trapped trap) stop printed = stop ≡ stops.Trapped trap

-- what is left stands for what the plain machine's run leaves, and the run told the rest
pub record RanFor (n : Memory) (code : List Instr) (segments : List Stored) (input : List ℕ) (tasks : List Kept) (P : Machine) (t : ℕ) (ran : Ran) (printed : List ℕ) : Type 0 where
  pub left : Machine
  pub stands : MachineFor n code segments input tasks left
  pub is : run_task P t ran.made ≡ record { left = left; made = ran.made; out = out_at ran.stop printed; turn = turn_at ran.stop }

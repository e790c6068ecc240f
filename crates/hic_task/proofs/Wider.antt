-- A row on the task alone, seen with what all tasks share.
use Rattle.std.proofs.Common.{◌≡◌, ℕ, List, Result, sym, ◌∙◌, ap, subst, arith}
use Rattle.std.specs.Prelude.{slice_set}
use Rattle.hic_isa.specs.declared.instr.Instr.{Instr}
use Rattle.hic_word.specs.Exchanges.{Reshapes}
use Rattle.hic_word.specs.Memory.{Memory}
use Rattle.hic_word.proofs.callers.Holds.{reshapes_behind}
use Rattle.line_mem.specs.Looks.{LooksUpTo}
use Rattle.segment_map.specs.Segments.{roots}
use Rattle.hic_plain.specs.declared.turn.Trap.{Trap}
use Rattle.hic_plain.specs.declared.turn.Turn.{Turn}
use Rattle.hic_plain.specs.Machine.{Machine, Task}
use Rattle.hic_task.specs.declared.done.Done.{Done}
use Rattle.hic_task.specs.declared.shared.Shared.{Shared}
use Rattle.hic_task.specs.declared.task.Task.{Task as Kept}
use Rattle.hic_task.specs.Acting.{Acted, ActedWith, Acts, ActsAlone, IsReady, IsReadyWith, SharedFor, turn_of}
use Rattle.hic_task.specs.Kept.{task_words}
use Rattle.hic_task.specs.Numbered.{ActsNumbered}
use Rattle.hic_task.proofs.StandsOn.{segments_after}
use Rattle.hic_task.proofs.Ready.{few_rest}

-- a task that is ready with what is shared is ready alone
pub ready_alone : {m : Memory} {shared : Shared} {k : Kept} → IsReadyWith m shared k → IsReady m k
ready_alone {shared = shared} {k = k} r = record {
  held = few_rest (roots shared.segments) (task_words k) r.held;
  machine = r.machine;
  number = r.number;
  task = r.task;
  can_act = r.can_act;
  next = r.next;
}

-- the row of the same instruction
pub acts_so : {m n : Memory} {before after : Shared} {old new : Kept} {number : ℕ} {i j : Instr} {result : Result Done Trap} → j ≡ i → Acts m n before after old new number i result → Acts m n before after old new number j result
acts_so {m = m} {n = n} {before = before} {after = after} {old = old} {new = new} {number = number} {result = result} e a = subst (λ j. Acts m n before after old new number j result) (sym e) a

-- what all share stands on
acted_with : {m n : Memory} {shared : Shared} {old new : Kept} {number : ℕ} {i : Instr} (turn : Turn) → IsReadyWith m shared old → Reshapes m n (task_words old) (task_words new) → (P : Machine) (T : Task) → SharedFor m shared P → Acted n new P number T i turn → ActedWith n shared new P number T i turn
acted_with {shared = shared} {new = new} {number = number} turn ready r P T s acted = record {
  left = acted.left;
  segments = P.segments;
  task_for = acted.task_for;
  segments_for = segments_after ready.held shared.segments P.segments new (reshapes_behind r (roots shared.segments)) s.segments_for;
  is = acted.is ∙ ap (λ (b : List ℕ). (record P { tasks = slice_set P.tasks number acted.left; input = b }, turn)) (sym s.input);
}

module _ {m n : Memory} {shared : Shared} {old new : Kept} {number : ℕ} {i j : Instr} {result : Result Done Trap} (ready : IsReadyWith m shared old) where
  pub alone_acts : j ≡ i → ActsAlone m n old new i result → Acts m n shared shared old new number j result
  alone_acts e a = acts_so e record {
    acts = λ P T can s. acted_with (turn_of result shared.printed) ready a.reshapes P T s (a.acts shared.printed P number T can);
    reshapes = reshapes_behind a.reshapes (roots shared.segments);
    trapped = a.trapped;
  }

  pub numbered_acts : j ≡ i → ActsNumbered m n old new number i result → Acts m n shared shared old new number j result
  numbered_acts e a = acts_so e record {
    acts = λ P T can s. acted_with (turn_of result shared.printed) ready a.reshapes P T s (a.acts shared.printed P T can);
    reshapes = reshapes_behind a.reshapes (roots shared.segments);
    trapped = a.trapped;
  }

-- no look is few
pub no_looks : (n : ℕ) {old new : ℕ} → new ≡ old → LooksUpTo n old new
no_looks n e = (omega (arith, e), omega (arith, e))

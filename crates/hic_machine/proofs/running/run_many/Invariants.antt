use Rattle.std.proofs.Common.{◌≡◌, ◌-◌, ◌<◌, ◌≤◌, List, length}
use Rattle.std.specs.Prelude.{slice_set}
use Rattle.hic_plain.specs.Machine.{Machine}
use Rattle.hic_task.specs.declared.task.Task.{Task as Kept}
use Rattle.hic_machine.specs.Steps.{IsKept}
use Rattle.hic_machine.proofs.TaskRunning.{Reached}
use Rattle.hic_machine.proofs.running.run_many.Given as goal

abbrev pub invariant-loop-left : goal.invariant-loop-left
invariant-loop-left g l = record {
  reached : (ks : List Kept) (P : Machine) → IsKept (g.S.HoldCounts.memory l.fn.mem) l.code l.fn.shared l.fn.one l.task ks P → Reached (g.S.HoldCounts.memory l.mem) l.code l.shared.segments l.shared.input (slice_set ks l.task (record l.one { pc = l.pc })) P l.task (l.most - l.left) l.printed (g.S.HoldCounts.memory l.fn.mem).layout.probe l.fn.steps l.steps;
  layout : (g.S.HoldCounts.memory l.mem).layout ≡ (g.S.HoldCounts.memory l.fn.mem).layout;
  few : l.left ≤ l.most;
  room : length l.printed ≤ 236;
  some : 1 ≤ length l.printed → l.left < l.most;
}

abbrev pub decreases-loop-left : goal.decreases-loop-left
decreases-loop-left g l = l.left

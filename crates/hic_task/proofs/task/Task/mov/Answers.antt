use Rattle.std.proofs.Common.{refl}
use Rattle.hic_word.proofs.callers.Holds.{exchanges_reshapes}
use Rattle.hic_plain.specs.Turns.{next, reg, with_reg}
use Rattle.hic_task.proofs.Rows.{went}
use Rattle.hic_task.proofs.task.Task.mov.Goals as goal

pub set-requires-clause-word : goal.set-requires-clause-word
set-requires-clause-word g c = let can = c.requires.can_act in (reg c.requires.task c.args.b, c.word-word.ensures (g.M.HoldCounts.memory c.args.mem.now) c.requires.machine c.requires.number c.requires.task can)

pub returns-clause-row : goal.returns-clause-row
returns-clause-row g c = went (exchanges_reshapes c.set.ensures.exchanges) (λ P t T can.
    (next (with_reg T c.args.a (reg T c.args.b)), c.set.ensures.task T (reg T c.args.b) can.task_for (c.word-word.ensures (g.M.HoldCounts.memory c.args.mem.now) P t T can), refl))

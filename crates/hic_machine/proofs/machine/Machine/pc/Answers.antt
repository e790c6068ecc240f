use Rattle.std.proofs.Common.{length, ◌∙◌, ap, arith}
use Rattle.std.specs.Prelude.{slice_get}
use Rattle.hic_plain.specs.Run.{pc_of}
use Rattle.hic_machine.specs.Seen.{Seen}
use Rattle.hic_machine.proofs.Reading.{as_many_tasks, same_pc}
use Rattle.hic_machine.proofs.machine.Machine.pc.Goals as goal

pub index-requires : goal.index-requires
index-requires g c =
    let many = as_many_tasks (g.S.HoldCounts.memory c.self.inside.mem) c.self.inside.tasks.items _ c.self.invariant.tasks_for ∙ ap (λ (s : Seen). length s.plain.tasks) c.self.view_is in
    let low = c.requires in
    grind (arith, many, low)

pub returns : goal.returns
returns g c =
    let many = as_many_tasks (g.S.HoldCounts.memory c.self.inside.mem) c.self.inside.tasks.items _ c.self.invariant.tasks_for ∙ ap (λ (s : Seen). length s.plain.tasks) c.self.view_is in
    let low = c.requires in
    same_pc (g.S.HoldCounts.memory c.self.inside.mem) c.self.inside.tasks.items _ c.args.task _ c.index.result.now c.self.invariant.tasks_for (omega (arith, many, low)) c.index.ensures ∙ ap (λ (s : Seen). pc_of (slice_get s.plain.tasks c.args.task)) c.self.view_is

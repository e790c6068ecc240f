use Rattle.std.proofs.Common.{ap, sym, subst, arith}
use Rattle.hic_plain.specs.Valid.{IsMachine}
use Rattle.hic_machine.specs.Held.{MachineFor, TasksFor}
use Rattle.hic_machine.specs.Seen.{Seen}
use Rattle.hic_machine.proofs.Reading.{as_many_tasks}
use Rattle.hic_machine.proofs.machine.Machine.running.Goals as goal

pub running-requires : goal.running-requires
running-requires g c =
    let many = as_many_tasks (g.S.HoldCounts.memory c.self.inside.mem) c.self.inside.tasks.items _ c.self.invariant.tasks_for in
    let few = c.self.invariant.valid.task_count in
    omega (arith, many, few)

pub returns-clause-tasks : goal.returns-clause-tasks
returns-clause-tasks g c =
    let m = g.S.HoldCounts.memory c.self.inside.mem in
    let P = c.args.self.now.plain in
    let d = subst (MachineFor m c.self.inside.code.items c.self.inside.shared.segments c.self.inside.shared.input c.self.inside.tasks.items) (ap (λ (s : Seen). s.plain) c.self.view_is) c.self.invariant in
    c.running.ensures m P.tasks (subst (λ ks. TasksFor m ks P.tasks) (sym c.deref.ensures.value) d.tasks_for)

pub returns-clause-machine : goal.returns-clause-machine
returns-clause-machine g c = subst (λ (s : Seen). IsMachine s.plain) c.self.view_is c.self.invariant.valid

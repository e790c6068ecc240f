use Rattle.std.proofs.Common.{sym, ◌∙◌, ap, subst, arith}
use Rattle.std.specs.Prelude.{slice_set}
use Rattle.hic_word.specs.Memory.{Memory}
use Rattle.line_mem.specs.Looks.{LooksUpTo}
use Rattle.hic_plain.specs.Machine.{Machine}
use Rattle.hic_machine.specs.Held.{MachineFor}
use Rattle.hic_machine.specs.Seen.{Seen, the_machine_is}
use Rattle.hic_machine.specs.TaskRuns.{out_at, run_looks, turn_at}
use Rattle.hic_machine.proofs.Keeping.{kept_here, ran_with}
use Rattle.hic_machine.proofs.Stepping.{task_below}
use Rattle.hic_machine.proofs.machine.Machine.run.Goals as goal

pub index_mut-requires : goal.index_mut-requires
index_mut-requires g c =
    let d = subst (MachineFor (g.S.HoldCounts.memory c.self.inside.mem) c.self.inside.code.items c.self.inside.shared.segments c.self.inside.shared.input c.self.inside.tasks.items) (ap (λ (x : Seen). x.plain) c.self.view_is) c.self.invariant in
    let low = task_below (g.S.HoldCounts.memory c.self.inside.mem) c.self.inside.tasks.items c.args.self.now.plain.tasks c.args.task c.requires.task d.tasks_for c.requires.there in
    grind (arith, low)

pub run-requires : goal.run-requires
run-requires g c =
    let d = subst (MachineFor (g.S.HoldCounts.memory c.self.inside.mem) c.self.inside.code.items c.self.inside.shared.segments c.self.inside.shared.input c.self.inside.tasks.items) (ap (λ (x : Seen). x.plain) c.self.view_is) c.self.invariant in
    let h = kept_here c.deref.result.now c.deref.ensures.value c.index_mut.result.now c.args.task c.index_mut.ensures.value d c.requires in
    (c.self.inside.tasks.items, c.args.self.now.plain, h)

-- what is left stands for the plain machine after the run
pub invariant_of-self-inside : goal.invariant_of-self-inside
invariant_of-self-inside g c =
    let d = subst (MachineFor (g.S.HoldCounts.memory c.self.inside.mem) c.self.inside.code.items c.self.inside.shared.segments c.self.inside.shared.input c.self.inside.tasks.items) (ap (λ (x : Seen). x.plain) c.self.view_is) c.self.invariant in
    let h = kept_here c.deref.result.now c.deref.ensures.value c.index_mut.result.now c.args.task c.index_mut.ensures.value d c.requires in
    let after = ran_with c.deref.ensures.value (c.run.ensures.run c.self.inside.tasks.items c.args.self.now.plain h) in
    (∣ (after.left, after.stands) ∣₁, tt)

pub invariant_of-self : goal.invariant_of-self
invariant_of-self g c =
    let d = subst (MachineFor (g.S.HoldCounts.memory c.self.inside.mem) c.self.inside.code.items c.self.inside.shared.segments c.self.inside.shared.input c.self.inside.tasks.items) (ap (λ (x : Seen). x.plain) c.self.view_is) c.self.invariant in
    let h = kept_here c.deref.result.now c.deref.ensures.value c.index_mut.result.now c.args.task c.index_mut.ensures.value d c.requires in
    let after = ran_with c.deref.ensures.value (c.run.ensures.run c.self.inside.tasks.items c.args.self.now.plain h) in
    subst (MachineFor (g.S.HoldCounts.memory c.run.new.mem) c.self.inside.code.items c.run.new.shared.segments c.run.new.shared.input (slice_set c.self.inside.tasks.items c.args.task c.run.new.one)) (sym (the_machine_is (g.S.HoldCounts.memory c.run.new.mem) c.self.inside.code.items c.run.new.shared.segments c.run.new.shared.input (slice_set c.self.inside.tasks.items c.args.task c.run.new.one) _ after.left after.stands)) after.stands

pub returns-clause-run : goal.returns-clause-run
returns-clause-run g c =
    let d = subst (MachineFor (g.S.HoldCounts.memory c.self.inside.mem) c.self.inside.code.items c.self.inside.shared.segments c.self.inside.shared.input c.self.inside.tasks.items) (ap (λ (x : Seen). x.plain) c.self.view_is) c.self.invariant in
    let h = kept_here c.deref.result.now c.deref.ensures.value c.index_mut.result.now c.args.task c.index_mut.ensures.value d c.requires in
    let after = ran_with c.deref.ensures.value (c.run.ensures.run c.self.inside.tasks.items c.args.self.now.plain h) in
    after.is ∙ ap (λ (P : Machine). record { left = P; made = c.run.result.made; out = out_at c.run.result.stop c.run.new.printed; turn = turn_at c.run.result.stop }) (sym (the_machine_is (g.S.HoldCounts.memory c.run.new.mem) c.self.inside.code.items c.run.new.shared.segments c.run.new.shared.input (slice_set c.self.inside.tasks.items c.args.task c.run.new.one) _ after.left after.stands))

pub returns-clause-looks : goal.returns-clause-looks
returns-clause-looks g c =
    let d = subst (MachineFor (g.S.HoldCounts.memory c.self.inside.mem) c.self.inside.code.items c.self.inside.shared.segments c.self.inside.shared.input c.self.inside.tasks.items) (ap (λ (x : Seen). x.plain) c.self.view_is) c.self.invariant in
    let h = kept_here c.deref.result.now c.deref.ensures.value c.index_mut.result.now c.args.task c.index_mut.ensures.value d c.requires in
    subst (λ (mem : Memory). LooksUpTo (run_looks mem.layout.probe c.args.self.now.plain c.args.task c.args.most) c.args.steps.now c.run.new.steps) (ap (λ (x : Seen). x.memory) c.self.view_is) (c.run.ensures.looks c.self.inside.tasks.items c.args.self.now.plain h)

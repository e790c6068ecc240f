use Rattle.std.proofs.Common.{◌∙◌, sym}
use Rattle.task_sched.specs.declared.item.Item.{Item}
use Rattle.task_sched.specs.Pick.{tasks_in}
use Rattle.task_sched.proofs.Entries.{from_running-pass, from_running-stay}
use Rattle.task_sched.proofs.Tasks.{any-tasks_in}
use Rattle.task_sched.proofs.schedule.skip_ended.Goals as goal

pub loop-place-preserved : goal.loop-place-preserved
loop-place-preserved c =
    let none : Item = record { task = 0; count = 0 } in
    let left = c.requires c.loop-place.place none c.loop-place-test.true in
    from_running-pass (tasks_in c.args.running) c.args.items.now c.loop-place.place none c.loop-place-test.true
    (any-tasks_in c.args.running _ left.0 ∙ sym c.runs.ensures ∙ c.if-not-runs.true)
    ∙ c.loop-place.invariant

pub returns-else-not-runs : goal.returns-else-not-runs
returns-else-not-runs c =
    let none : Item = record { task = 0; count = 0 } in
    let left = c.requires c.loop-place.place none c.loop-place-test.true in
    from_running-stay (tasks_in c.args.running) c.args.items.now c.loop-place.place none c.loop-place-test.true left.1
    (any-tasks_in c.args.running _ left.0 ∙ sym c.runs.ensures ∙ c.if-not-runs.false)
    ∙ c.loop-place.invariant

use Rattle.std.proofs.Common.{◌∙◌, sym, ap, drop, min, Some, arith}
use Rattle.std.proofs.lemmas.Bool.{eqb-true}
use Rattle.std.proofs.lemmas.List.{with_items_is}
use Rattle.task_sched.specs.InRow.{from_running, front_count, left_in_row}
use Rattle.task_sched.specs.Items.{entries_from}
use Rattle.task_sched.specs.Limits.{most_count}
use Rattle.task_sched.specs.Pick.{tasks_in}
use Rattle.task_sched.proofs.Entries.{entries_from-none}
use Rattle.task_sched.proofs.RowLaws.{counted-in_row, counted-runs, in_row-turn}
use Rattle.task_sched.proofs.Tasks.{any-tasks_in}
use Rattle.task_sched.proofs.schedule.Schedule.row.Goals as goal

pub returns-then-self-len-clause-in_row : goal.returns-then-self-len-clause-in_row
returns-then-self-len-clause-in_row c =
    let tasks = tasks_in c.args.running in
    let join = c.join_items-row.ensures in
    let same = ap (entries_from c.skip_ended.new.place) (c.deref_mut.ensures.value ∙ sym c.deref.ensures.value) in
    let skipped = join.entries ∙ same ∙ c.skip_ended.ensures
    ∙ ap (λ items. from_running tasks (entries_from c.self.inside.place items)) c.deref.ensures.value in
    let counts = join.count ∙ ap (λ es. min most_count (front_count c.join_items-row.result.task es)) (sym join.entries) in
    let kept = with_items_is c.self.inside.items c.join_items-row.new.items (c.join_items-row.auto.items ∙ c.deref_mut.ensures.len) in
    λ made some fits.
    ap (left_in_row tasks c.join_items-row.result.task made) (sym c.self.view_is)
    ∙ counted-in_row tasks c.join_items-row.result.task c.join_items-row.result.count made _ _ c.self.inside.last skipped counts some fits
    ∙ ap (λ items. Some (record { entries = drop made (entries_from c.join_items-row.new.place items); last = Some c.join_items-row.result.task })) (sym kept)

pub returns-then-self-len-clause-runs : goal.returns-then-self-len-clause-runs
returns-then-self-len-clause-runs c =
    let tasks = tasks_in c.args.running in
    let join = c.join_items-row.ensures in
    let same = ap (entries_from c.skip_ended.new.place) (c.deref_mut.ensures.value ∙ sym c.deref.ensures.value) in
    let skipped = same ∙ c.skip_ended.ensures in
    eqb-true _ 1 (sym (any-tasks_in c.args.running c.join_items-row.result.task join.below) ∙ counted-runs tasks c.join_items-row.result.task c.join_items-row.result.count _ _ skipped join.count join.some)

pub returns-else-self-len-clause-in_row : goal.returns-else-self-len-clause-in_row
returns-else-self-len-clause-in_row c =
    let tasks = tasks_in c.args.running in
    let row = c.row_in_turn-row in
    let skipped = ap (entries_from c.skip_ended.new.place) (sym c.deref.ensures.value) ∙ c.skip_ended.ensures
    ∙ ap (λ items. from_running tasks (entries_from c.self.inside.place items)) c.deref.ensures.value in
    let none = entries_from-none c.self.inside.items.items c.skip_ended.new.place (omega (arith, c.if-self-len.false, c.len.ensures, c.self.inside.items.ok.0)) in
    λ made some fits.
    ap (left_in_row tasks row.result.task made) (sym c.self.view_is)
    ∙ in_row-turn tasks row.result.task made _ _ c.self.inside.last skipped none row.ensures.turn some (omega (arith, row.ensures.count))

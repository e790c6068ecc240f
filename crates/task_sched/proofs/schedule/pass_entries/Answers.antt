use Rattle.std.proofs.Common.{◌+◌, ◌-◌, ◌∙◌, ap, sym, drop, get_or, arith}
use Rattle.std.proofs.lemmas.List.{set-get_or}
use Rattle.task_sched.specs.declared.item.Item.{Item}
use Rattle.task_sched.specs.Items.{entries_from}
use Rattle.task_sched.proofs.Entries.{entries_from-item, entries_from-set, drop-within, drop-past}
use Rattle.task_sched.proofs.schedule.pass_entries.Goals as goal

pub returns-then-count-item-clause-passed : goal.returns-then-count-item-clause-passed
returns-then-count-item-clause-passed c =
    let none : Item = record { task = 0; count = 0 } in
    let item = get_or c.loop-place.items c.loop-place.place none in
    entries_from-set c.loop-place.items c.loop-place.place item.task (item.count - c.loop-place.count) c.loop-place-test.true
    ∙ drop-within item.count c.loop-place.count item.task _ (omega (arith, c.if-count-item.true))
    ∙ ap (drop c.loop-place.count) (sym (entries_from-item c.loop-place.items c.loop-place.place none c.loop-place-test.true))
    ∙ c.loop-place.invariant.passed

pub loop-place-preserved : goal.loop-place-preserved
loop-place-preserved c =
    let none : Item = record { task = 0; count = 0 } in
    let item = get_or c.loop-place.items c.loop-place.place none in
    let same = set-get_or c.loop-place.items c.loop-place.place none in
    record {
      items = same ∙ c.loop-place.invariant.items;
      passed =
          ap (λ items. drop (c.loop-place.count - item.count) (entries_from (c.loop-place.place + 1) items)) same
          ∙ drop-past item.count c.loop-place.count item.task _ c.if-count-item.false
          ∙ ap (drop c.loop-place.count) (sym (entries_from-item c.loop-place.items c.loop-place.place none c.loop-place-test.true))
          ∙ c.loop-place.invariant.passed;
    }

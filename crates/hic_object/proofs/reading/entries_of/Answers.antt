use Rattle.std.proofs.Common.{◌∷◌, [], arith, length-append}
use Rattle.std.proofs.lemmas.Result.{err_from_is_err_and}
use Rattle.hic_object.specs.Reading.{items_at, entry_at}
use Rattle.hic_object.proofs.Loop.{goes_on, ends, is_done}
use Rattle.hic_object.proofs.reading.entries_of.Goals as goal

pub returns-in_err-entry : goal.returns-in_err-entry
returns-in_err-entry c =
    let p = err_from_is_err_and c.from_residual-in_err-entry.result c.from_residual-in_err-entry.ensures.1 in
    rw (p.1, p.2) (ends (entry_at c.args.code) c.in_err-entry.field-0.0 c.args.count c.loop-task.task c.loop-task.entries.items c.loop-task.rest.now (items_at (entry_at c.args.code) c.args.count [] c.args.bytes.now) c.loop-task-test.true (c.in_err-entry.ensures c.loop-task.entries.items c.loop-task.invariant.len) c.loop-task.invariant.read)

pub loop-task-preserved : goal.loop-task-preserved
loop-task-preserved c =
    let items = c.in_ok-push.ensures.items in
    record {
      read = rw items (goes_on (entry_at c.args.code) c.args.count c.loop-task.task c.loop-task.entries.items c.loop-task.rest.now c.in_ok-entry.entry c.in_ok-entry.after.now (items_at (entry_at c.args.code) c.args.count [] c.args.bytes.now) c.loop-task-test.true (c.in_ok-entry.ensures c.loop-task.entries.items c.loop-task.invariant.len) c.loop-task.invariant.read);
      len = rw items (omega (arith, length-append c.loop-task.entries.items (c.in_ok-entry.entry ∷ []), c.loop-task.invariant.len));
    }

pub returns : goal.returns
returns c = is_done (entry_at c.args.code) c.args.count c.loop-task.task c.loop-task.entries.items c.loop-task.rest.now (items_at (entry_at c.args.code) c.args.count [] c.args.bytes.now) c.loop-task-test.false c.loop-task.invariant.read

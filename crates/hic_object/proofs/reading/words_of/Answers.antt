use Rattle.std.proofs.Common.{◌∷◌, [], arith, length-append}
use Rattle.std.proofs.lemmas.Result.{err_from_is_err_and}
use Rattle.hic_object.specs.Reading.{items_at, data_at}
use Rattle.hic_object.proofs.Loop.{goes_on, ends, is_done}
use Rattle.hic_object.proofs.reading.words_of.Goals as goal

pub returns-in_err-record : goal.returns-in_err-record
returns-in_err-record c =
    let p = err_from_is_err_and c.from_residual-in_err-record.result c.from_residual-in_err-record.ensures.1 in
    rw (p.1, p.2) (ends (data_at c.args.segments) c.in_err-record.field-0.0 c.args.count c.loop-index.index c.loop-index.words.items c.loop-index.rest.now (items_at (data_at c.args.segments) c.args.count [] c.args.bytes.now) c.loop-index-test.true (rw (← c.deref.ensures.value) c.in_err-record.ensures) c.loop-index.invariant.read)

pub loop-index-preserved : goal.loop-index-preserved
loop-index-preserved c =
    let items = c.in_ok-push.ensures.items in
    record {
      read = rw items (goes_on (data_at c.args.segments) c.args.count c.loop-index.index c.loop-index.words.items c.loop-index.rest.now c.in_ok-record.record c.in_ok-record.after.now (items_at (data_at c.args.segments) c.args.count [] c.args.bytes.now) c.loop-index-test.true (rw (← c.deref.ensures.value) c.in_ok-record.ensures) c.loop-index.invariant.read);
      len = rw items (omega (arith, length-append c.loop-index.words.items (c.in_ok-record.record ∷ []), c.loop-index.invariant.len));
    }

pub returns : goal.returns
returns c = is_done (data_at c.args.segments) c.args.count c.loop-index.index c.loop-index.words.items c.loop-index.rest.now (items_at (data_at c.args.segments) c.args.count [] c.args.bytes.now) c.loop-index-test.false c.loop-index.invariant.read

use Rattle.std.proofs.Common.{◌∷◌, [], arith, length-append}
use Rattle.std.proofs.lemmas.Result.{err_from_is_err_and}
use Rattle.hic_object.specs.Reading.{items_at, kind_at}
use Rattle.hic_object.proofs.Loop.{goes_on, ends, is_done}
use Rattle.hic_object.proofs.reading.kinds_of.Goals as goal

pub returns-in_err-kind : goal.returns-in_err-kind
returns-in_err-kind c =
    let p = err_from_is_err_and c.from_residual-in_err-kind.result c.from_residual-in_err-kind.ensures.1 in
    rw (p.1, p.2) (ends kind_at c.in_err-kind.field-0.0 c.args.count c.loop-segment.segment c.loop-segment.kinds.items c.loop-segment.rest.now (items_at kind_at c.args.count [] c.args.bytes.now) c.loop-segment-test.true (c.in_err-kind.ensures c.loop-segment.kinds.items c.loop-segment.invariant.len) c.loop-segment.invariant.read)

pub loop-segment-preserved : goal.loop-segment-preserved
loop-segment-preserved c =
    let items = c.in_ok-push.ensures.items in
    record {
      read = rw items (goes_on kind_at c.args.count c.loop-segment.segment c.loop-segment.kinds.items c.loop-segment.rest.now c.in_ok-kind.kind c.in_ok-kind.after.now (items_at kind_at c.args.count [] c.args.bytes.now) c.loop-segment-test.true (c.in_ok-kind.ensures c.loop-segment.kinds.items c.loop-segment.invariant.len) c.loop-segment.invariant.read);
      len = rw items (omega (arith, length-append c.loop-segment.kinds.items (c.in_ok-kind.kind ∷ []), c.loop-segment.invariant.len));
    }

pub returns : goal.returns
returns c = is_done kind_at c.args.count c.loop-segment.segment c.loop-segment.kinds.items c.loop-segment.rest.now (items_at kind_at c.args.count [] c.args.bytes.now) c.loop-segment-test.false c.loop-segment.invariant.read

use Rattle.std.proofs.Common.{◌∷◌, [], drop, arith, length-append}
use Rattle.std.proofs.lemmas.Result.{err_from_is_err_and}
use Rattle.hic_object.specs.Reading.{items_at, instruction_at}
use Rattle.hic_object.proofs.Loop.{goes_on, ends, is_done}
use Rattle.hic_object.proofs.reading.code_of.Goals as goal

pub returns-in_err-instr : goal.returns-in_err-instr
returns-in_err-instr c =
    let p = err_from_is_err_and c.from_residual-in_err-instr.result c.from_residual-in_err-instr.ensures.1 in
    rw (p.1, p.2) (ends instruction_at c.in_err-instr.field-0.0 c.args.count c.loop-index.index c.loop-index.code.items c.loop-index.rest.now (items_at instruction_at c.args.count [] c.args.bytes.now) c.loop-index-test.true (c.in_err-instr.ensures.read c.loop-index.code.items c.loop-index.invariant.len) c.loop-index.invariant.read)

pub loop-index-preserved : goal.loop-index-preserved
loop-index-preserved c =
    let items = c.in_ok-push.ensures.items in
    record {
      read = rw (items, c.split_at.ensures.back) (goes_on instruction_at c.args.count c.loop-index.index c.loop-index.code.items c.loop-index.rest.now c.in_ok-instr.instr (drop 8 c.loop-index.rest.now) (items_at instruction_at c.args.count [] c.args.bytes.now) c.loop-index-test.true (c.in_ok-instr.ensures.read c.loop-index.code.items c.loop-index.invariant.len) c.loop-index.invariant.read);
      len = rw items (omega (arith, length-append c.loop-index.code.items (c.in_ok-instr.instr ∷ []), c.loop-index.invariant.len));
    }

pub returns : goal.returns
returns c = is_done instruction_at c.args.count c.loop-index.index c.loop-index.code.items c.loop-index.rest.now (items_at instruction_at c.args.count [] c.args.bytes.now) c.loop-index-test.false c.loop-index.invariant.read

use Rattle.std.proofs.Common.{◌∙◌, arith, replicate}
use Rattle.std.proofs.lemmas.List.{length-replicate, length-set}
use Rattle.seg_canon.proofs.Packing.{all_unpacked, none_unpacked, one_unpacked}
use Rattle.seg_canon.proofs.packed.unpack.Goals as goal

pub loop-place-init : goal.loop-place-init
loop-place-init g c = record { long = length-replicate g.row.W c.num-words.result; done = none_unpacked g.row.W c.args.entry.bits (replicate g.row.W c.num-words.result) }

pub loop-place-preserved : goal.loop-place-preserved
loop-place-preserved g c =
    let long = c.loop-place.invariant.long in
    record {
      long = length-set c.loop-place.words c.loop-place.place c.number_at.result ∙ long;
      done = one_unpacked c.args.entry.bits c.loop-place.place c.loop-place.words c.number_at.result (omega (arith, long)) c.loop-place-test.true c.loop-place.invariant.done c.number_at.ensures;
    }

pub returns : goal.returns
returns g c = all_unpacked c.args.entry.bits c.loop-place.place c.loop-place.words c.loop-place.invariant.long c.loop-place-test.false c.loop-place.invariant.done

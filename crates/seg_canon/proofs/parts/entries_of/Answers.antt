use Rattle.std.proofs.Common.{refl, ◌∙◌, arith}
use Rattle.std.proofs.lemmas.List.{length-replicate, length-set}
use Rattle.seg_canon.specs.declared.parts.Part.{Part}
use Rattle.seg_canon.proofs.Quarters.{all_made, one_made}
use Rattle.seg_canon.proofs.parts.entries_of.Goals as goal

pub loop-place-init : goal.loop-place-init
loop-place-init g c = record { long = length-replicate g.row.W c.num-entries.result; done = refl }

pub loop-place-preserved : goal.loop-place-preserved
loop-place-preserved g c =
    let long = c.loop-place.invariant.long in
    record {
      long = length-set c.loop-place.entries c.loop-place.place _ ∙ long;
      done = one_made (λ (part : Part). part.entry) c.args.parts.now c.loop-place.entries c.loop-place.place _ _ (omega arith) (omega (arith, long)) c.loop-place.invariant.done refl;
    }

pub returns : goal.returns
returns g c =
    let long = c.loop-place.invariant.long in
    all_made (λ (part : Part). part.entry) c.args.parts.now c.loop-place.entries c.loop-place.place (omega arith) (omega (arith, long)) c.loop-place.invariant.done

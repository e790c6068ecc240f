use Rattle.std.proofs.Common.{◌∷◌, ◌++◌, [], ◌∙◌, ap}
use Rattle.hic_machine.proofs.Starting.{one_more}
use Rattle.hic_machine.proofs.opening.kinds_of.Goals as goal

pub loop-segment-preserved : goal.loop-segment-preserved
loop-segment-preserved c = record {
  kinds = c.in_ok-push.ensures.items ∙ ap (λ ks. ks ++ c.kind.result ∷ []) c.loop-segment.invariant.kinds ∙ one_more c.args.object.now.kinds c.loop-segment.segment c.kind.result c.kind.ensures;
  count = c.loop-segment.invariant.count;
}

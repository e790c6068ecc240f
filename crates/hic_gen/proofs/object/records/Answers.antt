use Rattle.std.proofs.Common.{◌-◌, ◌+◌, ◌++◌, ◌∷◌, [], ap, ◌∙◌}
use Rattle.hic_gen.specs.Draws.{draws, drawn}
use Rattle.hic_gen.specs.Demo.{record_of, records}
use Rattle.hic_gen.proofs.DemoLaws.{records-next, records-end}
use Rattle.hic_gen.proofs.object.records.Goals as goal

pub loop-k-preserved : goal.loop-k-preserved
loop-k-preserved c =
    let size = c.args.size in
    let k = c.loop-k.k in
    let words = c.loop-k.words.items in
    let pushed = c.in_ok-push.ensures.items ∙ ap (λ word. words ++ word ∷ []) (c.record_of.ensures ∙ ap (record_of k) c.draw.ensures.drawn) in
    ap (λ ws. ws ++ records (k + 1) (draws (size - (k + 1)) c.draw.new.self.state)) pushed
    ∙ ap (λ state. (words ++ record_of k (drawn c.loop-k.generator.state) ∷ []) ++ records (k + 1) (draws (size - (k + 1)) state)) c.draw.ensures.state
    ∙ records-next size k c.loop-k.generator.state c.args.seed words _ c.loop-k-test.true c.loop-k.invariant

pub returns : goal.returns
returns c = records-end c.args.size c.loop-k.k c.loop-k.generator.state c.loop-k.words.items _ c.loop-k-test.false c.loop-k.invariant

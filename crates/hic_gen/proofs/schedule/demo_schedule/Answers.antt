use Rattle.std.proofs.Common.{◌-◌, ◌+◌, ◌++◌, flat_map, ap, ◌∙◌}
use Rattle.hic_gen.specs.Draws.{draws, drawn}
use Rattle.hic_gen.specs.Demo.{item_line}
use Rattle.hic_gen.proofs.DemoLaws.{items-next, items-end}
use Rattle.hic_gen.proofs.schedule.demo_schedule.Goals as goal

pub loop-item-preserved : goal.loop-item-preserved
loop-item-preserved c =
    let size = c.args.size in
    let k = c.loop-item._item in
    let text = c.loop-item.text.items in
    let put = c.in_ok-put_item.ensures ∙ ap (λ d. text ++ item_line d) c.draw.ensures.drawn in
    ap (λ t. t ++ flat_map item_line (draws (size - (k + 1)) c.draw.new.self.state)) put
    ∙ ap (λ state. (text ++ item_line (drawn c.loop-item.generator.state)) ++ flat_map item_line (draws (size - (k + 1)) state)) c.draw.ensures.state
    ∙ items-next size k c.loop-item.generator.state text _ c.loop-item-test.true c.loop-item.invariant

pub returns : goal.returns
returns c = items-end c.args.size c.loop-item._item c.loop-item.generator.state c.loop-item.text.items _ c.loop-item-test.false c.loop-item.invariant

use Rattle.std.proofs.Common.{◌∙◌}
use Rattle.hic_gen.proofs.DemoLaws.{parts-rules}
use Rattle.hic_gen.proofs.object.demo_object.Goals as goal

pub unwrap-requires : goal.unwrap-requires
unwrap-requires c =
    c.make.ensures.rules.1 (parts-rules c.args.seed c.args.size _ _ _ _ c.requires.most c.in_ok-entries.ensures.items c.in_ok-kinds.ensures.items c.in_ok-words.ensures (c.in_ok-code.ensures.items ∙ c.code.ensures))

use Rattle.std.proofs.Common.{◌∙◌}
use Rattle.text_lines.specs.Pieces.{pieces}
use Rattle.hic_asm.specs.Seen.{seen_of, built_of}
use Rattle.hic_asm.proofs.Rules.{keeps_rules}
use Rattle.hic_asm.proofs.source.assemble.Goals as goal

pub make_object-requires : goal.make_object-requires
make_object-requires c =
    let seen = seen_of c.in_ok-first.first.seen in
    keeps_rules (pieces c.args.text.now) seen (built_of c.in_ok-program.program) c.in_ok-first.ensures.seen (c.in_ok-first.ensures.waiting seen ∙ c.in_ok-program.ensures)

use Rattle.std.proofs.Common.{rules, tests, ◌==◌, option_map, ap, ◌∙◌}
use Rattle.std.proofs.lemmas.Iterator.{YieldsList-from_slice}
use Rattle.std.proofs.lemmas.Iterator.Search.{find_from_yields_List}
use Rattle.hic_asm.specs.Table.{form_of}
use Rattle.hic_asm.proofs.Finding.{find-map, option_map-now}
use Rattle.hic_asm.proofs.table.with_opcode.Goals as goal

pub returns : goal.returns
returns c =
    let found = find_from_yields_List (λ form. form.1 == c.args.opcode) _ _ c.find.result c.find.ensures.ran (YieldsList-from_slice c.args.table.now cc) (λ x b q k. search (rules, tests)) in
    option_map-now form_of c.find.result ∙ ap (option_map form_of) found ∙ find-map form_of (λ form. form.opcode == c.args.opcode) c.args.table.now

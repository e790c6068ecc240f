use Rattle.std.proofs.Common.{rules, tests, not, length, unwrap_or, ap, ◌∙◌}
use Rattle.std.proofs.lemmas.Iterator.{YieldsList-from_slice}
use Rattle.std.proofs.lemmas.Iterator.Search.{position_from_yields_List}
use Rattle.hic_asm.specs.Text.{is_plain}
use Rattle.hic_asm.proofs.WordLaws.{first_or_end}
use Rattle.hic_asm.proofs.words.plain_len.Goals as goal

pub returns-clause-len : goal.returns-clause-len
returns-clause-len c =
    let found = position_from_yields_List (λ byte. not (is_plain byte)) _ _ c.position.result c.position.ensures.ran (YieldsList-from_slice c.args.line.now cc) (λ x b q k. search (rules, tests)) in
    c.unwrap_or.ensures ∙ ap (λ o. unwrap_or o (length c.args.line.now)) found ∙ first_or_end (λ byte. not (is_plain byte)) c.args.line.now

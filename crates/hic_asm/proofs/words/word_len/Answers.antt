use Rattle.std.proofs.Common.{rules, tests, length, unwrap_or, ap, ◌∙◌}
use Rattle.std.proofs.lemmas.Iterator.{YieldsList-from_slice}
use Rattle.std.proofs.lemmas.Iterator.Search.{position_from_yields_List}
use Rattle.hic_asm.specs.Words.{is_blank}
use Rattle.hic_asm.proofs.WordLaws.{first_or_end}
use Rattle.hic_asm.proofs.words.word_len.Goals as goal

pub returns-clause-len : goal.returns-clause-len
returns-clause-len c =
    let found = position_from_yields_List is_blank _ _ c.position.result c.position.ensures.ran (YieldsList-from_slice c.args.text.now cc) (λ x b q k. search (rules, tests)) in
    c.unwrap_or.ensures ∙ ap (λ o. unwrap_or o (length c.args.text.now)) found ∙ first_or_end is_blank c.args.text.now

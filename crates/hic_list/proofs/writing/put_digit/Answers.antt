use Rattle.std.proofs.Common.{◌++◌, ◌∙◌, sym, ap}
use Rattle.std.proofs.lemmas.Fmt.{decimal_digit}
use Rattle.hic_list.proofs.writing.put_digit.Goals as goal

pub returns-clause-items : goal.returns-clause-items
returns-clause-items c = c.push.ensures.items ∙ ap (λ digit. c.args.line.now.items ++ digit) (sym (decimal_digit c.args.digit c.requires.digit))

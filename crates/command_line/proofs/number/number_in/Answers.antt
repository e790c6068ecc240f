use Rattle.std.proofs.Common.{◌∙◌, sym}
use Rattle.command_line.proofs.Numerals.{number_in-refused}
use Rattle.command_line.proofs.number.number_in.Goals as goal

pub returns-in_default-clause-value : goal.returns-in_default-clause-value
returns-in_default-clause-value c =
    sym (number_in-refused c.args.least c.args.most c.args.text.now c.in_default.field-0 c.ranges.most.fits (sym c.is_numeral.ensures ∙ c.if-not-is_numeral.false) c.in_default.ensures.value.0)

use Rattle.std.proofs.Common.{[], ◌∷◌, ◌+◌, ◌∙◌, ap}
use Rattle.hic_word.specs.Values.{Number}
use Rattle.seg_read.specs.Rows.{five_line}
use Rattle.form_rows.proofs.reads.read_five.Goals as goal

pub returns : goal.returns
returns g c = c.read.ensures.looks ((5, Number 70000) ∷ []) c.requires ∙ ap (λ n. c.args.steps.now + n) five_line

use Rattle.hic_object.proofs.Whole.{cut_short, longer}
use Rattle.hic_object.proofs.laws.one_length.Goals as goal

pub returns : goal.returns
returns c = record { cut = cut_short; longer = longer }

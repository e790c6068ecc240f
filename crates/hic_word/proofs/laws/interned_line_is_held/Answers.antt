use Rattle.hic_word.proofs.Interning.{interned_line_is_held}
use Rattle.hic_word.proofs.laws.interned_line_is_held.Goals as goal

pub returns : goal.returns
returns c = interned_line_is_held

use Rattle.hic_word.proofs.Raised.{paths_are_places}
use Rattle.hic_word.proofs.laws.paths_are_places.Goals as goal

pub returns : goal.returns
returns c = paths_are_places

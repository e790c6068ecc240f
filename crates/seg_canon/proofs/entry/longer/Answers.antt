use Rattle.seg_canon.proofs.Folding.{longer_entry}
use Rattle.seg_canon.proofs.entry.longer.Goals as goal

pub returns-clause-stands : goal.returns-clause-stands
returns-clause-stands g c = λ m L p f low short. longer_entry c.requires.wide c.args.place _ f low short (rw (← c.id_of.ensures, ← c.path_of.ensures, ← c.length_of.ensures) c.node.ensures)

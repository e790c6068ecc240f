use Rattle.seg_read.proofs.skipping.«+next_in».Given as goal

abbrev pub decreases-next_in : goal.decreases-next_in
decreases-next_in g l = l.height

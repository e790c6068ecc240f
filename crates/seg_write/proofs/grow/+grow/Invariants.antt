use Rattle.seg_write.proofs.grow.«+grow».Given as goal

abbrev pub decreases-grow : goal.decreases-grow
decreases-grow g l = l.part.top

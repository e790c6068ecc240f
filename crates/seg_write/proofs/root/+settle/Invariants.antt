use Rattle.seg_write.proofs.root.«+settle».Given as goal

abbrev pub decreases-settle : goal.decreases-settle
decreases-settle l = l.part.top

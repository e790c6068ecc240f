use Rattle.seg_write.proofs.lift.«+lengthened».Given as goal

abbrev pub decreases-lengthened : goal.decreases-lengthened
decreases-lengthened l = l.levels

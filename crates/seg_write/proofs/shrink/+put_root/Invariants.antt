use Rattle.seg_write.proofs.shrink.«+put_root».Given as goal

abbrev pub decreases-put_root : goal.decreases-put_root
decreases-put_root g l = l.top

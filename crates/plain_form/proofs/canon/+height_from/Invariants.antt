use Rattle.plain_form.proofs.canon.«+height_from».Given as goal

-- one level less at each call
abbrev pub decreases-height_from : goal.decreases-height_from
decreases-height_from l = l.levels

use Rattle.plain_form.proofs.value.«+values_from».Given as goal

-- one value less at each call
abbrev pub decreases-values_from : goal.decreases-values_from
decreases-values_from l = l.len

use Rattle.std.proofs.Common.{◌+◌, ◌-◌, ◌*◌}
use Rattle.seg_write.proofs.put.«+put».Given as goal

abbrev pub decreases-put : goal.decreases-put
decreases-put g l = 6 * l.height

-- four entries call for one of them alone, or for each from the first place on
abbrev pub decreases-put_four : goal.decreases-put_four
decreases-put_four g l = 6 * l.height + 5

-- an entry at a place calls for the entry, then for the next place
abbrev pub decreases-put_from : goal.decreases-put_from
decreases-put_from g l = 6 * l.height + (4 - l.place)

-- a lower part's changes are put into it
abbrev pub decreases-put_low : goal.decreases-put_low
decreases-put_low g l = 6 * l.part.height + 1

use Rattle.plain_form.specs.Lines.{lines_of}
use Rattle.plain_form.proofs.Visits.{visited}
use Rattle.plain_form.proofs.lines.«+visits».Given as goal

-- a line value less, or a level less
abbrev pub decreases-visits : goal.decreases-visits
decreases-visits l = visited l.width l.levels (lines_of l.all.now)

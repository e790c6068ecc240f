use Rattle.std.proofs.lemmas.Bool.{le-leb}
use Rattle.seg_read.proofs.Rooting.{power_high}
use Rattle.seg_read.proofs.span.is_within.Goals as goal

pub returns-then-height-ge16 : goal.returns-then-height-ge16
returns-then-height-ge16 c = (λ h. power_high c.args.height c.args.offset c.if-height-ge16.true c.ranges.offset.fits, λ l. le-leb 16 c.args.height c.if-height-ge16.true)

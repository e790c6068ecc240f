use Rattle.std.proofs.Common.{◌<◌, ◌∙◌, ap, sym, length, arith}
use Rattle.line_mem.specs.Places.{line_in}
use Rattle.line_mem.proofs.Seen.{line-slot}
use Rattle.line_mem.proofs.slots.first_vacant.Goals as goal

pub returns-in-Vacant : goal.returns-in-Vacant
returns-in-Vacant g c = let h : c.loop-i.i < length c.args.slots.now = omega arith in (h, line-slot c.args.slots.now c.loop-i.i _ h ∙ ap line_in (sym c.index-slots-i.is ∙ c.in-Vacant.is))

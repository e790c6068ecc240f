use Rattle.std.proofs.Common.{ap, ◌∙◌, rules}
use Rattle.line_mem.specs.Places.{line_in}
use Rattle.line_mem.proofs.Seen.{line-slot, not_none, lines_in}
use Rattle.line_mem.proofs.slots.line_here.Goals as goal

pub bounds-slots-at : goal.bounds-slots-at
bounds-slots-at g c = lines_in c.args.slots.now c.args.at c.requires.there

pub bounds-slots-at-in-Taken-1 : goal.bounds-slots-at-in-Taken-1
bounds-slots-at-in-Taken-1 g c = lines_in c.args.slots.now c.args.at c.requires.there

pub bounds : goal.bounds
bounds g c = lines_in c.args.slots.now c.args.at c.requires.there

pub offset_bounds-slots-at : goal.offset_bounds-slots-at
offset_bounds-slots-at g c = let h = lines_in c.args.slots.now c.args.at c.requires.there in search rules

pub unreachable-requires : goal.unreachable-requires
unreachable-requires g c = not_none _ c.requires.there (line-slot c.args.slots.now c.args.at _ (lines_in c.args.slots.now c.args.at c.requires.there) ∙ ap line_in c.in-Vacant.is)

pub returns : goal.returns
returns g c = line-slot c.args.slots.now c.args.at _ (lines_in c.args.slots.now c.args.at c.requires.there) ∙ ap line_in c.in-Taken.is

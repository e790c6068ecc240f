use Rattle.std.proofs.Common.{ap, ◌∙◌, rules}
use Rattle.line_mem.specs.Places.{count_in}
use Rattle.line_mem.proofs.Seen.{count-slot, not_none, counts_in}
use Rattle.line_mem.proofs.slots.count_here.Goals as goal

pub bounds-slots-at : goal.bounds-slots-at
bounds-slots-at g c = counts_in c.args.slots.now c.args.at c.requires.there

pub bounds-slots-at-in-Taken-1 : goal.bounds-slots-at-in-Taken-1
bounds-slots-at-in-Taken-1 g c = counts_in c.args.slots.now c.args.at c.requires.there

pub bounds : goal.bounds
bounds g c = counts_in c.args.slots.now c.args.at c.requires.there

pub offset_bounds-slots-at : goal.offset_bounds-slots-at
offset_bounds-slots-at g c = let h = counts_in c.args.slots.now c.args.at c.requires.there in search rules

pub unreachable-requires : goal.unreachable-requires
unreachable-requires g c = not_none _ c.requires.there (count-slot c.args.slots.now c.args.at _ (counts_in c.args.slots.now c.args.at c.requires.there) ∙ ap count_in c.in-Vacant.is)

pub returns : goal.returns
returns g c = count-slot c.args.slots.now c.args.at _ (counts_in c.args.slots.now c.args.at c.requires.there) ∙ ap count_in c.in-Taken.is

use Rattle.std.proofs.Common.{ap, ◌∙◌, rules}
use Rattle.line_mem.specs.Places.{count_in}
use Rattle.line_mem.proofs.Seen.{count-slot, not_none, counts_in, lines-same, counts-set}
use Rattle.line_mem.proofs.SlotCounts.{dead_of-set, taken_same}
use Rattle.line_mem.proofs.slots.set_count.Goals as goal

pub bounds-slots-at : goal.bounds-slots-at
bounds-slots-at g c = counts_in c.args.slots.now c.args.at c.requires.there

pub bounds-slots-at-in-Taken-1 : goal.bounds-slots-at-in-Taken-1
bounds-slots-at-in-Taken-1 g c = counts_in c.args.slots.now c.args.at c.requires.there

pub bounds-slots-at-in-Taken : goal.bounds-slots-at-in-Taken
bounds-slots-at-in-Taken g c = counts_in c.args.slots.now c.args.at c.requires.there

pub offset_bounds-slots-at-in-Taken : goal.offset_bounds-slots-at-in-Taken
offset_bounds-slots-at-in-Taken g c = let h = counts_in c.args.slots.now c.args.at c.requires.there in search rules

pub bounds : goal.bounds
bounds g c = counts_in c.args.slots.now c.args.at c.requires.there

pub offset_bounds-slots-at : goal.offset_bounds-slots-at
offset_bounds-slots-at g c = let h = counts_in c.args.slots.now c.args.at c.requires.there in search rules

pub unreachable-requires : goal.unreachable-requires
unreachable-requires g c = not_none _ c.requires.there (count-slot c.args.slots.now c.args.at _ (counts_in c.args.slots.now c.args.at c.requires.there) ∙ ap count_in c.in-Vacant.is)

pub returns-clause-lines : goal.returns-clause-lines
returns-clause-lines g c = lines-same c.args.slots.now c.args.at c.in-Taken.line _ _ _ (counts_in c.args.slots.now c.args.at c.requires.there) c.in-Taken.is

pub returns-clause-counts : goal.returns-clause-counts
returns-clause-counts g c = counts-set c.args.slots.now c.args.at c.in-Taken.line _ (counts_in c.args.slots.now c.args.at c.requires.there)

pub returns-clause-dead : goal.returns-clause-dead
returns-clause-dead g c = dead_of-set c.args.slots.now c.args.at c.in-Taken.line _ c.args.count _ (counts_in c.args.slots.now c.args.at c.requires.there) c.in-Taken.is

pub returns-clause-taken : goal.returns-clause-taken
returns-clause-taken g c = taken_same c.args.slots.now c.args.at c.in-Taken.line _ _ _ (counts_in c.args.slots.now c.args.at c.requires.there) c.in-Taken.is

use Rattle.std.proofs.Common.{ap, ◌∙◌, refl, rules}
use Rattle.hic_word.proofs.callers.Holds.{there_is}
use Rattle.line_mem.specs.Places.{line_in, count_in}
use Rattle.line_mem.proofs.Seen.{count-slot, line-slot, not_none, counts_in, slots-clear}
use Rattle.line_mem.proofs.SlotCounts.{taken_dead, taken_taken}
use Rattle.line_mem.proofs.slots.take_line.Goals as goal

pub bounds-slots-at : goal.bounds-slots-at
bounds-slots-at g c = counts_in c.args.slots.now c.args.at (there_is _ _ c.requires.there)

pub bounds-slots-at-in-Taken-1 : goal.bounds-slots-at-in-Taken-1
bounds-slots-at-in-Taken-1 g c = counts_in c.args.slots.now c.args.at (there_is _ _ c.requires.there)

pub bounds-slots-at-in-Taken : goal.bounds-slots-at-in-Taken
bounds-slots-at-in-Taken g c = counts_in c.args.slots.now c.args.at (there_is _ _ c.requires.there)

pub offset_bounds-slots-at-in-Taken : goal.offset_bounds-slots-at-in-Taken
offset_bounds-slots-at-in-Taken g c = let h = counts_in c.args.slots.now c.args.at (there_is _ _ c.requires.there) in search rules

pub bounds : goal.bounds
bounds g c = counts_in c.args.slots.now c.args.at (there_is _ _ c.requires.there)

pub offset_bounds-slots-at : goal.offset_bounds-slots-at
offset_bounds-slots-at g c = let h = counts_in c.args.slots.now c.args.at (there_is _ _ c.requires.there) in search rules

pub unreachable-requires : goal.unreachable-requires
unreachable-requires g c = not_none _ (there_is _ _ c.requires.there) (count-slot c.args.slots.now c.args.at _ (counts_in c.args.slots.now c.args.at (there_is _ _ c.requires.there)) ∙ ap count_in c.in-Vacant.is)

pub returns-clause-line : goal.returns-clause-line
returns-clause-line g c = line-slot c.args.slots.now c.args.at _ (counts_in c.args.slots.now c.args.at (there_is _ _ c.requires.there)) ∙ ap line_in c.in-Taken.is

pub returns-clause-lines : goal.returns-clause-lines
returns-clause-lines g c = slots-clear line_in c.args.slots.now c.args.at _ (counts_in c.args.slots.now c.args.at (there_is _ _ c.requires.there)) refl

pub returns-clause-counts : goal.returns-clause-counts
returns-clause-counts g c = slots-clear count_in c.args.slots.now c.args.at _ (counts_in c.args.slots.now c.args.at (there_is _ _ c.requires.there)) refl

pub returns-clause-dead : goal.returns-clause-dead
returns-clause-dead g c = taken_dead c.args.slots.now c.args.at c.in-Taken.line _ _ (counts_in c.args.slots.now c.args.at (there_is _ _ c.requires.there)) c.in-Taken.is c.requires.there

pub returns-clause-taken : goal.returns-clause-taken
returns-clause-taken g c = taken_taken c.args.slots.now c.args.at c.in-Taken.line _ _ (counts_in c.args.slots.now c.args.at (there_is _ _ c.requires.there)) c.in-Taken.is

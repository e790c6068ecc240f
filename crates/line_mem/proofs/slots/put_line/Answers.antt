use Rattle.std.proofs.Common.{refl}
use Rattle.line_mem.specs.declared.slots.Slot.TheVariants.{Taken}
use Rattle.line_mem.specs.Places.{line_in}
use Rattle.line_mem.proofs.Seen.{slots-set, counts-set}
use Rattle.line_mem.proofs.SlotCounts.{put_dead, put_taken}
use Rattle.line_mem.proofs.slots.put_line.Goals as goal

pub returns-clause-lines : goal.returns-clause-lines
returns-clause-lines g c = slots-set line_in c.args.slots.now c.args.at (Taken c.args.line.now 1) c.args.line.now.w c.requires.inside refl

pub returns-clause-counts : goal.returns-clause-counts
returns-clause-counts g c = counts-set c.args.slots.now c.args.at c.args.line.now 1 c.requires.inside

pub returns-clause-dead : goal.returns-clause-dead
returns-clause-dead g c = put_dead c.args.slots.now c.args.at c.args.line.now c.requires.inside c.requires.vacant

pub returns-clause-taken : goal.returns-clause-taken
returns-clause-taken g c = put_taken c.args.slots.now c.args.at c.args.line.now c.requires.inside c.requires.vacant

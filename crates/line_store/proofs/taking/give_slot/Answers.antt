use Rattle.std.proofs.Common.{rules, arith}
use Rattle.line_store.proofs.TakingCalls.{dead_line, dead_once, gives, wiped_taken, wiped_vacant}
use Rattle.line_store.proofs.taking.give_slot.Goals as goal

pub wipe-line-requires : goal.wipe-line-requires
wipe-line-requires g c = let wide = c.requires.wide in (omega arith, (search rules, (dead_line c.args.slots.now c.dead_pop.new.self c.in_ok-slot.slot c.requires.listed c.in_ok-slot.ensures.some, dead_once c.args.slots.now c.dead_pop.new.self c.in_ok-slot.slot c.requires.listed c.in_ok-slot.ensures.some)))

pub push_free-requires : goal.push_free-requires
push_free-requires g c = (omega arith, (wiped_vacant c.args.slots.now c.dead_pop.new.self c.in_ok-slot.slot c.requires.listed c.in_ok-slot.ensures.some c.wipe-line.result c.wipe-line.new.self c.wipe-line.ensures.line c.wipe-line.ensures.vacant, wiped_taken c.args.slots.now c.dead_pop.new.self c.in_ok-slot.slot c.requires.listed c.in_ok-slot.ensures.some c.wipe-line.result c.wipe-line.new.self c.wipe-line.ensures.line c.wipe-line.ensures.vacant))

pub returns-clause-some : goal.returns-clause-some
returns-clause-some g c = gives c.args.slots.now c.dead_pop.new.self c.in_ok-slot.slot c.requires.listed c.in_ok-slot.ensures.some c.wipe-line.result c.wipe-line.new.self c.wipe-line.ensures.line c.wipe-line.ensures.vacant c.push_free.new.self c.push_free.ensures

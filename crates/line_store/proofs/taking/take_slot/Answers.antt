use Rattle.std.proofs.Common.{rules, arith}
use Rattle.line_store.proofs.TakingCalls.{popped_free, popped_vacant, put_alive, put_line, takes}
use Rattle.line_store.proofs.taking.take_slot.Goals as goal

pub put-requires : goal.put-requires
put-requires g c = let wide = c.requires.wide in (omega arith, (search rules, (popped_vacant c.args.slots.now c.pop_free.new.self c.in_ok-slot.slot c.requires.listed c.in_ok-slot.ensures.some, popped_free c.args.slots.now c.pop_free.new.self c.in_ok-slot.slot c.requires.listed c.in_ok-slot.ensures.some)))

pub set_count-requires : goal.set_count-requires
set_count-requires g c = (omega arith, (put_line c.args.slots.now c.pop_free.new.self c.in_ok-slot.slot c.requires.listed c.in_ok-slot.ensures.some c.args.line.now c.put.new.self c.put.ensures, put_alive c.args.slots.now c.pop_free.new.self c.in_ok-slot.slot c.requires.listed c.in_ok-slot.ensures.some c.args.line.now c.put.new.self c.put.ensures))

pub returns-clause-some : goal.returns-clause-some
returns-clause-some g c = takes c.args.slots.now c.pop_free.new.self c.in_ok-slot.slot c.requires.listed c.in_ok-slot.ensures.some c.args.line.now c.put.new.self c.put.ensures c.set_count.new.self c.set_count.ensures

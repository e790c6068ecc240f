use Rattle.machine_rows.proofs.Picking.{next_runs, next_there}
use Rattle.machine_rows.proofs.told.follow.Goals as goal

pub pc-pc-requires : goal.pc-pc-requires
pc-pc-requires g c = next_there c.loop.machine.plain c.loop.schedule c.running.result c.in-Some.task c.next.new.self.entries c.running.ensures.tasks c.in-Some.ensures.pick

pub step-turn-requires : goal.step-turn-requires
step-turn-requires g c = next_runs c.loop.machine.plain c.loop.schedule c.running.result c.in-Some.task c.next.new.self.entries c.running.ensures.tasks c.in-Some.ensures.pick

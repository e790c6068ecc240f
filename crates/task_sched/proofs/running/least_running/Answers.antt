use Rattle.std.proofs.Common.{◌/◌, ◌^◌, sym, ap, ◌∙◌}
use Rattle.task_sched.proofs.Tasks.{least_from-bits, least_from-none}
use Rattle.task_sched.proofs.running.least_running.Goals as goal

pub returns-then-not_below-eq0-clause-least : goal.returns-then-not_below-eq0-clause-least
returns-then-not_below-eq0-clause-least c = sym (least_from-none c.args.running c.args.low c.requires (ap (λ n. n / 2 ^ c.args.low) (sym c.from.ensures) ∙ c.if-not_below-eq0.true))

pub returns-clause-least : goal.returns-clause-least
returns-clause-least c = (least_from-bits c.args.running c.from.result c.args.low c.from.ensures c.requires c.ranges.running.fits c.if-not_below-eq0.false).2

pub returns-clause-below : goal.returns-clause-below
returns-clause-below c = (least_from-bits c.args.running c.from.result c.args.low c.from.ensures c.requires c.ranges.running.fits c.if-not_below-eq0.false).0

pub returns-clause-runs : goal.returns-clause-runs
returns-clause-runs c = (least_from-bits c.args.running c.from.result c.args.low c.from.ensures c.requires c.ranges.running.fits c.if-not_below-eq0.false).1

use Rattle.std.proofs.Common.{refl, arith}
use Rattle.hic_machine.proofs.Runs.{run_ends, run_on, run_stop}
use Rattle.hic_machine.proofs.loading.end_of.Goals as goal

pub loop-at-init : goal.loop-at-init
loop-at-init c = record { run = refl; bound = c.requires }

pub loop-at-preserved : goal.loop-at-preserved
loop-at-preserved c = let a = run_on c.args.segment c.loop-at.at c.args.records.now _ c.loop-at-test.true c.if-records-at.true in let b = c.loop-at.invariant.run in record { run = omega (arith, a, b); bound = (let low = c.loop-at-test.true in omega (arith, low)) }

pub returns-else-records-at-clause-run : goal.returns-else-records-at-clause-run
returns-else-records-at-clause-run c = let a = run_ends c.args.segment c.loop-at.at c.args.records.now _ c.loop-at-test.true c.if-records-at.false in let b = c.loop-at.invariant.run in omega (arith, a, b)

pub returns-after-loop-at-clause-run : goal.returns-after-loop-at-clause-run
returns-after-loop-at-clause-run c = let a = run_stop c.args.segment c.loop-at.at c.args.records.now (omega (arith, c.loop-at-test.false)) in let b = c.loop-at.invariant.run in omega (arith, a, b)

pub returns-after-loop-at-clause-bound : goal.returns-after-loop-at-clause-bound
returns-after-loop-at-clause-bound c = c.loop-at.invariant.bound

use Rattle.std.proofs.Common.{refl, ◌∙◌, arith}
use Rattle.hic_word.proofs.callers.Holds.{among_after, exchanges_nothing, exchanges_then}
use Rattle.hic_task.specs.Kept.{task_words}
use Rattle.hic_task.proofs.ControlRows.{all_are_closed, next_given_up, next_held, one_more_closed}
use Rattle.hic_task.proofs.task.Task.close_all.Goals as goal

pub loop-i-init : goal.loop-i-init
loop-i-init g c = record { closed = refl; exchanges = exchanges_nothing (g.M.HoldCounts.memory c.args.mem.now) (task_words c.args.self.now); looks = refl }

pub close-requires : goal.close-requires
close-requires g c = next_held c.loop-i.self c.args.self.now c.loop-i.i c.loop-i.invariant.closed _ c.requires.four c.loop-i-test.true
    (among_after (g.M.HoldCounts.memory c.args.mem.now) (g.M.HoldCounts.memory c.loop-i.mem) _ _ c.loop-i.invariant.exchanges.holds c.requires.held)

pub loop-i-preserved : goal.loop-i-preserved
loop-i-preserved g c = record {
  closed = one_more_closed c.loop-i.self c.args.self.now c.loop-i.i c.loop-i.invariant.closed c.close.ensures.none;
  exchanges = exchanges_then c.loop-i.invariant.exchanges (next_given_up c.loop-i.self c.args.self.now c.loop-i.i c.loop-i.invariant.closed _ c.requires.four c.loop-i-test.true c.close.ensures.none c.close.ensures.exchanges);
  looks = c.close.ensures.looks ∙ c.loop-i.invariant.looks;
}

pub returns-clause-closed : goal.returns-clause-closed
returns-clause-closed g c = all_are_closed c.loop-i.self c.args.self.now c.loop-i.i c.loop-i.invariant.closed (omega (arith, c.loop-i-test.false, c.loop-i.auto)) c.requires.four

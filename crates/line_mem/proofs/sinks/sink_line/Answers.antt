use Rattle.std.proofs.Common.{◌<◌, length, arith}
use Rattle.line_mem.proofs.GivenUp.{given_next, held_next}
use Rattle.line_mem.proofs.sinks.sink_line.Goals as goal

pub loop-word-preserved : goal.loop-word-preserved
loop-word-preserved g c =
    let h : c.loop-word.word-index < length c.args.line.now.w = omega arith in
    record {
      sunk = given_next (g.M.HoldCounts.memory c.args.mem.now) (g.M.HoldCounts.memory c.loop-word.mem) _ _ c.loop-word.word-index _ h c.loop-word.invariant.sunk c.sink_word.ensures;
      held = held_next (g.M.HoldCounts.memory c.loop-word.mem) _ _ c.loop-word.word-index _ h c.loop-word.invariant.held c.sink_word.ensures;
    }

use Rattle.std.proofs.Common.{◌+◌, ap}
use Rattle.std.specs.Prelude.{flat_map}
use Rattle.hic_word.specs.Memory.{line_at, width}
use Rattle.hic_word.proofs.callers.Holds.{exchanges_before, exchanges_reshapes}
use Rattle.iter_regs.specs.Iters.{iter_words}
use Rattle.hic_task.proofs.Ready.{among_front, standing_live, standing_room}
use Rattle.hic_task.proofs.Places.{words_with}
use Rattle.hic_task.proofs.StandsOn.{task_after}
use Rattle.hic_task.proofs.task.Task.set.Goals as goal

pub set-requires-clause-held : goal.set-requires-clause-held
set-requires-clause-held g c = among_front c.args.self.now.regs (flat_map iter_words c.args.self.now.iters) c.requires.held

pub set-requires-clause-live : goal.set-requires-clause-live
set-requires-clause-live g c = standing_live (g.M.HoldCounts.memory c.args.mem.now) c.args.word c.requires.word.0 c.requires.word.1

pub set-requires-clause-room : goal.set-requires-clause-room
set-requires-clause-room g c = standing_room (g.M.HoldCounts.memory c.args.mem.now) c.args.word c.requires.word.0 (g.met.M.LineMem.sound c.args.mem.now) c.requires.held c.requires.word.1

pub returns-clause-exchanges : goal.returns-clause-exchanges
returns-clause-exchanges g c = exchanges_before c.set.ensures.exchanges (flat_map iter_words c.args.self.now.iters)

pub returns-clause-task : goal.returns-clause-task
returns-clause-task g c = λ T v d e. task_after c.requires.held _ _ (exchanges_reshapes (returns-clause-exchanges g c)) (record {
  runs = d.runs;
  pc = ap (λ n. n + 1) d.pc;
  regs = rw (c.set.ensures.words, c.get.ensures.number) (words_with (width (g.M.HoldCounts.memory c.args.mem.now)) (line_at (g.M.HoldCounts.memory c.args.mem.now)) c.args.self.now.regs T.regs c.args.r c.args.word v d.regs e);
  iters = d.iters;
})

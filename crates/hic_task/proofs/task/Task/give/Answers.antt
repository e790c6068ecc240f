use Rattle.std.proofs.Common.{◌+◌, [], ◌∷◌, ◌++◌, ap}
use Rattle.std.specs.Prelude.{flat_map}
use Rattle.hic_word.specs.Memory.{line_at, width}
use Rattle.hic_word.proofs.callers.Holds.{among_after, among_first, among_last, exchanges_before, exchanges_reshapes, exchanges_then}
use Rattle.iter_regs.specs.Iters.{iter_words}
use Rattle.hic_task.specs.Kept.{task_words}
use Rattle.hic_task.proofs.Places.{words_with}
use Rattle.hic_task.proofs.Ready.{standing_live}
use Rattle.hic_task.proofs.SealRow.{beside_word, task_beside}
use Rattle.hic_task.proofs.task.Task.give.Goals as goal

pub set-requires-clause-held : goal.set-requires-clause-held
set-requires-clause-held g c = among_first c.args.self.now.regs (flat_map iter_words c.args.self.now.iters) (among_last (c.args.word ∷ []) (task_words c.args.self.now) c.requires.held)

pub set-requires-clause-live : goal.set-requires-clause-live
set-requires-clause-live g c = standing_live (g.M.HoldCounts.memory c.args.mem.now) c.args.word c.requires.word.0 c.requires.word.1

pub release-requires : goal.release-requires
release-requires g c =
    let us = flat_map iter_words c.args.self.now.iters in
    among_first (c.args.word ∷ []) (c.set.new.self ++ us) (among_after (g.M.HoldCounts.memory c.args.mem.now) (g.M.HoldCounts.memory c.set.new.mem) (c.args.word ∷ task_words c.args.self.now) (c.args.word ∷ c.set.new.self ++ us) (beside_word c.args.word us c.set.ensures.exchanges).holds c.requires.held)

pub returns-clause-exchanges : goal.returns-clause-exchanges
returns-clause-exchanges g c =
    let us = flat_map iter_words c.args.self.now.iters in
    exchanges_then (beside_word c.args.word us c.set.ensures.exchanges) (exchanges_before c.release.ensures.exchanges (c.set.new.self ++ us))

pub returns-clause-task : goal.returns-clause-task
returns-clause-task g c = λ T v d e. task_beside [] _ _ c.requires.held (exchanges_reshapes (returns-clause-exchanges g c)) (record {
  runs = d.runs;
  pc = ap (λ n. n + 1) d.pc;
  regs = rw (c.set.ensures.words, c.get.ensures.number) (words_with (width (g.M.HoldCounts.memory c.args.mem.now)) (line_at (g.M.HoldCounts.memory c.args.mem.now)) c.args.self.now.regs T.regs c.args.r c.args.word v d.regs e);
  iters = d.iters;
})

use Rattle.std.proofs.Common.{◌+◌, refl, ◌∙◌, ap}
use Rattle.std.specs.Prelude.{flat_map}
use Rattle.hic_word.proofs.callers.Holds.{among_after, exchanges_before, exchanges_reshapes, exchanges_then}
use Rattle.iter_regs.specs.Iters.{iter_words}
use Rattle.hic_plain.specs.Turns.{halted}
use Rattle.hic_task.specs.declared.task.Task.{Task}
use Rattle.hic_task.proofs.ControlRows.{four_iters, nothing_for}
use Rattle.hic_task.proofs.Ready.{few_among}
use Rattle.hic_task.proofs.task.Task.halt.Goals as goal

pub close_all-requires-clause-held : goal.close_all-requires-clause-held
close_all-requires-clause-held g c = among_after (g.M.HoldCounts.memory c.args.mem.now) (g.M.HoldCounts.memory c.clear.new.mem) _ _ (exchanges_before c.clear.ensures.exchanges (flat_map iter_words c.args.self.now.iters)).holds (few_among c.requires.held)

pub close_all-requires-clause-four : goal.close_all-requires-clause-four
close_all-requires-clause-four g c = four_iters c.requires.can_act

pub returns-clause-row : goal.returns-clause-row
returns-clause-row g c = record {
  acts = λ printed P t T can. record {
    left = halted T;
    task_for = nothing_for (g.M.HoldCounts.memory c.close_all.new.mem) _ T refl (ap (λ (k : Task). k.pc + 1) c.close_all.ensures.closed ∙ ap (λ n. n + 1) can.task_for.pc)
        (ap (λ (k : Task). k.regs) c.close_all.ensures.closed ∙ c.clear.ensures.words) (ap (λ (k : Task). k.iters) c.close_all.ensures.closed);
    is = refl;
  };
  reshapes = exchanges_reshapes (exchanges_then (exchanges_before c.clear.ensures.exchanges (flat_map iter_words c.args.self.now.iters)) c.close_all.ensures.exchanges);
  trapped = tt;
}

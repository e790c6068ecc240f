use Rattle.std.proofs.Common.{sym}
use Rattle.hic_word.specs.Values.{Number}
use Rattle.hic_word.proofs.callers.Holds.{exchanges_reshapes}
use Rattle.hic_plain.specs.Turns.{next, with_reg}
use Rattle.hic_task.proofs.NumberRows.{sets_same}
use Rattle.hic_task.proofs.task.Task.task.Goals as goal

pub returns-clause-row : goal.returns-clause-row
returns-clause-row g c = record {
  acts = λ printed P T can. record {
    left = next (with_reg T c.args.a (Number c.from.result));
    task_for = c.set_number.ensures.task T can.task_for;
    is = sets_same P c.args.number T c.args.a (sym c.from.ensures);
  };
  reshapes = exchanges_reshapes c.set_number.ensures.exchanges;
  trapped = tt;
}

use Rattle.hic_word.specs.Exchanges.{HoldsAmong}
use Rattle.iter_regs.specs.Iters.{iter_words}
use Rattle.form_rows.proofs.iterators.fills.Given as goal

abbrev pub invariant-loop-offset : goal.invariant-loop-offset
invariant-loop-offset g l = HoldsAmong (g.M.HoldCounts.memory l.mem) (iter_words l.reg)

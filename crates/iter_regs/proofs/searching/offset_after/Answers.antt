use Rattle.std.proofs.Common.{◌+◌, sym, arith}
use Rattle.iter_regs.proofs.NextInView.{no_next_past}
use Rattle.iter_regs.proofs.searching.offset_after.Goals as goal

pub returns-in-None-clause-next : goal.returns-in-None-clause-next
returns-in-None-clause-next g c = λ A for. sym (no_next_past A (c.args.offset + 1) for.root_for.valid (omega (arith, c.in-None.ensures)))

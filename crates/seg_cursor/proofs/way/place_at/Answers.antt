use Rattle.std.proofs.Common.{ap, sym, ◌/◌, ◌%◌}
use Rattle.seg_read.proofs.Rooting.{four_power}
use Rattle.seg_cursor.proofs.way.place_at.Goals as goal

pub returns-clause-place : goal.returns-clause-place
returns-clause-place c = ap (λ p. c.args.offset / p % 4) (sym (four_power c.args.height))

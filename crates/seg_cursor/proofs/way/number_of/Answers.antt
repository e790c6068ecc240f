use Rattle.std.proofs.Common.{◌+◌, ◌*◌, ◌/◌, sym, ◌∙◌, ap}
use Rattle.seg_read.proofs.Rooting.{four_power}
use Rattle.seg_cursor.proofs.Cutting.{number_up}
use Rattle.seg_cursor.proofs.way.number_of.Goals as goal

pub returns : goal.returns
returns c = ap (λ p. c.args.offset / p / 4 * 4 + c.args.place) (sym (four_power c.args.height)) ∙ ap (λ n. n * 4 + c.args.place) (sym (number_up c.args.offset c.args.height))

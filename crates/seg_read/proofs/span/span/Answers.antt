use Rattle.std.proofs.Common.{◌*◌, sym, ◌∙◌, arith}
use Rattle.std.proofs.lemmas.Nat.{one_shl}
use Rattle.seg_read.proofs.Rooting.{four_power}
use Rattle.seg_read.proofs.span.span.Goals as goal

pub returns : goal.returns
returns c = let low = c.requires in one_shl (2 * c.args.height) 32 (omega (arith, low)) ∙ sym (four_power c.args.height)

use Rattle.std.proofs.Common.{◌+◌, ◌-◌, ◌∷◌, ◌++◌, decimal, flat_map, arith}
use Rattle.hic_list.specs.Words.{digits_in}
use Rattle.hic_list.proofs.Appending.{digits-turn}
use Rattle.hic_list.proofs.writing.put_path.Goals as goal

pub loop-preserved : goal.loop-preserved
loop-preserved c = record {
  items = digits-turn decimal 4 (c.args.steps - c.loop.counter) (c.args.steps - (c.loop.counter + 1)) c.loop.left c.loop.line.items c.put_digit.new.line.items (c.args.line.now.items ++ 47 ∷ flat_map decimal (digits_in 4 c.args.steps c.args.path)) (omega arith) c.loop.invariant.items c.put_digit.ensures.items;
  len = omega arith;
}

use Rattle.write_buf.proofs.PlaceLaws.{rest_of}
use Rattle.write_buf.proofs.WriteBuf.from.Goals as goal

pub returns-clause-pairs : goal.returns-clause-pairs
returns-clause-pairs c = rest_of c.args.self.now _ _ _ c.as_slice.ensures.pairs c.place.ensures.rest

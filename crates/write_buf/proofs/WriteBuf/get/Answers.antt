use Rattle.std.proofs.Common.{sym}
use Rattle.write_buf.proofs.PairLaws.{absent}
use Rattle.write_buf.proofs.PlaceLaws.{word_at-stands, pair-stands}
use Rattle.write_buf.proofs.WriteBuf.get.Goals as goal

-- the word of the pair where the offset stands
pub returns-in-Ok-clause-value : goal.returns-in-Ok-clause-value
returns-in-Ok-clause-value c = rw c.as_slice.ensures.pairs (sym (word_at-stands _ _ _ _ c.in-Ok.ensures.stands))

pub returns-in-Ok-clause-there : goal.returns-in-Ok-clause-there
returns-in-Ok-clause-there c = rw c.as_slice.ensures.pairs (c.in-Ok.place, c.in-Ok.ensures.bound, pair-stands _ _ _ _ c.in-Ok.ensures.stands)

pub returns-in-Err-clause-absent : goal.returns-in-Err-clause-absent
returns-in-Err-clause-absent c = absent _ _ c.in-Err.ensures.absent

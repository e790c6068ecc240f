use Rattle.write_buf.proofs.PlaceLaws.{from-fits, from-stands}
use Rattle.write_buf.proofs.WriteBuf.place.Goals as goal

pub returns-in-Ok-clause-rest : goal.returns-in-Ok-clause-rest
returns-in-Ok-clause-rest c = from-stands _ _ _ c.in-Ok.ensures.stands

pub returns-in-Err-clause-rest : goal.returns-in-Err-clause-rest
returns-in-Err-clause-rest c = from-fits _ _ _ c.in-Err.ensures.fits

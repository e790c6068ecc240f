use Rattle.std.proofs.Common.{arith, refl}
use Rattle.hic_list.specs.UnderWay.{text_of}
use Rattle.hicamp.specs.Asked.{answer_bytes}
use Rattle.hicamp.proofs.OutcomeLaws.{fulfils-cut}
use Rattle.hicamp.proofs.telling.write_listing.Goals as goal

pub returns-in-Err-clause-fulfils : goal.returns-in-Err-clause-fulfils
returns-in-Err-clause-fulfils g c =
    fulfils-cut (answer_bytes (text_of c.args.machine.now.plain c.args.listing.now)) refl c.in-Err.ensures.failed
    (λ sound room. absurd (cc (c.in-Err.ensures.sound sound (omega (arith, room)))))

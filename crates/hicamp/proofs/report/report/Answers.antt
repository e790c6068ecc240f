use Rattle.std.proofs.Common.{[], None, arith}
use Rattle.hicamp.proofs.OutcomeLaws.{fulfils-part}
use Rattle.hicamp.proofs.report.report.Goals as goal

pub returns-in-Err-clause-fulfils : goal.returns-in-Err-clause-fulfils
returns-in-Err-clause-fulfils g c =
    fulfils-part (record { out = []; err = c.args.message.now; status = c.args.status; last = None }) c.in-Err.ensures.failed
    (λ sound room. absurd (cc (c.in-Err.ensures.sound sound (omega (arith, room)))))

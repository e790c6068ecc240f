use Rattle.std.proofs.Common.{arith}
use Rattle.reg_file.proofs.Others.{held_number}
use Rattle.reg_file.proofs.RegFile.number.Goals as goal

pub returns : goal.returns
returns c =
    let eight = c.self.invariant.0 in
    let inside = c.requires.inside in
    held_number c.self.inside.words c.args.self.now c.self.view_is c.args.r (omega (arith, eight, inside)) c.requires.number _

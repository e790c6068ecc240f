use Rattle.std.proofs.Common.{arith}
use Rattle.reg_file.proofs.Others.{number_exchanged, number_set, number_tells}
use Rattle.reg_file.proofs.RegFile.set_number.Goals as goal

pub invariant_of-self : goal.invariant_of-self
invariant_of-self c =
    let eight = c.self.invariant.0 in
    let inside = c.requires.inside in
    number_tells c.self.inside.words c.args.self.now c.self.view_is c.args.r (omega (arith, eight, inside)) c.requires.number _ c.args.number c.self.inside.others eight c.self.invariant.1

pub returns-clause-words : goal.returns-clause-words
returns-clause-words c =
    let eight = c.self.invariant.0 in
    let inside = c.requires.inside in
    number_set c.self.inside.words c.args.self.now c.self.view_is c.args.r (omega (arith, eight, inside)) c.requires.number _ c.args.number

pub returns-clause-exchanges : goal.returns-clause-exchanges
returns-clause-exchanges c =
    let eight = c.self.invariant.0 in
    let inside = c.requires.inside in
    number_exchanged c.self.inside.words c.args.self.now c.self.view_is c.args.r (omega (arith, eight, inside)) c.requires.number _ c.args.number

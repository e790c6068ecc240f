use Rattle.std.proofs.Common.{◌-◌, length, sym, arith}
use Rattle.seg_write.proofs.Covering.{last_below, last_is, past_least}
use Rattle.seg_write.proofs.whole.height_for.Goals as goal

pub returns-in-Some-clause-below : goal.returns-in-Some-clause-below
returns-in-Some-clause-below c = λ m L h a.
    let cs = c.args.changes.now in
    last_below m cs L 0 _ (length cs - 1) c.in-Some.change.now h a (omega arith) (sym c.in-Some.ensures.value) c.height_to.ensures.within

pub returns-in-Some-clause-past : goal.returns-in-Some-clause-past
returns-in-Some-clause-past c = λ h some less.
    let cs = c.args.changes.now in
    last_is _ cs (length cs - 1) c.in-Some.change.now (omega arith) (sym c.in-Some.ensures.value) (past_least c.in-Some.change.now.0 h c.height_to.result (λ within. c.height_to.ensures.least h some within) less)

use Rattle.std.proofs.Common.{arith}
use Rattle.std.proofs.lemmas.Fmt.{length-decimal-le}
use Rattle.hic_list.proofs.writing.put_number.Goals as goal

pub returns-else-number-lt10-clause-len64 : goal.returns-else-number-lt10-clause-len64
returns-else-number-lt10-clause-len64 c =
    let long = length-decimal-le 20 c.args.number (omega arith) (omega arith) (omega arith) in
    omega (arith, long)

pub returns-else-number-lt10-clause-len32 : goal.returns-else-number-lt10-clause-len32
returns-else-number-lt10-clause-len32 c = λ low.
    let long = length-decimal-le 10 c.args.number (omega arith) (omega (arith, low)) (omega arith) in
    omega (arith, long)

pub returns-else-number-lt10-clause-len16 : goal.returns-else-number-lt10-clause-len16
returns-else-number-lt10-clause-len16 c = λ low.
    let long = length-decimal-le 5 c.args.number (omega arith) (omega (arith, low)) (omega arith) in
    omega (arith, long)

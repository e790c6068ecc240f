use Rattle.std.proofs.Common.{◌%◌, ap, ◌∙◌, arith}
use Rattle.line_hash.proofs.Quotients.{quotient-fits, remainder-low, remainder-high}
use Rattle.line_hash.proofs.divisor.Divisor.remainder.Goals as goal

pub overflow_sub-rest : goal.overflow_sub-rest
overflow_sub-rest c = quotient-fits c.args.n c.from.result c.self.inside.number c.self.inside.inverse c.from-2.result c.from.ensures c.from-2.ensures c.self.invariant

pub returns-then-rest-self : goal.returns-then-rest-self
returns-then-rest-self c =
    remainder-high c.args.n c.from.result c.self.inside.number c.self.inside.inverse c.from-2.result c.from.ensures c.from-2.ensures c.self.invariant (omega arith) c.if-rest-self.true
    ∙ ap (λ n. c.args.n % n) c.self.view_is

pub returns-else-rest-self : goal.returns-else-rest-self
returns-else-rest-self c =
    remainder-low c.args.n c.from.result c.self.inside.number c.self.inside.inverse c.from-2.result c.from.ensures c.from-2.ensures c.self.invariant c.if-rest-self.false
    ∙ ap (λ n. c.args.n % n) c.self.view_is

use Rattle.std.proofs.Common.{sym, ◌∙◌, arith}
use Rattle.std.proofs.lemmas.Result.{err_from_is_err_and}
use Rattle.hic_object.proofs.Whole.{found, read_again}
use Rattle.hic_object.proofs.object.Object.read.Goals as goal

pub returns-in_err-lists-clause-only : goal.returns-in_err-lists-clause-only
returns-in_err-lists-clause-only c = λ o is.
    let p = err_from_is_err_and c.from_residual.result c.from_residual.ensures.1 in
    rw (p.1, p.2) (λ other. sym (read_again c.args.bytes.now o is) ∙ c.in_err-lists.ensures other)

pub invariant_of-result : goal.invariant_of-result
invariant_of-result c = (found c.args.bytes.now _ (λ i. omega (arith, c.type_inv.bytes i)) c.in_ok-lists.ensures).0

pub returns-clause-found : goal.returns-clause-found
returns-clause-found c = found c.args.bytes.now _ (λ i. omega (arith, c.type_inv.bytes i)) c.in_ok-lists.ensures

pub returns-clause-only : goal.returns-clause-only
returns-clause-only c = λ o is. sym (read_again c.args.bytes.now o is) ∙ c.in_ok-lists.ensures

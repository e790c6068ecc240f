use Rattle.std.proofs.Common.{◌∙◌, sym, subst, arith}
use Rattle.line_slots.specs.ChainLinks.{HasKind}
use Rattle.line_slots.proofs.KindBits.{few_kinds, kind_put, kinds_stay}
use Rattle.line_slots.proofs.chains.with_front.Goals as goal
use Rattle.line_slots.proofs.chains.with_front.Goals.{then-first_of-eq-NO_LINK, else-first_of-eq-NO_LINK}

pub head_of-requires-clause-kinds : goal.head_of-requires-clause-kinds
head_of-requires-clause-kinds c = few_kinds c.if-first_of-eq-NO_LINK.kinds c.kind_of.result c.kind_of.ensures.few (elim c.if-first_of-eq-NO_LINK.branch [
  | then-first_of-eq-NO_LINK w ↦ let a = w.kinds-is in omega (arith, a)
  | else-first_of-eq-NO_LINK w ↦ let a = w.kinds-is in let b = w.kinds_of-kinds.ensures.few in omega (arith, a, b)
])

pub returns-clause-own : goal.returns-clause-own
returns-clause-own c = kind_put c.if-first_of-eq-NO_LINK.kinds c.kind_of.result c.kind_of.ensures.few c.args.key _ c.head_of.ensures.kinds c.kind_of.ensures.kind

pub returns-clause-others : goal.returns-clause-others
returns-clause-others c = λ apart other told. elim c.if-first_of-eq-NO_LINK.branch [
  | then-first_of-eq-NO_LINK w ↦ absurd (apart (sym c.first_of.ensures ∙ w.if-first_of-eq-NO_LINK.true))
  | else-first_of-eq-NO_LINK w ↦ kinds_stay c.if-first_of-eq-NO_LINK.kinds c.kind_of.result c.kind_of.ensures.few other _ c.head_of.ensures.kinds (subst (λ k. HasKind k other) (sym (w.kinds-is ∙ w.kinds_of-kinds.ensures.kinds)) told)
]

use Rattle.std.proofs.Common.{IsSome, ◌+◌, refl, subst, arith}
use Rattle.hic_word.specs.Memory.{line_at}
use Rattle.line_rows.proofs.Keeping.{large_links, number_live, one_link, one_live}
use Rattle.line_rows.proofs.walks.chosen.Goals as goal

pub returns-in-Some : goal.returns-in-Some
returns-in-Some c = λ m kept. (
  one_live m c.args.words.now c.args.at _ c.requires kept,
  one_link m c.args.words.now c.args.at _ c.requires kept (subst (λ o. IsSome o) c.in-Some.ensures refl),
)

pub returns-in-None : goal.returns-in-None
returns-in-None c = λ m kept. (
  number_live m c.num.result (65536 + c.from.result) c.num.ensures.value,
  large_links (line_at m) c.num.result (65536 + c.from.result) (omega arith) (omega (arith, c.from.ensures, c.ranges.number)) c.num.ensures.value,
)

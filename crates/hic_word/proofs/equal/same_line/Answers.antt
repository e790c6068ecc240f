-- == at arrays compares the words pair by pair, and == at words is ≡.
use Rattle.std.proofs.Common.{rules, ◌≡◌, IsTrue, true, subst, sym, IsTrue}
use Rattle.std.specs.Cmp.Lexicographic.{pointwise_decides}
use Rattle.hic_word.specs.declared.Word.{Word}
use Rattle.hic_word.specs.contracts.WordPartialEq.TheImpl.{eq-value}
use Rattle.hic_word.proofs.equal.same_line.Goals as goal

decides : (x y : Word) → (eq-value.it x y ≡ true → x ≡ y) × (x ≡ y → eq-value.it x y ≡ true)
decides x y = search rules

pub returns : goal.returns
returns g c = subst (λ t. (IsTrue t → c.args.a.now.w ≡ c.args.b.now.w) × (c.args.a.now.w ≡ c.args.b.now.w → IsTrue t)) (sym c.eq.ensures) (pointwise_decides decides c.args.a.now.w c.args.b.now.w)

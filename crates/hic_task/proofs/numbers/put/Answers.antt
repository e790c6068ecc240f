use Rattle.std.proofs.Common.{◌∙◌, ap, refl, sym, subst}
use Rattle.std.specs.Prelude.{slice_set}
use Rattle.hic_word.specs.declared.Kind.TheVariants.{Num}
use Rattle.hic_word.specs.Stands.{word_of}
use Rattle.reg_file.specs.Numbers.{HasNumber}
use Rattle.hic_task.proofs.numbers.put.Goals as goal

pub set_number-requires-clause-number : goal.set_number-requires-clause-number
set_number-requires-clause-number c = subst (HasNumber c.args.regs.now) (sym c.get.ensures.number) c.requires.holds

pub returns : goal.returns
returns c = record {
  goes = refl;
  words = c.set_number.ensures.words ∙ ap (λ r. slice_set c.args.regs.now r (word_of Num 0 c.args.number)) c.get.ensures.number;
  exchanges = c.set_number.ensures.exchanges;
}

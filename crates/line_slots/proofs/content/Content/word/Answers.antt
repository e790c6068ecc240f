use Rattle.std.proofs.Common.{Some, sym, ap, ◌∙◌, arith}
use Rattle.hic_word.specs.declared.Word.{Word}
use Rattle.line_slots.proofs.Filling.{word_there}
use Rattle.line_slots.proofs.content.Content.word.Goals as goal

pub returns : goal.returns
returns g c =
    let long = c.args.self.now.long in
    let tagged = c.args.self.now.tagged in
    word_there c.args.self.now.bits c.args.self.now.tags c.args.place _ _ (omega (arith, long, c.requires.inside)) (omega (arith, tagged, c.requires.inside)) ∙ ap (λ (word : Word). Some word) (sym c.word_of.ensures)

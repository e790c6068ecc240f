use Rattle.std.proofs.Common.{◌∷◌, ◌++◌, decimal, ◌∙◌, ap, arith}
use Rattle.hic_list.specs.Words.{word_text, words_line}
use Rattle.hic_list.proofs.Appending.{line-whole}
use Rattle.hic_list.proofs.lines.put_line.Goals as goal

pub returns : goal.returns
returns c =
    line-whole (word_text c.args.numbers.now) c.args.words.now c.loop-word.word-index c.args.line.now.items (35 ∷ decimal c.args.number) (110 ∷ decimal c.args.count) c.loop-word.line.items c.put.new.line.items (omega arith) c.loop-word.invariant.items c.put.ensures.items
    ∙ ap (λ start. start ++ words_line c.args.numbers.now c.args.number c.args.count c.args.words.now) c.requires.empty
